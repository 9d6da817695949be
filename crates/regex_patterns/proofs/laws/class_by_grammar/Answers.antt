use Rattle.regex_patterns.proofs.ByGrammar.{derived-class, class-of}
use Rattle.regex_patterns.proofs.laws.class_by_grammar.Goals as goal

pub returns : goal.returns
returns c = record { law = λ m xs n begins. ((λ is. derived-class m xs n begins is), λ k. class-of m xs n k) }
