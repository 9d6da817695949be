use Rattle.swc_lexer.specs.Comments.{GoesTo}
use Rattle.swc_lexer.proofs.comments.push_among.Given as goal

abbrev pub invariant-loop-token : goal.invariant-loop-token
invariant-loop-token l = GoesTo l.text l.tokens l.fn.begin l.token-index l.at l.comments.items l.fn.comments.items
