use Rattle.std.proofs.Common.{refl}
use Rattle.swc_lexer.proofs.Sums.{hands_lower, progress}
use Rattle.swc_lexer.proofs.input.TextInputIterator.next.Goals as goal

pub returns-in-Ok-Some-clause-goes : goal.returns-in-Ok-Some-clause-goes
returns-in-Ok-Some-clause-goes g c =
    progress _ _ _ _ _ _ _ refl refl tt
    (hands_lower c.args.self.now _ _ _ _ _ _ c.in-Ok-Some.token _ _ _ c.as_text.ensures c.in-Ok-Some.ensures.given
    c.in-Ok-Some.field-0-is
    c.hand.ensures.reading c.hand.ensures.same.text c.hand.ensures.hands)
