-- Past the end of a source.
use Rattle.std.proofs.Common.{◌≡◌, true, [], ◌++◌, Option, Some, None, refl, sym, ap, ◌∙◌}
use Rattle.std.proofs.lemmas.List.{append-nil}
use Rattle.swc_input.specs.Source.{Model, Laws, given_one}
use Rattle.swc_input.specs.Buffer.{Looked, current, peeked, source, held}
use Rattle.swc_input.specs.{declared.buffer.Buffer.Buffer, declared.token.TokenAndSpan.TokenAndSpan}

none_held : (o p : Option TokenAndSpan) → given_one o ++ given_one p ≡ [] → o ≡ None
none_held None p h = refl
none_held (Some t) p h = cc

-- there a look finds nothing
pub past_end : {S : Type 0} {model : Model S} {b c : Buffer S} → Laws model → Looked model b c →
    current b ≡ None → peeked b ≡ None → (model.state (source b)).ended ≡ true → current c ≡ None
past_end {b = b} {c = c} laws l e f ended =
    let took = l.look.read.took in
    let none = (laws.gave b.iter c.iter took.given took.gave).ended ended in
    let empty : held c ≡ [] = sym took.balance ∙ ap (λ g. held b ++ g) none ∙ append-nil (held b) ∙ ap
    (λ o. given_one o ++ given_one (peeked b)) e ∙ ap given_one f in
    none_held (current c) (peeked c) empty
