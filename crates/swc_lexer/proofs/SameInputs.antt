-- Sources with the same fields are the same, whatever proves their invariants.
use Rattle.std.proofs.Common.{◌≡◌, ◌≤◌, false, List, length, Option, Some, None, refl, sym, ap, ◌∙◌}
use Rattle.std.proofs.Math.Bridge.{le_prop}
use Rattle.std.proofs.Math.Option.{Path-none_prop}
use Rattle.std.proofs.Math.Option as math
use Rattle.swc_lexer.specs.{declared.input.SourceText.Ghosts, declared.input.TextInput.TextInput}

module _ {A : Type 0} where
  abbrev to : Option A → math.Option A
  to None = math.none
  to (Some x) = math.some x

  abbrev from : math.Option A → Option A
  from math.none = None
  from (math.some x) = Some x

  abbrev back : (o : Option A) → from (to o) ≡ o
  back None = refl
  back (Some x) = refl

  same : (p : None ≡ None) → ap from (ap to p) ≡ p
  same p = λ j i. back (p i) j

  none_prop : (o : Option A) (p q : o ≡ None) → p ≡ q
  none_prop None p q = sym (same p) ∙ ap (ap from) (Path-none_prop math.none (ap to p) (ap to q)) ∙ same q
  none_prop (Some x) p q = let k : ⊥ = cc in absurd k

pub same_input : {T : Type 0} {g : Ghosts T} (s : TextInput T g) (a : s.reader.at ≤ length (g.bytes s.text))
    (b : s.failed ≡ false → s.held ≡ None) → record s { within = a; none_held = b } ≡ s
same_input s a b =
    ap (λ x. record s { within = x; none_held = b }) (le_prop a s.within)
    ∙ ap (λ x. record s { none_held = x }) (λ i h. none_prop s.held (b h) (s.none_held h) i)
