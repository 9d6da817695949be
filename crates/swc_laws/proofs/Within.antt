-- Induction over readings of lists of which something holds that holds of what is left of such a list too.
use Rattle.std.specs.Prelude.{List, [], ◌∷◌, ◌++◌}
use Rattle.std.proofs.Common.{subst}
use Rattle.swc_input.specs.declared.token.TokenAndSpan.{TokenAndSpan}
use Rattle.swc_bodies.specs.Readings.{Hook}
use Rattle.swc_grammar.specs.Symbols.{Symbol, Answer, Side}
use Rattle.swc_grammar.specs.Reads.{Reads, by, Follows, gave, took, held, calm, calm-two, part, heard}
use Rattle.swc_grammar.specs.{Scope.Scope, Grammar.Production}
use Rattle.swc_grammar.proofs.Cut.{consumed}
use Rattle.swc_grammar.proofs.Induct.{Ran, ran-gave, ran-took, ran-held, ran-calm, ran-calm-two, ran-part, ran-heard}

module _ {F C K : Type 0} (hook : Hook F C K)
    (P : (s : Symbol) → Scope → List TokenAndSpan → List TokenAndSpan → Answer F C K s → Type 0)
    (W : List TokenAndSpan → Type 0) (tail : (a : TokenAndSpan) (xs : List TokenAndSpan) → W (a ∷ xs) → W xs)
    (step : (s : Symbol) (c : Scope) (r : Side F C K s) (xs ys : List TokenAndSpan) (t : Answer F C K s) → W xs
    → Production s c r → Ran hook P s r xs ys t → P s c xs ys t) where
  behind : (own : List TokenAndSpan) {ms : List TokenAndSpan} → W (own ++ ms) → W ms
  behind [] w = w
  behind (a ∷ own) {ms = ms} w = behind own (tail a (own ++ ms) w)

  mutual
    pub every-within : {s : Symbol} {c : Scope} {xs ys : List TokenAndSpan} {t : Answer F C K s} → W xs
        → Reads hook s c xs ys t → P s c xs ys t
    every-within w (by p d) = step _ _ _ _ _ _ w p (side-within w d)

    side-within : {s : Symbol} {r : Side F C K s} {xs ys : List TokenAndSpan} {t : Answer F C K s} → W xs
        → Follows hook s r xs ys t → Ran hook P s r xs ys t
    side-within w gave = ran-gave
    side-within w (took {a = a} {xs = xs} d) = ran-took (side-within (tail a xs w) d)
    side-within w (held h d) = ran-held h (side-within w d)
    side-within w (calm h d) = ran-calm h (side-within w d)
    side-within w (calm-two h d) = ran-calm-two h (side-within w d)
    side-within w (part e d) =
        let (own, k) = consumed e in
        ran-part e (every-within w e) (side-within (behind own (subst W k w)) d)
    side-within w (heard h d) = ran-heard h (side-within (behind h.own (subst W h.list w)) d)
