-- Slashes are characters of their own.
use Rattle.std.proofs.Common.{◌≡◌, ℕ, zero, suc, ◌+◌, ◌<◌, Bool, true, List, [], ◌∷◌, length, get_or, sym, ap, ◌∙◌, arith, subst}
use Rattle.std.specs.{Prelude.nat_eq, Str.IsCharBoundary, Str.IsUtf8}
use Rattle.std.proofs.{lemmas.Bool.Decides.nat_tests, lemmas.Str.IsCharBoundary-after_ascii}
use Rattle.swc_lexical.specs.Runs.{is_at}

is_eq : (a b : ℕ) → nat_eq a b ≡ true → a ≡ b
is_eq a b h = grind (arith, nat_tests)

at_is : (bs : List ℕ) (k v : ℕ) → is_at bs k v ≡ true → (k < length bs) × (get_or bs k 0 ≡ v)
at_is [] zero v h = cc
at_is [] (suc k) v h = cc
at_is (b ∷ bs) zero v h = (omega arith, is_eq b v h)
at_is (b ∷ bs) (suc k) v h = let r = at_is bs k v h in (omega (arith, r.0), r.1)

pub after_slash : (bs : List ℕ) (k : ℕ) → IsUtf8 bs → is_at bs k 47 ≡ true → IsCharBoundary bs (k + 1)
after_slash bs k u h = let a = at_is bs k 47 h in IsCharBoundary-after_ascii bs k u a.0 (omega (arith, a.1))

same : (bs text : List ℕ) (k : ℕ) (r : Bool) → bs ≡ text → r ≡ is_at bs k 47 → r ≡ true → is_at text k 47 ≡ true
same bs text k r is value hit = ap (λ b. is_at b k 47) (sym is) ∙ sym value ∙ hit

pub at_slash : (bs text : List ℕ) (k : ℕ) (r : Bool) → bs ≡ text → r ≡ is_at bs k 47 → r ≡ true → IsCharBoundary text k
at_slash bs text k r is value hit = let a = at_is text k 47 (same bs text k r is value hit) in
    (omega (arith, a.0), λ l h. omega (arith, a.1, h))

pub past_slash : (bs text : List ℕ) (n : ℕ) (r : Bool) → IsUtf8 text → bs ≡ text → r ≡ is_at bs (n + 1) 47 → r ≡ true
    → IsCharBoundary text (n + 2)
past_slash bs text n r u is value hit =
    let e : n + 1 + 1 ≡ n + 2 = omega arith in subst (IsCharBoundary text) e
    (after_slash text (n + 1) u (same bs text (n + 1) r is value hit))
