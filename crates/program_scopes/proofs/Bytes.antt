-- When names are the same.
use Rattle.std.proofs.Common.{◌≡◌, ℕ, Bool, true, false, List, refl, sym, subst, ◌∙◌, ◌⊎◌, inl, inr, rules}
use Rattle.std.specs.Str.{bytes_eq}
use Rattle.std.proofs.lemmas.Slice.Eq.{bytes_eq-Decides}

pub split : (b : Bool) → (b ≡ true) ⊎ (b ≡ false)
split true = inl refl
split false = inr refl

pub bytes-same : (p q : List ℕ) → bytes_eq p q ≡ true → p ≡ q
bytes-same p q is = search (rules, bytes_eq-Decides)

pub bytes-refl : (p : List ℕ) → bytes_eq p p ≡ true
bytes-refl p = search (rules, bytes_eq-Decides)

pub bytes-sym : (p q : List ℕ) → bytes_eq p q ≡ bytes_eq q p
bytes-sym p q = by (split (bytes_eq p q)) (split (bytes_eq q p))
  where
    by : (bytes_eq p q ≡ true) ⊎ (bytes_eq p q ≡ false) → (bytes_eq q p ≡ true) ⊎ (bytes_eq q p ≡ false) → bytes_eq p q ≡ bytes_eq q p
    by (inl a) (inl b) = a ∙ sym b
    by (inr a) (inr b) = a ∙ sym b
    by (inl a) (inr b) = subst (λ r. bytes_eq p r ≡ bytes_eq r p) (bytes-same p q a) refl
    by (inr a) (inl b) = subst (λ r. bytes_eq p r ≡ bytes_eq r p) (sym (bytes-same q p b)) refl
