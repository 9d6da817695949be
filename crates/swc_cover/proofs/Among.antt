-- What is one of a list.
use Rattle.std.proofs.Common.{inl, inr, List, [], ◌∷◌, ◌++◌}
use Rattle.swc_cover.specs.Moving.{In}

module _ {A : Type 0} where
  pub in-left : (a : A) (xs ys : List A) → In a xs → In a (xs ++ ys)
  in-left a [] ys i = absurd i
  in-left a (x ∷ xs) ys (inl e) = inl e
  in-left a (x ∷ xs) ys (inr i) = inr (in-left a xs ys i)

  pub in-right : (a : A) (xs ys : List A) → In a ys → In a (xs ++ ys)
  in-right a [] ys i = i
  in-right a (x ∷ xs) ys i = inr (in-right a xs ys i)
