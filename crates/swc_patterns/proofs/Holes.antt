-- The holes at the end of the elements of an array pattern.
use Rattle.std.proofs.Common.{◌≡◌, suc, ◌-◌, true, false, List, [], ◌∷◌, Option, Some, None, length, take, refl, sym, ap, ◌∙◌, arith}
use Rattle.std.specs.Prelude.{slice_get}
use Rattle.swc_patterns.specs.Arrays.{put_elem, without_holes, is_hole, ends_in_hole}

last_index : {A : Type 0} (x : A) (xs : List A) → length (x ∷ xs) - 1 ≡ length xs
last_index x xs = omega arith

less_index : {A : Type 0} (x y : A) (ys : List A) → length (x ∷ y ∷ ys) - 1 ≡ suc (length (y ∷ ys) - 1)
less_index x y ys = omega arith

put_more : {X : Type 0} (x y : Option X) (ys : List (Option X)) → put_elem x (y ∷ ys) ≡ x ∷ y ∷ ys
put_more None y ys = refl
put_more (Some x) y ys = refl

ends_later : {X : Type 0} (x y : Option X) (ys : List (Option X)) → ends_in_hole (x ∷ y ∷ ys) ≡ ends_in_hole (y ∷ ys)
ends_later x y ys = ap (λ i. is_hole (slice_get (x ∷ y ∷ ys) i)) (less_index x y ys)

-- one element alone
alone : {X : Type 0} (x : Option X) → ends_in_hole (x ∷ []) ≡ is_hole (Some x)
alone x = ap (λ i. is_hole (slice_get (x ∷ []) i)) (last_index x [])

alone_taken : {X : Type 0} (x : Option X) → take (length (x ∷ []) - 1) (x ∷ []) ≡ []
alone_taken x = ap (λ i. take i (x ∷ [])) (last_index x [])

alone_gone : {X : Type 0} (x : Option X) → is_hole (Some x) ≡ true → [] ≡ without_holes (x ∷ [])
alone_gone None h = refl
alone_gone (Some x) h = absurd cc

alone_kept : {X : Type 0} (x : Option X) → is_hole (Some x) ≡ false → without_holes (x ∷ []) ≡ x ∷ []
alone_kept None h = absurd cc
alone_kept (Some x) h = refl

-- the last of them taken out
pub hole_taken : {X : Type 0} (xs : List (Option X)) → ends_in_hole xs ≡ true
    → without_holes (take (length xs - 1) xs) ≡ without_holes xs
hole_taken [] h = absurd cc
hole_taken (x ∷ []) h = ap without_holes (alone_taken x) ∙ alone_gone x (sym (alone x) ∙ h)
hole_taken (x ∷ y ∷ ys) h =
    ap (λ i. without_holes (take i (x ∷ y ∷ ys))) (less_index x y ys)
    ∙ ap (put_elem x) (hole_taken (y ∷ ys) (sym (ends_later x y ys) ∙ h))

-- none is left
pub hole_none : {X : Type 0} (xs : List (Option X)) → ends_in_hole xs ≡ false → without_holes xs ≡ xs
hole_none [] h = refl
hole_none (x ∷ []) h = alone_kept x (sym (alone x) ∙ h)
hole_none (x ∷ y ∷ ys) h = ap (put_elem x) (hole_none (y ∷ ys) (sym (ends_later x y ys) ∙ h)) ∙ put_more x y ys
