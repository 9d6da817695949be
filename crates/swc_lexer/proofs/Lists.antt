-- Lists, as loops go over them.
use Rattle.std.proofs.Common.{◌≡◌, ℕ, suc, ◌+◌, ◌<◌, ◌≤◌, List, [], ◌∷◌, length, get_or, drop, sym, ap, ◌∙◌}
use Rattle.std.proofs.{lemmas.List.drop_all, Math.Seq.drop-cons, Math.Numerals.add-one}

-- what is left, and its first item
pub drop_one : {A : Type 0} (xs : List A) (i : ℕ) (x : A) → i < length xs → x ≡ get_or xs i x
    → drop i xs ≡ x ∷ drop (i + 1) xs
drop_one xs i x lt is = drop-cons xs i x lt ∙ ap (λ y. y ∷ drop (suc i) xs) (sym is) ∙ ap (λ n. x ∷ drop n xs)
    (sym (add-one i))

-- nothing is left
pub drop_none : {A : Type 0} (xs : List A) (i : ℕ) → length xs ≤ i → drop i xs ≡ []
drop_none xs i h = drop_all i xs h
