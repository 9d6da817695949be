-- Walks over pieces of several units, a piece at a time.
use Rattle.std.proofs.Common.{◌≡◌, ℕ, zero, suc, ◌+◌, ◌-◌, ◌<◌, ◌≤◌, List, [], ◌∷◌, length, drop, Option, Some, None, refl, sym, ap, ◌∙◌, arith}
use Rattle.std.specs.Prelude.{slice_index_or}
use Rattle.std.proofs.lemmas.List.{drop-drop, at_drop_more, at_drop_all}
use Rattle.regex_patterns.specs.declared.mode.Mode.{Mode}
use Rattle.regex_patterns.specs.Classes.{longer_by, ranges_from, range}
use Rattle.regex_patterns.proofs.Walks.{apart, same}

pub longer-0 : (o : Option ℕ) → longer_by 0 o ≡ o
longer-0 None = refl
longer-0 (Some n) = ap Some (omega arith)

pub longer-more : (a b : ℕ) (o : Option ℕ) → longer_by a (longer_by b o) ≡ longer_by (a + b) o
longer-more a b None = refl
longer-more a b (Some n) = ap Some (omega arith)

pub longer-suc : (k : ℕ) (o : Option ℕ) → longer_by 1 (longer_by k o) ≡ longer_by (suc k) o
longer-suc k None = refl
longer-suc k (Some n) = ap Some (omega arith)

module _ (m : Mode) where
  passed : (k : ℕ) (xs : List ℕ) → k ≤ length xs → ranges_from m k xs ≡ longer_by k (ranges_from m 0 (drop k xs))
  unfolding ranges_from
  passed zero xs le = sym (longer-0 (ranges_from m 0 xs))
  passed (suc k) [] le = absurd (omega (arith, le))
  passed (suc k) (x ∷ xs) le =
      ap (longer_by 1) (passed k xs (omega (arith, le))) ∙ longer-suc k (ranges_from m 0 (drop k xs))

  first : (xs : List ℕ) (n : ℕ) → (slice_index_or xs 0 0 ≡ 93 → ⊥) → range m xs ≡ Some n → 0 < n → n ≤ length xs
      → ranges_from m 0 xs ≡ longer_by n (ranges_from m 0 (drop n xs))
  unfolding ranges_from
  first [] n other is some le = absurd (omega (arith, some, le))
  first (x ∷ xs) zero other is some le = absurd (omega (arith, some))
  first (x ∷ xs) (suc n) other is some le =
      rw (apart x 93 other) (rw is (let one : suc n - 1 ≡ n = omega arith in
      ap (λ k. longer_by 1 (ranges_from m k xs)) one
      ∙ ap (longer_by 1) (passed n xs (omega (arith, le))) ∙ longer-suc n (ranges_from m 0 (drop n xs))))

  module _ (xs : List ℕ) (at : ℕ) where
    -- a range more
    pub range_on : (n : ℕ) → at < length xs → (slice_index_or xs at 0 ≡ 93 → ⊥) → range m (drop at xs) ≡ Some n → 0 < n
        → n ≤ length (drop at xs)
        → longer_by (at + n) (ranges_from m 0 (drop (at + n) xs)) ≡ longer_by at (ranges_from m 0 (drop at xs))
    range_on n lt other is some le =
        let head : slice_index_or (drop at xs) 0 0 ≡ slice_index_or xs at 0 = at_drop_more (λ ys. slice_index_or ys 0 0) xs at 0 lt in
        sym (ap (longer_by at) (first (drop at xs) n (λ e. other (sym head ∙ e)) is some le)
        ∙ longer-more at n (ranges_from m 0 (drop n (drop at xs)))
        ∙ ap (λ ys. longer_by (at + n) (ranges_from m 0 ys)) (drop-drop n at xs))

    pub range_end : at < length xs → slice_index_or xs at 0 ≡ 93 → ranges_from m 0 (drop at xs) ≡ Some 1
    unfolding ranges_from
    range_end lt is = at_drop_more (ranges_from m 0) xs at 0 lt ∙ rw (same _ _ is) refl

    pub range_none : at < length xs → (slice_index_or xs at 0 ≡ 93 → ⊥) → range m (drop at xs) ≡ None
        → ranges_from m 0 (drop at xs) ≡ None
    unfolding ranges_from
    range_none lt other is =
        at_drop_more (ranges_from m 0) xs at 0 lt
        ∙ rw (apart _ _ other) (rw (sym (at_drop_more (range m) xs at 0 lt) ∙ is) refl)

    pub range_over : length xs ≤ at → ranges_from m 0 (drop at xs) ≡ None
    unfolding ranges_from
    range_over le = at_drop_all (ranges_from m 0) xs at le
