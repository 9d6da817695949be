-- Walks over classes that may be in one another.
use Rattle.std.proofs.Common.{◌≡◌, ℕ, zero, suc, ◌+◌, ◌-◌, ◌<◌, ◌≤◌, List, [], ◌∷◌, length, drop, Some, None, refl, sym, ap, ◌∙◌, arith}
use Rattle.std.specs.Prelude.{if◌then◌else◌, nat_eq, slice_index_or}
use Rattle.std.proofs.lemmas.List.{drop-drop, at_drop_more, at_drop_all}
use Rattle.regex_patterns.specs.declared.mode.Mode.{Mode}
use Rattle.regex_patterns.specs.declared.sets.Set.{Set}
use Rattle.regex_patterns.specs.Classes.{longer_by, opening}
use Rattle.regex_patterns.specs.Sets.{sets_from, part, begun, closed, ended, innermost, outer, after_close, after_part}
use Rattle.regex_patterns.proofs.Lengths.{longer-0, longer-more, longer-suc}
use Rattle.regex_patterns.proofs.Walks.{apart, same}

module _ (m : Mode) (us : List Set) (s : Set) where
  pub passed : (k at : ℕ) (xs : List ℕ) → k ≤ length xs
      → sets_from m us s at k xs ≡ longer_by k (sets_from m us s (at + k) 0 (drop k xs))
  unfolding sets_from
  passed zero at xs le =
      (let none : at ≡ at + 0 = omega arith in ap (λ i. sets_from m us s i 0 xs) none)
      ∙ sym (longer-0 (sets_from m us s (at + 0) 0 xs))
  passed (suc k) at [] le = absurd (omega (arith, le))
  passed (suc k) at (x ∷ xs) le =
      ap (longer_by 1) (passed k (suc at) xs (omega (arith, le)))
      ∙ longer-suc k (sets_from m us s (suc at + k) 0 (drop k xs))
      ∙ (let same : suc at + k ≡ at + suc k = omega arith in ap (λ i. longer_by (suc k) (sets_from m us s i 0 (drop k xs))) same)

-- where no class begins or ends
pub part_at : (m : Mode) (us : List Set) (s : Set) (at x : ℕ) (xs : List ℕ) → (x ≡ 93 → ⊥) → (x ≡ 91 → ⊥)
    → sets_from m us s at 0 (x ∷ xs) ≡ after_part (part m s (x ∷ xs)) (λ t k. sets_from m us t (suc at) k xs)
unfolding sets_from
part_at m us s at x xs off not =
    ap (λ b. if b then after_close (closed (ended s) (innermost us)) (λ t. sets_from m (outer us) t (suc at) 0 xs)
    else if nat_eq x 91 then longer_by 1 (sets_from m (s ∷ us) (begun at (x ∷ xs)) (suc at) (opening (x ∷ xs) - 1) xs)
    else after_part (part m s (x ∷ xs)) (λ t k. sets_from m us t (suc at) k xs)) (apart x 93 off)
    ∙ ap (λ b. if b then longer_by 1 (sets_from m (s ∷ us) (begun at (x ∷ xs)) (suc at) (opening (x ∷ xs) - 1) xs)
    else after_part (part m s (x ∷ xs)) (λ t k. sets_from m us t (suc at) k xs)) (apart x 91 not)

module _ (m : Mode) (us : List Set) (s : Set) where
  pub first : (xs : List ℕ) (at n : ℕ) (t : Set) → (slice_index_or xs 0 0 ≡ 93 → ⊥) → (slice_index_or xs 0 0 ≡ 91 → ⊥)
      → part m s xs ≡ Some (t, n) → 0 < n → n ≤ length xs
      → sets_from m us s at 0 xs ≡ longer_by n (sets_from m us t (at + n) 0 (drop n xs))
  first [] at n t off not is some le = absurd (omega (arith, some, le))
  first (x ∷ xs) at zero t off not is some le = absurd (omega (arith, some))
  first (x ∷ xs) at (suc n) t off not is some le =
      part_at m us s at x xs off not ∙ ap (λ e. after_part e (λ t k. sets_from m us t (suc at) k xs)) is
      ∙ (let one : suc n - 1 ≡ n = omega arith in
      let same : suc at + n ≡ at + suc n = omega arith in
      ap (λ k. longer_by 1 (sets_from m us t (suc at) k xs)) one
      ∙ ap (longer_by 1) (passed m us t n (suc at) xs (omega (arith, le)))
      ∙ longer-suc n (sets_from m us t (suc at + n) 0 (drop n xs))
      ∙ ap (λ i. longer_by (suc n) (sets_from m us t i 0 (drop n xs))) same)

  pub begins : (xs : List ℕ) (at n : ℕ) → slice_index_or xs 0 0 ≡ 91 → n ≡ opening xs → 0 < n → n ≤ length xs
      → sets_from m us s at 0 xs ≡ longer_by n (sets_from m (s ∷ us) (begun at xs) (at + n) 0 (drop n xs))
  unfolding sets_from
  begins [] at n is is-n some le = absurd (omega (arith, some, le))
  begins (x ∷ xs) at zero is is-n some le = absurd (omega (arith, some))
  begins (x ∷ xs) at (suc n) is is-n some le =
      rw (apart x 93 (λ e. absurd (omega (arith, is, e)))) (rw (same x 91 is) (let one : opening (x ∷ xs) - 1 ≡ n = omega (arith, is-n) in
      let same : suc at + n ≡ at + suc n = omega arith in
      ap (λ k. longer_by 1 (sets_from m (s ∷ us) (begun at (x ∷ xs)) (suc at) k xs)) one
      ∙ ap (longer_by 1) (passed m (s ∷ us) (begun at (x ∷ xs)) n (suc at) xs (omega (arith, le)))
      ∙ longer-suc n (sets_from m (s ∷ us) (begun at (x ∷ xs)) (suc at + n) 0 (drop n xs))
      ∙ ap (λ i. longer_by (suc n) (sets_from m (s ∷ us) (begun at (x ∷ xs)) i 0 (drop n xs))) same))

  module _ (xs : List ℕ) (at : ℕ) where
    head : at < length xs → slice_index_or (drop at xs) 0 0 ≡ slice_index_or xs at 0
    head lt = at_drop_more (λ ys. slice_index_or ys 0 0) xs at 0 lt

    pub part_on : (n : ℕ) (t : Set) → at < length xs → (slice_index_or xs at 0 ≡ 93 → ⊥) → (slice_index_or xs at 0 ≡ 91 → ⊥)
        → part m s (drop at xs) ≡ Some (t, n) → 0 < n → n ≤ length (drop at xs)
        → longer_by (at + n) (sets_from m us t (at + n) 0 (drop (at + n) xs))
        ≡ longer_by at (sets_from m us s at 0 (drop at xs))
    part_on n t lt off not is some le =
        sym (ap (longer_by at) (first (drop at xs) at n t (λ e. off (sym (head lt) ∙ e)) (λ e. not (sym (head lt) ∙ e)) is some le)
        ∙ longer-more at n (sets_from m us t (at + n) 0 (drop n (drop at xs)))
        ∙ ap (λ ys. longer_by (at + n) (sets_from m us t (at + n) 0 ys)) (drop-drop n at xs))

    pub part_none : at < length xs → (slice_index_or xs at 0 ≡ 93 → ⊥) → (slice_index_or xs at 0 ≡ 91 → ⊥)
        → part m s (drop at xs) ≡ None → sets_from m us s at 0 (drop at xs) ≡ None
    part_none lt off not is =
        at_drop_more (sets_from m us s at 0) xs at 0 lt
        ∙ part_at m us s at (slice_index_or xs at 0) (drop (at + 1) xs) off not
        ∙ ap (λ e. after_part e (λ t k. sets_from m us t (suc at) k (drop (at + 1) xs))) (sym (at_drop_more (part m s) xs at 0 lt) ∙ is)

    pub opens : (n : ℕ) → at < length xs → slice_index_or xs at 0 ≡ 91 → n ≡ opening (drop at xs) → 0 < n
        → n ≤ length (drop at xs)
        → longer_by (at + n) (sets_from m (s ∷ us) (begun at (drop at xs)) (at + n) 0 (drop (at + n) xs))
        ≡ longer_by at (sets_from m us s at 0 (drop at xs))
    opens n lt is is-n some le =
        sym (ap (longer_by at) (begins (drop at xs) at n (head lt ∙ is) is-n some le)
        ∙ longer-more at n (sets_from m (s ∷ us) (begun at (drop at xs)) (at + n) 0 (drop n (drop at xs)))
        ∙ ap (λ ys. longer_by (at + n) (sets_from m (s ∷ us) (begun at (drop at xs)) (at + n) 0 ys)) (drop-drop n at xs))

    at_close : at < length xs → slice_index_or xs at 0 ≡ 93 → sets_from m us s at 0 (drop at xs)
        ≡ after_close (closed (ended s) (innermost us)) (λ t. sets_from m (outer us) t (suc at) 0 (drop (at + 1) xs))
    unfolding sets_from
    at_close lt is = at_drop_more (sets_from m us s at 0) xs at 0 lt ∙ rw (same _ _ is) refl

    pub close_none : at < length xs → slice_index_or xs at 0 ≡ 93 → closed (ended s) (innermost us) ≡ None
        → sets_from m us s at 0 (drop at xs) ≡ None
    close_none lt is none = at_close lt is ∙ ap (λ o. after_close o (λ t. sets_from m (outer us) t (suc at) 0 (drop (at + 1) xs))) none

    pub close_last : at < length xs → slice_index_or xs at 0 ≡ 93 → closed (ended s) (innermost us) ≡ Some None
        → sets_from m us s at 0 (drop at xs) ≡ Some 1
    close_last lt is none = at_close lt is ∙ ap (λ o. after_close o (λ t. sets_from m (outer us) t (suc at) 0 (drop (at + 1) xs))) none

    pub close_on : (t : Set) → at < length xs → slice_index_or xs at 0 ≡ 93 → closed (ended s) (innermost us) ≡ Some (Some t)
        → longer_by (at + 1) (sets_from m (outer us) t (at + 1) 0 (drop (at + 1) xs))
        ≡ longer_by at (sets_from m us s at 0 (drop at xs))
    close_on t lt is here =
        let one : suc at ≡ at + 1 = omega arith in
        sym (ap (longer_by at) (at_close lt is ∙ ap (λ o. after_close o (λ t. sets_from m (outer us) t (suc at) 0 (drop (at + 1) xs))) here)
        ∙ longer-more at 1 (sets_from m (outer us) t (suc at) 0 (drop (at + 1) xs))
        ∙ ap (λ i. longer_by (at + 1) (sets_from m (outer us) t i 0 (drop (at + 1) xs))) one)

    pub sets_over : length xs ≤ at → sets_from m us s at 0 (drop at xs) ≡ None
    unfolding sets_from
    sets_over le = at_drop_all (sets_from m us s at 0) xs at le
