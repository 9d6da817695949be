-- Walks over the strings of a class.
use Rattle.std.proofs.Common.{◌≡◌, ℕ, zero, suc, ◌+◌, ◌-◌, ◌<◌, ◌≤◌, Bool, true, false, List, [], ◌∷◌, length, drop, Option, Some, None, refl, sym, ap, ◌∙◌, arith}
use Rattle.std.specs.Prelude.{if◌then◌else◌, nat_eq, slice_index_or}
use Rattle.std.proofs.lemmas.List.{drop-drop, at_drop_more, at_drop_all}
use Rattle.regex_patterns.specs.declared.mode.Mode.{Mode}
use Rattle.regex_patterns.specs.declared.escape.Meaning.{Meaning}
use Rattle.regex_patterns.specs.Sets.{strings_from, element, or_other, longer, after_character, is_character}
use Rattle.regex_patterns.proofs.Shifts.{shifted}
use Rattle.regex_patterns.proofs.Walks.{apart, same}

shifted-0 : (o : Option (Bool × ℕ)) → shifted 0 o ≡ o
shifted-0 None = refl
shifted-0 (Some r) = ap (λ n. Some (r.0, n)) (omega arith)

shifted-more : (a b : ℕ) (o : Option (Bool × ℕ)) → shifted a (shifted b o) ≡ shifted (a + b) o
shifted-more a b None = refl
shifted-more a b (Some r) = ap (λ n. Some (r.0, n)) (omega arith)

shifted-suc : (k : ℕ) (o : Option (Bool × ℕ)) → longer (shifted k o) ≡ shifted (suc k) o
shifted-suc k None = refl
shifted-suc k (Some r) = ap (λ n. Some (r.0, n)) (omega arith)

longer-1 : (o : Option (Bool × ℕ)) → longer o ≡ shifted 1 o
longer-1 None = refl
longer-1 (Some r) = refl

module _ (m : Mode) (count : ℕ) (others : Bool) where
  passed : (k : ℕ) (xs : List ℕ) → k ≤ length xs
      → strings_from m count others k xs ≡ shifted k (strings_from m count others 0 (drop k xs))
  unfolding strings_from
  passed zero xs le = sym (shifted-0 (strings_from m count others 0 xs))
  passed (suc k) [] le = absurd (omega (arith, le))
  passed (suc k) (x ∷ xs) le =
      ap longer (passed k xs (omega (arith, le))) ∙ shifted-suc k (strings_from m count others 0 (drop k xs))

-- where no string ends
element_at : (m : Mode) (count : ℕ) (others : Bool) (x : ℕ) (xs : List ℕ) → (x ≡ 125 → ⊥) → (x ≡ 124 → ⊥)
    → strings_from m count others 0 (x ∷ xs)
    ≡ after_character (element m (x ∷ xs)) (λ k. strings_from m (suc count) others k xs)
unfolding strings_from
element_at m count others x xs off not =
    ap (λ b. if b then Some (or_other others count, 1) else if nat_eq x 124 then longer (strings_from m 0 (or_other others count) 0 xs)
    else after_character (element m (x ∷ xs)) (λ k. strings_from m (suc count) others k xs)) (apart x 125 off)
    ∙ ap (λ b. if b then longer (strings_from m 0 (or_other others count) 0 xs)
    else after_character (element m (x ∷ xs)) (λ k. strings_from m (suc count) others k xs)) (apart x 124 not)

module _ (m : Mode) (count : ℕ) (others : Bool) where
  first : (xs : List ℕ) (n : ℕ) (v : Meaning) → (slice_index_or xs 0 0 ≡ 125 → ⊥) → (slice_index_or xs 0 0 ≡ 124 → ⊥)
      → element m xs ≡ Some (v, n) → is_character v ≡ true → 0 < n → n ≤ length xs
      → strings_from m count others 0 xs ≡ shifted n (strings_from m (suc count) others 0 (drop n xs))
  first [] n v off not is one some le = absurd (omega (arith, some, le))
  first (x ∷ xs) zero v off not is one some le = absurd (omega (arith, some))
  first (x ∷ xs) (suc n) v off not is one some le =
      element_at m count others x xs off not
      ∙ ap (λ e. after_character e (λ k. strings_from m (suc count) others k xs)) is
      ∙ ap (λ b. if b then longer (strings_from m (suc count) others (suc n - 1) xs) else None) one
      ∙ (let one : suc n - 1 ≡ n = omega arith in
      ap (λ k. longer (strings_from m (suc count) others k xs)) one
      ∙ ap longer (passed m (suc count) others n xs (omega (arith, le)))
      ∙ shifted-suc n (strings_from m (suc count) others 0 (drop n xs)))

  module _ (xs : List ℕ) (at : ℕ) where
    here : at < length xs → (slice_index_or xs at 0 ≡ 125 → ⊥) → (slice_index_or xs at 0 ≡ 124 → ⊥)
        → strings_from m count others 0 (drop at xs)
        ≡ after_character (element m (drop at xs)) (λ k. strings_from m (suc count) others k (drop (at + 1) xs))
    here lt off not =
        at_drop_more (strings_from m count others 0) xs at 0 lt
        ∙ element_at m count others (slice_index_or xs at 0) (drop (at + 1) xs) off not
        ∙ sym (at_drop_more (λ ys. after_character (element m ys) (λ k. strings_from m (suc count) others k (drop (at + 1) xs))) xs at 0 lt)

    pub string_end : at < length xs → slice_index_or xs at 0 ≡ 125
        → strings_from m count others 0 (drop at xs) ≡ Some (or_other others count, 1)
    unfolding strings_from
    string_end lt is = at_drop_more (strings_from m count others 0) xs at 0 lt ∙ rw (same _ _ is) refl

    pub string_next : at < length xs → slice_index_or xs at 0 ≡ 124
        → shifted (at + 1) (strings_from m 0 (or_other others count) 0 (drop (at + 1) xs))
        ≡ shifted at (strings_from m count others 0 (drop at xs))
    unfolding strings_from
    string_next lt is =
        sym (ap (shifted at) (at_drop_more (strings_from m count others 0) xs at 0 lt
        ∙ rw (apart (slice_index_or xs at 0) 125 (λ e. absurd (omega (arith, is, e)))) (rw (same _ _ is) (longer-1 (strings_from m 0 (or_other others count) 0 (drop (at + 1) xs)))))
        ∙ shifted-more at 1 (strings_from m 0 (or_other others count) 0 (drop (at + 1) xs)))

    pub string_on : (n : ℕ) (v : Meaning) → at < length xs → (slice_index_or xs at 0 ≡ 125 → ⊥)
        → (slice_index_or xs at 0 ≡ 124 → ⊥) → element m (drop at xs) ≡ Some (v, n) → is_character v ≡ true → 0 < n
        → n ≤ length (drop at xs)
        → shifted (at + n) (strings_from m (count + 1) others 0 (drop (at + n) xs))
        ≡ shifted at (strings_from m count others 0 (drop at xs))
    string_on n v lt off not is one some le =
        let head : slice_index_or (drop at xs) 0 0 ≡ slice_index_or xs at 0 = at_drop_more (λ ys. slice_index_or ys 0 0) xs at 0 lt in
        let more : suc count ≡ count + 1 = omega arith in
        sym (ap (shifted at) (first (drop at xs) n v (λ e. off (sym head ∙ e)) (λ e. not (sym head ∙ e)) is one some le)
        ∙ shifted-more at n (strings_from m (suc count) others 0 (drop n (drop at xs)))
        ∙ ap (λ ys. shifted (at + n) (strings_from m (suc count) others 0 ys)) (drop-drop n at xs)
        ∙ ap (λ k. shifted (at + n) (strings_from m k others 0 (drop (at + n) xs))) more)

    pub string_none : at < length xs → (slice_index_or xs at 0 ≡ 125 → ⊥) → (slice_index_or xs at 0 ≡ 124 → ⊥)
        → element m (drop at xs) ≡ None → strings_from m count others 0 (drop at xs) ≡ None
    string_none lt off not is =
        here lt off not ∙ ap (λ e. after_character e (λ k. strings_from m (suc count) others k (drop (at + 1) xs))) is

    pub string_class : (v : Meaning) (n : ℕ) → at < length xs → (slice_index_or xs at 0 ≡ 125 → ⊥)
        → (slice_index_or xs at 0 ≡ 124 → ⊥) → element m (drop at xs) ≡ Some (v, n) → is_character v ≡ false
        → strings_from m count others 0 (drop at xs) ≡ None
    string_class v n lt off not is none =
        here lt off not ∙ ap (λ e. after_character e (λ k. strings_from m (suc count) others k (drop (at + 1) xs))) is
        ∙ ap (λ b. if b then longer (strings_from m (suc count) others (n - 1) (drop (at + 1) xs)) else None) none

    pub string_over : length xs ≤ at → strings_from m count others 0 (drop at xs) ≡ None
    unfolding strings_from
    string_over le = at_drop_all (strings_from m count others 0) xs at le
