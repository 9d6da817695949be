-- Walks over units, a step at a time.
use Rattle.std.proofs.Common.{◌≡◌, ℕ, suc, ◌+◌, ◌<◌, ◌≤◌, Bool, true, false, List, ◌∷◌, length, drop, refl, sym, ◌∙◌, arith}
use Rattle.std.specs.Prelude.{nat_eq, nat_lt, slice_index_or}
use Rattle.std.proofs.lemmas.List.{at_drop_more, at_drop_all, drop_all}
use Rattle.std.proofs.lemmas.Bool.Decides.{nat_tests}
use Rattle.regex_patterns.specs.Signs.{while_len, number_from, and_digit, is_digit, without_zeros, is_up_to, times}

pub apart : (x y : ℕ) → (x ≡ y → ⊥) → nat_eq x y ≡ false
apart x y other = grind (arith, other, nat_tests)

pub same : (x y : ℕ) → x ≡ y → nat_eq x y ≡ true
same x y is = grind (arith, is, nat_tests)

module _ (xs : List ℕ) (at : ℕ) where
  pub while_on : (p : ℕ → Bool) → at < length xs → p (slice_index_or xs at 0) ≡ true
      → while_len p (drop at xs) ≡ suc (while_len p (drop (at + 1) xs))
  unfolding while_len
  while_on p lt is = at_drop_more (while_len p) xs at 0 lt ∙ rw is refl

  pub while_off : (p : ℕ → Bool) → at < length xs → p (slice_index_or xs at 0) ≡ false → while_len p (drop at xs) ≡ 0
  unfolding while_len
  while_off p lt is = at_drop_more (while_len p) xs at 0 lt ∙ rw is refl

  pub while_over : (p : ℕ → Bool) → length xs ≤ at → while_len p (drop at xs) ≡ 0
  unfolding while_len
  while_over p le = at_drop_all (while_len p) xs at le

  pub number_on : (n : ℕ) → at < length xs → is_digit (slice_index_or xs at 0) ≡ true
      → number_from n (drop at xs) ≡ number_from (and_digit n (slice_index_or xs at 0)) (drop (at + 1) xs)
  unfolding number_from
  number_on n lt is = at_drop_more (number_from n) xs at 0 lt ∙ rw is refl

  pub number_off : (n : ℕ) → at < length xs → is_digit (slice_index_or xs at 0) ≡ false → number_from n (drop at xs) ≡ n
  unfolding number_from
  number_off n lt is = at_drop_more (number_from n) xs at 0 lt ∙ rw is refl

  pub number_over : (n : ℕ) → length xs ≤ at → number_from n (drop at xs) ≡ n
  unfolding number_from
  number_over n le = at_drop_all (number_from n) xs at le

  pub zeros_on : at < length xs → slice_index_or xs at 0 ≡ 48 → without_zeros (drop at xs) ≡ without_zeros (drop (at + 1) xs)
  unfolding without_zeros
  zeros_on lt is = at_drop_more without_zeros xs at 0 lt ∙ rw (same _ _ is) refl

  pub zeros_off : at < length xs → (slice_index_or xs at 0 ≡ 48 → ⊥) → without_zeros (drop at xs) ≡ drop at xs
  unfolding without_zeros
  zeros_off lt other =
      at_drop_more without_zeros xs at 0 lt ∙ rw (apart _ _ other) (sym (at_drop_more (λ ys. ys) xs at 0 lt))

  pub zeros_over : length xs ≤ at → without_zeros (drop at xs) ≡ drop at xs
  unfolding without_zeros
  zeros_over le = at_drop_all without_zeros xs at le ∙ sym (drop_all at xs le)

  pub times_on : (u : ℕ) → at < length xs → slice_index_or xs at 0 ≡ u → times u (drop at xs) ≡ suc (times u (drop (at + 1) xs))
  unfolding times
  times_on u lt is = at_drop_more (times u) xs at 0 lt ∙ rw (same _ _ is) (omega arith)

  pub times_off : (u : ℕ) → at < length xs → (slice_index_or xs at 0 ≡ u → ⊥) → times u (drop at xs) ≡ times u (drop (at + 1) xs)
  unfolding times
  times_off u lt other = at_drop_more (times u) xs at 0 lt ∙ rw (apart _ _ other) (omega arith)

  pub times_over : (u : ℕ) → length xs ≤ at → times u (drop at xs) ≡ 0
  unfolding times
  times_over u le = at_drop_all (times u) xs at le

module _ (xs ys : List ℕ) (at : ℕ) (long : length xs ≡ length ys) where
  both : at < length xs → is_up_to (drop at xs) (drop at ys)
      ≡ is_up_to (slice_index_or xs at 0 ∷ drop (at + 1) xs) (slice_index_or ys at 0 ∷ drop (at + 1) ys)
  both lt = at_drop_more (λ zs. is_up_to zs (drop at ys)) xs at 0 lt
      ∙ at_drop_more (is_up_to (slice_index_or xs at 0 ∷ drop (at + 1) xs)) ys at 0 (omega (arith, lt, long))

  pub up_to_on : at < length xs → slice_index_or xs at 0 ≡ slice_index_or ys at 0
      → is_up_to (drop at xs) (drop at ys) ≡ is_up_to (drop (at + 1) xs) (drop (at + 1) ys)
  unfolding is_up_to
  up_to_on lt is = both lt ∙ rw (same _ _ is) refl

  pub up_to_off : at < length xs → (slice_index_or xs at 0 ≡ slice_index_or ys at 0 → ⊥)
      → is_up_to (drop at xs) (drop at ys) ≡ nat_lt (slice_index_or xs at 0) (slice_index_or ys at 0)
  unfolding is_up_to
  up_to_off lt other = both lt ∙ rw (apart _ _ other) refl

  pub up_to_over : length xs ≤ at → is_up_to (drop at xs) (drop at ys) ≡ true
  unfolding is_up_to
  up_to_over le = at_drop_all (λ zs. is_up_to zs (drop at ys)) xs at le
