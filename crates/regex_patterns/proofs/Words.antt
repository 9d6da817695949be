-- A walk over a list of words.
use Rattle.std.proofs.Common.{◌≡◌, ℕ, ◌+◌, ◌<◌, ◌≤◌, true, false, List, length, drop, Option, Some, refl, ◌∙◌}
use Rattle.std.specs.Prelude.{slice_index_or}
use Rattle.std.proofs.lemmas.List.{at_drop_more, at_drop_all}
use Rattle.regex_patterns.specs.Properties.{has_from, and_byte, is_whole}
use Rattle.regex_patterns.proofs.Walks.{apart, same}

module _ (word bs : List ℕ) (at : ℕ) (found : Option ℕ) where
  pub byte_on : at < length bs → (slice_index_or bs at 0 ≡ 32 → ⊥)
      → has_from word found (drop at bs) ≡ has_from word (and_byte word found (slice_index_or bs at 0)) (drop (at + 1) bs)
  unfolding has_from
  byte_on lt other = at_drop_more (has_from word found) bs at 0 lt ∙ rw (apart _ _ other) refl

  pub word_found : at < length bs → slice_index_or bs at 0 ≡ 32 → is_whole word found ≡ true
      → has_from word found (drop at bs) ≡ true
  unfolding has_from
  word_found lt is whole = at_drop_more (has_from word found) bs at 0 lt ∙ rw (same _ _ is) (rw whole refl)

  pub word_on : at < length bs → slice_index_or bs at 0 ≡ 32 → is_whole word found ≡ false
      → has_from word found (drop at bs) ≡ has_from word (Some 0) (drop (at + 1) bs)
  unfolding has_from
  word_on lt is whole = at_drop_more (has_from word found) bs at 0 lt ∙ rw (same _ _ is) (rw whole refl)

  pub word_over : length bs ≤ at → has_from word found (drop at bs) ≡ is_whole word found
  unfolding has_from
  word_over le = at_drop_all (has_from word found) bs at le
