-- Blanks (ECMA-262, 12.2 and 12.3) and comments (12.4), and that nothing else is between the tokens.
use Rattle.std.specs.Prelude.{◌≡◌, ℕ, ◌+◌, List, [], ◌∷◌, Some, Bool, drop, slice_get, slice_range}
use Rattle.std.specs.List.{list_any}
use Rattle.swc_input.specs.declared.token.TokenAndSpan.{TokenAndSpan}
use Rattle.swc_tokens.specs.Profile.{blanks_len, is_line_break}

-- whether a line break is among the bytes from one position to before another
unfoldable pub has_line_break : List ℕ → ℕ → ℕ → Bool
has_line_break text low high = list_any is_line_break (slice_range text low high)

-- two bytes are at a position, one after the other
pub record StandAt (text : List ℕ) (at first second : ℕ) : Type 0 where
  pub first_there : slice_get text at ≡ Some first
  pub second_there : slice_get text (at + 1) ≡ Some second

-- blanks and comments, one after the other, from one position to before another
pub data AreBlanks (text : List ℕ) (low : ℕ) : ℕ → Type 0 where
  none : AreBlanks text low low
  more : {mid high : ℕ} → AreBlanks text low mid → high ≡ mid + blanks_len (drop mid text) → AreBlanks text low high

-- between two positions, what is outside the tokens is blanks and comments
unfoldable pub OnlyBlanksBetween : List ℕ → ℕ → List TokenAndSpan → ℕ → Type 0
OnlyBlanksBetween text low [] high = AreBlanks text low high
OnlyBlanksBetween text low (t ∷ ts) high = AreBlanks text low t.span.lo.0 × OnlyBlanksBetween text t.span.hi.0 ts high

-- from a position on each token is marked exactly where a line break is between it and what is before it
unfoldable pub MarksLineBreaksFrom : List ℕ → ℕ → List TokenAndSpan → Type 0
MarksLineBreaksFrom text low [] = Unit {0}
MarksLineBreaksFrom text low (t ∷ ts) =
    (t.had_line_break ≡ has_line_break text low t.span.lo.0) × MarksLineBreaksFrom text t.span.hi.0 ts

-- each token but the first is marked exactly where a line break is between it and the token before it
unfoldable pub MarksLineBreaks : List ℕ → List TokenAndSpan → Type 0
MarksLineBreaks text [] = Unit {0}
MarksLineBreaks text (t ∷ ts) = MarksLineBreaksFrom text t.span.hi.0 ts
