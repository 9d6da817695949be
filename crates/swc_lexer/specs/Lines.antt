-- Lines and columns of a text in UTF-8. A line ends with LF, CR, CR and LF, LS or PS (ECMA-262, 12.3).
use Rattle.std.specs.Prelude.{◌≡◌, ℕ, zero, suc, ◌+◌, ◌-◌, ◌*◌, ◌/◌, ◌<◌, ◌≤◌, Bool, not, ◌&&◌, ◌||◌, if◌then◌else◌, nat_le, List, length, min, slice_index_or}
use Rattle.swc_lexical.specs.Runs.{is_at, test_at}
use Rattle.swc_context.specs.declared.span.LineColumn.{LineColumn}
use Rattle.swc_lexer.specs.declared.lines.Point.{Point}
use Rattle.swc_lexer.specs.Readings as readings

-- of how many places below n it holds
unfoldable pub count : (ℕ → Bool) → ℕ → ℕ
count p zero = 0
count p (suc n) = if p n then suc (count p n) else count p n

abbrev pub is_separator : List ℕ → ℕ → Bool
is_separator bs n = nat_le 2 n && is_at bs (n - 2) 226 && is_at bs (n - 1) 128 && (is_at bs n 168 || is_at bs n 169)

-- whether a line ends with this byte: a CR before an LF ends none
abbrev pub ends_line : List ℕ → ℕ → Bool
ends_line bs n = is_at bs n 10 || is_at bs n 13 && not (is_at bs (n + 1) 10) || is_separator bs n

-- where the line begins that the place is in
unfoldable pub line_start : List ℕ → ℕ → ℕ
line_start bs zero = 0
line_start bs (suc n) = if ends_line bs n then suc n else line_start bs n

-- whether a character begins with this byte, and whether it takes two units of UTF-16
abbrev pub begins_char : List ℕ → ℕ → Bool
begins_char bs n = test_at readings.begins_char bs n

abbrev pub is_long : List ℕ → ℕ → Bool
is_long bs n = test_at (λ b. nat_le 240 b) bs n

-- how many units of UTF-16 the characters before the place take
abbrev pub units : List ℕ → ℕ → ℕ
units bs n = count (begins_char bs) n + count (is_long bs) n

-- what is known of a place
abbrev pub point_of : List ℕ → ℕ → Point
point_of bs n = record {
  lines = count (ends_line bs) n;
  start = line_start bs n;
  units = units bs n;
}

abbrev pub one_if : Bool → ℕ
one_if b = if b then 1 else 0

-- the same, one byte later
abbrev pub step : Point → List ℕ → ℕ → Point
step p bs n = record {
  lines = p.lines + one_if (ends_line bs n);
  start = if ends_line bs n then n + 1 else p.start;
  units = p.units + one_if (begins_char bs n) + one_if (is_long bs n);
}

-- the line is one more than how many end before the place, and the column one more than how much of it is before the
-- place, in units of UTF-16
abbrev pub position_of : List ℕ → ℕ → LineColumn
position_of bs n = record {
  line = count (ends_line bs) n + 1;
  column = units bs n - units bs (line_start bs n) + 1;
}

-- a place of the text, also where it is after the end
abbrev pub place_in : List ℕ → ℕ → ℕ
place_in bs n = min n (length bs)

-- what is known of every 256th place
pub record AreMarks (bs : List ℕ) (marks : List Point) : Type 0 where
  pub len : length marks ≡ length bs / 256 + 1
  pub each : (k : ℕ) → k < length marks → (d : Point) → slice_index_or marks k d ≡ point_of bs (256 * k)

-- of the first ones
pub record MarkedTo (bs : List ℕ) (marks : List Point) (at : ℕ) (point : Point) : Type 0 where
  pub within : at ≤ length bs
  pub is : point ≡ point_of bs at
  pub place : at ≡ 256 * length marks
  pub each : (k : ℕ) → k < length marks → (d : Point) → slice_index_or marks k d ≡ point_of bs (256 * k)
