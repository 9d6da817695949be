-- Which lexemes (ECMA-262, 12) are read: those of ASCII, but for escapes by number, continued lines, and numbers with
-- `_`, or with a digit after a leading 0.
use Rattle.std.specs.Prelude.{ℕ, Bool, true, not, ◌&&◌, ◌||◌, if◌then◌else◌, nat_eq, nat_le, nat_lt, List, Option, Some, None, length, take}
use Rattle.std.specs.List.{list_any}
use Rattle.swc_lexical.specs.{Numbers.is_digit, declared.lexeme.Kind.Kind, declared.number.Base.TheVariants.Decimal}
use Rattle.swc_lexical.specs.Runs.{is_at, test_at, run}
use Rattle.swc_lexical.specs.Blanks as blanks
use Rattle.swc_lexical.specs.Lexemes as lexemes
use Rattle.swc_lexical.specs.declared.lexeme.Kind.TheVariants as kind

-- LF and CR
abbrev pub is_line_break : ℕ → Bool
is_line_break b = nat_eq b 10 || nat_eq b 13

-- whether this byte is among the bytes
abbrev pub has : List ℕ → ℕ → Bool
has bs v = list_any (λ b. nat_eq b v) bs

-- a space, a line break, a tab, a vertical tab or a form feed
abbrev pub is_blank : ℕ → Bool
is_blank b = nat_eq b 32 || is_line_break b || nat_eq b 9 || nat_eq b 11 || nat_eq b 12

-- a blank byte or a comment
abbrev pub blank_len : List ℕ → ℕ
blank_len bs = if test_at is_blank bs 0 then 1 else if is_at bs 0 47 then blanks.comment_len bs else 0

-- all blanks and comments that are here
abbrev pub blanks_len : List ℕ → ℕ
blanks_len bs = run blank_len bs

-- whether no escape is read that has this byte after its backslash: a digit, `x`, `u`, or a line break
abbrev pub is_refused : ℕ → Bool
is_refused b = nat_le 48 b && nat_le b 57 || nat_eq b 120 || nat_eq b 117 || is_line_break b

-- whether such an escape is here
abbrev pub is_bad : List ℕ → Bool
is_bad bs = is_at bs 0 92 && test_at is_refused bs 1

-- a byte, or an escape that is read: none where one is here that isn't
abbrev pub piece_len : List ℕ → ℕ
piece_len bs =
    if nat_eq (length bs) 0 || is_bad bs
    then 0
    else if is_at bs 0 92 && nat_lt 1 (length bs)
    then 2
    else 1

-- how many bytes come before the first escape that isn't read, or before the end
abbrev pub good_len : List ℕ → ℕ
good_len bs = run piece_len bs

-- whether a digit comes after a leading 0
abbrev pub is_long_zero : List ℕ → Bool
is_long_zero bs = is_at bs 0 48 && test_at (is_digit Decimal) bs 1

-- whether a lexeme of this kind is read
abbrev pub is_read : Kind → List ℕ → Bool
is_read kind.Number bs = not (is_long_zero bs) && not (has bs 95)
is_read kind.Big bs = not (is_long_zero bs) && not (has bs 95)
is_read kind.String bs = not (has bs 92) || nat_eq (good_len bs) (length bs)
is_read _ bs = true

abbrev pub if_read : List ℕ → Option (Kind × ℕ) → Option (Kind × ℕ)
if_read bs None = None
if_read bs (Some found) = if nat_lt 0 found.1 && is_read found.0 (take found.1 bs) then Some found else None

-- the lexeme that begins here, where a slash begins a regular expression or divides
abbrev pub lexeme : Bool → List ℕ → Option (Kind × ℕ)
lexeme wants bs = if_read bs (lexemes.lexeme wants bs)
