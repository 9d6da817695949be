-- Characters (ECMA-262, 12.2, 12.3 and 12.7), as a text in UTF-8 begins with them.
use Rattle.std.specs.Prelude.{ℕ, Bool, ◌&&◌, ◌||◌, if◌then◌else◌, nat_eq, nat_lt, nat_le, List, Option, Some, None, length}
use Rattle.std.specs.Char.{is_ascii_alphabetic, is_ascii_digit}
use Rattle.ucd_derived.specs.Binary.{is_id_start, is_id_continue}
use Rattle.bstr.specs.Utf8.{decoded}
use Rattle.swc_lexical.specs.Runs.{is_at}

-- the character that a text begins with, and how many bytes it takes
abbrev pub char_if : Option ℕ → ℕ → ℕ → Option (ℕ × ℕ)
char_if None size len = None
char_if (Some ch) size len = if nat_lt 0 size && nat_le size len then Some (ch, size) else None

abbrev pub first_char : List ℕ → Option (ℕ × ℕ)
first_char bs = char_if (decoded bs).char (decoded bs).size (length bs)

-- how many bytes the character takes, where one is here that passes the test
abbrev pub size_if : (ℕ → Bool) → Option (ℕ × ℕ) → ℕ
size_if p None = 0
size_if p (Some c) = if p c.0 then c.1 else 0

-- `$`, `_`, and what Unicode has at the beginning of names, and within them; ZWNJ and ZWJ
abbrev pub starts_name : ℕ → Bool
starts_name ch = nat_eq ch 36 || nat_eq ch 95 || is_id_start ch

abbrev pub continues_name : ℕ → Bool
continues_name ch = nat_eq ch 36 || nat_eq ch 0x200C || nat_eq ch 0x200D || is_id_continue ch

-- the same of ASCII
abbrev pub starts_plain : ℕ → Bool
starts_plain b = is_ascii_alphabetic b || nat_eq b 36 || nat_eq b 95

abbrev pub continues_plain : ℕ → Bool
continues_plain b = starts_plain b || is_ascii_digit b

-- how many bytes the line terminator takes that is here, 0 where none does: CR and LF, LF, CR, LS or PS
abbrev pub terminator_len : List ℕ → ℕ
terminator_len bs =
    if is_at bs 0 13
    then (if is_at bs 1 10 then 2 else 1)
    else if is_at bs 0 10
    then 1
    else if is_at bs 0 226 && is_at bs 1 128 && (is_at bs 2 168 || is_at bs 2 169)
    then 3
    else 0

-- a byte that is no line terminator
abbrev pub plain_len : List ℕ → ℕ
plain_len bs = if nat_lt 0 (length bs) && nat_eq (terminator_len bs) 0 then 1 else 0

abbrev pub is_white_space : ℕ → Bool
is_white_space ch =
    nat_eq ch 9 || nat_eq ch 11 || nat_eq ch 12 || nat_eq ch 32 || nat_eq ch 0xA0 || nat_eq ch 0xFEFF
    || nat_eq ch 0x1680
    || nat_le 0x2000 ch && nat_le ch 0x200A || nat_eq ch 0x202F || nat_eq ch 0x205F || nat_eq ch 0x3000
