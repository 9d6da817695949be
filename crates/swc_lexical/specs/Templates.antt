-- The texts of templates (ECMA-262, 12.9.6).
use Rattle.std.specs.Prelude.{ℕ, Bool, ◌||◌, ◌&&◌, if◌then◌else◌, nat_lt, nat_le, length, List, Option, Some, None}
use Rattle.swc_lexical.specs.{Runs.is_at, Runs.run, Escapes.escape_len}

-- a backquote, or `${`
abbrev pub is_end : List ℕ → Bool
is_end bs = is_at bs 0 96 || is_at bs 0 36 && is_at bs 1 123

-- a byte that stands for itself, where there is one
abbrev pub one : List ℕ → ℕ
one bs = if nat_lt 0 (length bs) then 1 else 0

-- so many bytes, or a backslash and a byte where an escape is a bad one
abbrev pub or_two : ℕ → List ℕ → ℕ
or_two len bs = if nat_lt 0 len then len else if nat_le 2 (length bs) then 2 else 0

-- a piece of a text, in which escapes may be bad ones, and one in which they may not
abbrev pub in_text : List ℕ → ℕ
in_text bs = if is_end bs then 0 else if is_at bs 0 92 then or_two (escape_len bs) bs else one bs

abbrev pub in_good : List ℕ → ℕ
in_good bs = if is_end bs then 0 else if is_at bs 0 92 then escape_len bs else one bs

-- how many bytes come before the backquote or `${` that ends the text
abbrev pub text_len : List ℕ → Option ℕ
text_len bs = let len = run in_text bs in if nat_lt len (length bs) then Some len else None

-- how many bytes come before the first bad escape of the text, or before its end: the text means something where they
-- are all
abbrev pub good_len : List ℕ → ℕ
good_len bs = run in_good bs
