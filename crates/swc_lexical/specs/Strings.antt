-- Strings (ECMA-262, 12.9.4).
use Rattle.std.specs.Prelude.{ℕ, Bool, false, ◌||◌, if◌then◌else◌, nat_lt, length, List, Option, Some, None}
use Rattle.swc_lexical.specs.{Runs.is_at, Runs.run, Escapes.escape_len, Escapes.string_escape_len}

-- an escape: in strict code none by digits but `\0`
abbrev pub escape_in : Bool → List ℕ → ℕ
escape_in strict bs = if strict then escape_len bs else string_escape_len bs

-- a byte that stands for itself, or an escape
abbrev pub in_string : Bool → ℕ → List ℕ → ℕ
in_string strict quote bs =
    if is_at bs 0 92
    then escape_in strict bs
    else if is_at bs 0 quote || is_at bs 0 10 || is_at bs 0 13
    then 0
    else if nat_lt 0 (length bs)
    then 1
    else 0

-- after the quote: how many bytes come before the same quote
abbrev pub string_len : ℕ → List ℕ → Option ℕ
string_len quote bs = let len = run (in_string false quote) bs in if is_at bs len quote then Some len else None
