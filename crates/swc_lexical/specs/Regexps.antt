-- Regular expressions (ECMA-262, 12.9.5).
use Rattle.std.specs.Prelude.{ℕ, ◌+◌, if◌then◌else◌, nat_eq, List, Option, Some, None, drop}
use Rattle.swc_lexical.specs.{Runs.is_at, Runs.run, Chars.plain_len}

-- a backslash and such a byte
abbrev pub backslash_len : List ℕ → ℕ
backslash_len bs = if nat_eq (plain_len (drop 1 bs)) 0 then 0 else 2

abbrev pub in_class : List ℕ → ℕ
in_class bs = if is_at bs 0 93 then 0 else if is_at bs 0 92 then backslash_len bs else plain_len bs

-- from `[` to its `]`, which is there
abbrev pub class_len : List ℕ → ℕ
class_len bs = let len = run in_class (drop 1 bs) in if is_at bs (1 + len) 93 then len + 2 else 0

abbrev pub in_body : List ℕ → ℕ
in_body bs =
    if is_at bs 0 47
    then 0
    else if is_at bs 0 92
    then backslash_len bs
    else if is_at bs 0 91
    then class_len bs
    else plain_len bs

-- after the slash: how many bytes come before the second slash
abbrev pub body_len : List ℕ → Option ℕ
body_len bs = let len = run in_body bs in if is_at bs len 47 then Some len else None
