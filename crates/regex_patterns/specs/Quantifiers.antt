-- Quantifiers (ECMA-262, 22.2.1).
use Rattle.std.specs.Prelude.{ℕ, ◌+◌, Bool, true, ◌||◌, if◌then◌else◌, nat_eq, List, Option, Some, None, take, drop}
use Rattle.swc_lexical.specs.Runs.{is_at}
use Rattle.regex_patterns.specs.Signs.{while_len, has, in_order}
use Rattle.regex_patterns.specs.declared.signs.Run.TheVariants.{Digits}

-- a number, a comma and a number or none: whether they are in order, and how many units all take
abbrev pub to_second : List ℕ → ℕ → ℕ → Option (Bool × ℕ)
to_second xs a b =
    if is_at xs (2 + a + b) 125
    then Some (nat_eq b 0 || in_order (take a (drop 1 xs)) (take b (drop (2 + a) xs)), 3 + a + b)
    else None

abbrev pub after_first : List ℕ → ℕ → Option (Bool × ℕ)
after_first xs a =
    if nat_eq a 0 then None
    else if is_at xs (1 + a) 125 then Some (true, 2 + a)
    else if is_at xs (1 + a) 44 then to_second xs a (while_len (has Digits) (drop (2 + a) xs))
    else None

-- `{1}`, `{1,}` or `{1,2}`, from its `{` on
abbrev pub braces : List ℕ → Option (Bool × ℕ)
braces xs = after_first xs (while_len (has Digits) (drop 1 xs))

-- so many units, and a `?` after them
abbrev pub lazy : List ℕ → ℕ → ℕ
lazy xs n = if is_at xs n 63 then n + 1 else n
