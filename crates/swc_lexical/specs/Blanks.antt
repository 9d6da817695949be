-- White space, line terminators and comments (ECMA-262, 12.2 to 12.5).
use Rattle.std.specs.Prelude.{ℕ, ◌+◌, Bool, ◌||◌, ◌&&◌, if◌then◌else◌, nat_eq, nat_lt, List, Option, Some, None, drop, take, slice_get}
use Rattle.swc_lexical.specs.{Runs.is_at, Runs.run, PlainNames.fitting, Comments.block_len}
use Rattle.swc_lexical.specs.Chars.{is_white_space, terminator_len, plain_len}

-- so many bytes and two, or none
abbrev pub and_two : Option ℕ → ℕ
and_two None = 0
and_two (Some n) = 2 + n

-- white space of ASCII
abbrev pub is_plain : ℕ → Bool
is_plain b = nat_eq b 32 || nat_eq b 9 || nat_eq b 11 || nat_eq b 12

abbrev pub space_len : List ℕ → ℕ
space_len bs = fitting is_plain is_white_space bs (slice_get bs 0)

-- a comment: none where its `*/` is missing
abbrev pub comment_len : List ℕ → ℕ
comment_len bs =
    if is_at bs 0 47 && is_at bs 1 47
    then 2 + run plain_len (drop 2 bs)
    else if is_at bs 0 47 && is_at bs 1 42
    then and_two (block_len (drop 2 bs))
    else 0

-- white space, a line terminator or a comment
abbrev pub blank_len : List ℕ → ℕ
blank_len bs =
    if nat_lt 0 (space_len bs)
    then space_len bs
    else if nat_lt 0 (terminator_len bs)
    then terminator_len bs
    else comment_len bs

-- all blanks that are here
abbrev pub blanks_len : List ℕ → ℕ
blanks_len bs = run blank_len bs

-- whether a line break is among so many bytes
abbrev pub has_break : List ℕ → ℕ → Bool
has_break bs len = nat_lt (run plain_len (take len bs)) len

-- `#!` and its line, at the beginning of a text
abbrev pub hashbang_len : List ℕ → ℕ
hashbang_len bs = if is_at bs 0 35 && is_at bs 1 33 then 2 + run plain_len (drop 2 bs) else 0
