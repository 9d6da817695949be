-- Signs (ECMA-262, 12.8): the longest.
use Rattle.std.specs.Prelude.{ℕ, Bool, ◌||◌, ◌&&◌, if◌then◌else◌, List, Option, Some, None, slice_get, nat_eq}
use Rattle.swc_lexical.specs.Runs.{is_at}

-- with `=` after so many bytes, or without
abbrev pub with_equal : List ℕ → ℕ → ℕ → ℕ
with_equal bs len longer = if is_at bs len 61 then longer else len

-- a byte that is a sign of its own, with which no other begins: ( ) [ ] { } ; , : ` ~ # @
abbrev pub is_lone : ℕ → Bool
is_lone b =
    nat_eq b 40 || nat_eq b 41 || nat_eq b 91 || nat_eq b 93 || nat_eq b 123 || nat_eq b 125 || nat_eq b 59
    || nat_eq b 44 || nat_eq b 58
    || nat_eq b 96 || nat_eq b 126 || nat_eq b 35 || nat_eq b 64

-- `/`, `%` and `^`: alone, or with `=`
abbrev pub is_single : ℕ → Bool
is_single b = nat_eq b 47 || nat_eq b 37 || nat_eq b 94

-- `*`, `<`, `&` and `|`: once or twice, with `=` or not; `+` and `-`: twice without `=`
abbrev pub is_twice : ℕ → Bool
is_twice b = nat_eq b 42 || nat_eq b 60 || nat_eq b 38 || nat_eq b 124

abbrev pub is_step : ℕ → Bool
is_step b = nat_eq b 43 || nat_eq b 45

abbrev pub angle_len : List ℕ → ℕ
angle_len bs = if is_at bs 1 62 then (if is_at bs 2 62 then with_equal bs 3 4 else with_equal bs 2 3) else with_equal bs
    1 2

abbrev pub sign_of : List ℕ → ℕ → ℕ
sign_of bs b =
    if is_lone b
    then 1
    else if nat_eq b 46
    then (if is_at bs 1 46 && is_at bs 2 46 then 3 else 1)
    else if is_single b
    then with_equal bs 1 2
    else if is_twice b
    then (if is_at bs 1 b then with_equal bs 2 3 else with_equal bs 1 2)
    else if is_step b
    then (if is_at bs 1 b then 2 else with_equal bs 1 2)
    else if nat_eq b 62
    then angle_len bs
    else if nat_eq b 33
    then (if is_at bs 1 61 then with_equal bs 2 3 else 1)
    else if nat_eq b 61
    then (if is_at bs 1 62 then 2 else if is_at bs 1 61 then with_equal bs 2 3 else 1)
    else if nat_eq b 63
    then (if is_at bs 1 63 then with_equal bs 2 3 else 1)
    else 0

abbrev pub sign_at : List ℕ → Option ℕ → ℕ
sign_at bs None = 0
sign_at bs (Some b) = sign_of bs b

-- how many bytes the sign takes that is here, 0 where none does
abbrev pub sign_len : List ℕ → ℕ
sign_len bs = sign_at bs (slice_get bs 0)
