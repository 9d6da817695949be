-- Names without escapes (ECMA-262, 12.7).
use Rattle.std.specs.Prelude.{ℕ, ◌+◌, Bool, if◌then◌else◌, nat_eq, nat_lt, List, Option, Some, None, slice_get, drop}
use Rattle.swc_lexical.specs.Runs.{run}
use Rattle.swc_lexical.specs.Chars.{first_char, size_if, starts_name, continues_name, starts_plain, continues_plain}

-- how many bytes the character takes that is here, where it fits: of ASCII or not
abbrev pub fitting : (ℕ → Bool) → (ℕ → Bool) → List ℕ → Option ℕ → ℕ
fitting plain fits bs None = 0
fitting plain fits bs (Some b) = if nat_lt b 128 then (if plain b then 1 else 0) else size_if fits (first_char bs)

abbrev pub begin_len : List ℕ → ℕ
begin_len bs = fitting starts_plain starts_name bs (slice_get bs 0)

abbrev pub more_len : List ℕ → ℕ
more_len bs = fitting continues_plain continues_name bs (slice_get bs 0)

-- a name, as long as it goes on; 0 where none begins here
abbrev pub name_len : List ℕ → ℕ
name_len bs = if nat_eq (begin_len bs) 0 then 0 else (begin_len bs + run more_len (drop (begin_len bs) bs))
