-- Names of groups (ECMA-262, 22.2.1): characters or escapes up to a `>`.
use Rattle.std.specs.Prelude.{ℕ, zero, suc, ◌+◌, ◌-◌, true, if◌then◌else◌, nat_eq, List, [], ◌∷◌, ◌++◌, Option, Some, None, slice_get, drop}
use Rattle.std.specs.Char.{encode_utf8}
use Rattle.swc_lexical.specs.Runs.{is_at, run}
use Rattle.swc_lexical.specs.Chars.{starts_name, continues_name, size_if}
use Rattle.swc_lexical.specs.Names.{scalar_of}
use Rattle.swc_lexical.specs.Escapes.{longer}
use Rattle.regex_patterns.specs.Units.{joined}
use Rattle.regex_patterns.specs.Escapes.{character_escape}

-- a character by itself: one unit, or two halves
abbrev pub or_one : ℕ → Option ℕ → Option (ℕ × ℕ)
or_one high None = Some (high, 1)
or_one high (Some c) = Some (c, 2)

abbrev pub join_next : ℕ → Option ℕ → Option ℕ
join_next high None = None
join_next high (Some low) = joined high low

abbrev pub plain_of : Option ℕ → Option ℕ → Option (ℕ × ℕ)
plain_of None next = None
plain_of (Some high) next = or_one high (join_next high next)

-- a character of a name, and how many units it takes
abbrev pub character : List ℕ → Option (ℕ × ℕ)
character xs =
    if is_at xs 0 92
    then (if is_at xs 1 117 then scalar_of (longer 2 (character_escape true (drop 2 xs))) else None)
    else scalar_of (plain_of (slice_get xs 0) (slice_get xs 1))

abbrev pub begin_len : List ℕ → ℕ
begin_len xs = size_if starts_name (character xs)

abbrev pub more_len : List ℕ → ℕ
more_len xs = size_if continues_name (character xs)

-- how many units a name takes with its `>`; None where none is here
abbrev pub closed : ℕ → List ℕ → Option ℕ
closed n xs = if is_at xs n 62 then Some (n + 1) else None

abbrev pub name_len : List ℕ → Option ℕ
name_len xs =
    if nat_eq (begin_len xs) 0 then None
    else closed (begin_len xs + run more_len (drop (begin_len xs) xs)) xs

-- The characters of a name, as long as it goes on, in UTF-8: two names are one where these are the same.
abbrev pub fitting : Option (ℕ × ℕ) → Option (ℕ × ℕ)
fitting None = None
fitting (Some r) = if continues_name r.0 then Some r else None

abbrev pub if_any : Option (ℕ × ℕ) → (ℕ → ℕ → List ℕ) → List ℕ
if_any None f = []
if_any (Some r) f = f r.0 (r.1 - 1)

unfoldable pub name_from : ℕ → List ℕ → List ℕ
name_from k [] = []
name_from (suc k) (x ∷ xs) = name_from k xs
name_from zero (x ∷ xs) = if_any (fitting (character (x ∷ xs))) (λ c k. encode_utf8 c ++ name_from k xs)

abbrev pub name : List ℕ → List ℕ
name xs = name_from 0 xs
