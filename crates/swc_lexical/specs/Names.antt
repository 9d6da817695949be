-- Names (ECMA-262, 12.7).
use Rattle.std.specs.Prelude.{ℕ, ◌+◌, Bool, ◌&&◌, ◌||◌, if◌then◌else◌, nat_eq, nat_lt, nat_le, List, Option, Some, None, slice_get, drop}
use Rattle.swc_lexical.specs.Runs.{is_at, run}
use Rattle.swc_lexical.specs.Chars.{size_if, starts_name, continues_name, starts_plain, continues_plain}
use Rattle.swc_lexical.specs.{PlainNames.fitting, Escapes.unicode_escape, Escapes.longer}

-- a code that is a character, and no half of a pair
abbrev pub is_scalar : ℕ → Bool
is_scalar n = nat_lt n 0xD800 || nat_le 0xE000 n && nat_le n 0x10FFFF

abbrev pub scalar : ℕ → Option ℕ
scalar n = if is_scalar n then Some n else None

abbrev pub with_len : ℕ → Option ℕ → Option (ℕ × ℕ)
with_len k None = None
with_len k (Some n) = Some (n, k)

abbrev pub scalar_of : Option (ℕ × ℕ) → Option (ℕ × ℕ)
scalar_of None = None
scalar_of (Some r) = with_len r.1 (scalar r.0)

-- an escape in a name, from its backslash on: a character, and how many bytes it takes
abbrev pub name_escape : List ℕ → Option (ℕ × ℕ)
name_escape bs = if is_at bs 1 117 then scalar_of (longer 2 (unicode_escape (drop 2 bs))) else None

-- how many bytes the part of a name takes that is here, 0 where none does
abbrev pub part_len : (ℕ → Bool) → (ℕ → Bool) → List ℕ → ℕ
part_len plain fits bs = if is_at bs 0 92 then size_if fits (name_escape bs) else fitting plain fits bs (slice_get bs 0)

abbrev pub begin_len : List ℕ → ℕ
begin_len bs = part_len starts_plain starts_name bs

abbrev pub more_len : List ℕ → ℕ
more_len bs = part_len continues_plain continues_name bs

-- a name, as long as it goes on; 0 where none begins here
abbrev pub name_len : List ℕ → ℕ
name_len bs = if nat_eq (begin_len bs) 0 then 0 else (begin_len bs + run more_len (drop (begin_len bs) bs))
