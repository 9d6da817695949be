-- The byte at a position of a text in UTF-8, as the protocol counts: lines end with LF, CR, or CR and LF.
use Rattle.std.specs.Prelude.{◌≡◌, ℕ, zero, suc, ◌-◌, Bool, true, false, not, ◌&&◌, ◌||◌, if◌then◌else◌, List, length, nat_eq, nat_lt, nat_le, slice_index_or, pred}
use Rattle.ecma_server.specs.declared.places.Position.{Position}
use Rattle.ecma_server.specs.declared.places.Units.{Units}
use Rattle.ecma_server.specs.declared.places.Units.TheVariants.{Utf16, Utf8}

-- a byte; none is 0
abbrev pub byte_at : List ℕ → ℕ → ℕ
byte_at bs n = slice_index_or bs n 0

abbrev pub is_break : List ℕ → ℕ → Bool
is_break bs n = nat_eq (byte_at bs n) 10 || nat_eq (byte_at bs n) 13

-- whether a line ends with this byte: a CR before an LF ends none
abbrev pub ends_line : List ℕ → ℕ → Bool
ends_line bs n = nat_eq (byte_at bs n) 10 || (nat_eq (byte_at bs n) 13 && not (nat_eq (byte_at bs (suc n)) 10))

-- how many units the character is that begins with the byte; none begins with one that continues another
abbrev pub width : Units → ℕ → ℕ
width Utf16 b = if nat_lt b 128 then 1 else (if nat_lt b 192 then 0 else (if nat_lt b 240 then 1 else 2))
width Utf8 b = if nat_lt b 128 then 1 else (if nat_lt b 192 then 0 else (if nat_lt b 224 then 2 else (if nat_lt b 240 then 3 else 4)))

-- what is still to be passed over, from a byte on: it is there if that is no line and fewer units than the character has
abbrev pub stops : Units → List ℕ → Position → ℕ → Bool
stops u bs p n = nat_eq p.line 0 && (is_break bs n || nat_lt p.character (width u (byte_at bs n)))

abbrev pub passed : Units → List ℕ → Position → ℕ → Position
passed u bs p n = record {
  line = if ends_line bs n then pred p.line else p.line;
  character = if nat_eq p.line 0 then p.character - width u (byte_at bs n) else p.character;
}

unfoldable pub seek : Units → List ℕ → ℕ → Position → ℕ → ℕ
seek u bs zero p n = n
seek u bs (suc k) p n = if stops u bs p n then n else seek u bs k (passed u bs p n) (suc n)

-- after the end of a line that is its end, and after the last line the end of the text
abbrev pub place_of : Units → List ℕ → Position → ℕ
place_of u bs p = seek u bs (length bs) p 0
