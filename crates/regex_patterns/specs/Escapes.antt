-- Escapes (ECMA-262, 22.2.1 and B.1.2): what one stands for that begins with the backslash here, and how many units it
-- takes; None where there is no such escape.
use Rattle.std.specs.Prelude.{ℕ, ◌+◌, ◌-◌, Bool, not, ◌&&◌, ◌||◌, if◌then◌else◌, nat_eq, nat_le, List, Option, Some, None, slice_get, drop}
use Rattle.swc_lexical.specs.Runs.{is_at, test_at}
use Rattle.swc_lexical.specs.Escapes.{two_digits, four_digits, hex_from, braced, longer, with_len, octal_at, after_one}
use Rattle.regex_patterns.specs.declared.escape.Meaning.{Meaning}
use Rattle.regex_patterns.specs.declared.escape.Meaning.TheVariants.{Character, Class}
use Rattle.regex_patterns.specs.declared.mode.Mode.{Mode}
use Rattle.regex_patterns.specs.Units.{joined}
use Rattle.regex_patterns.specs.Signs.{is_digit, is_letter, has, while_len}
use Rattle.regex_patterns.specs.declared.signs.Run.TheVariants.{HexDigits}
use Rattle.regex_patterns.specs.Properties.{property}

-- after `\u`: a code by four digits, or by two halves, or in braces; the latter two where characters are read
abbrev pub in_braces : List ℕ → Option (ℕ × ℕ)
in_braces xs = braced (while_len (has HexDigits) xs) (hex_from 0 xs) xs

abbrev pub or_high : ℕ → Option ℕ → ℕ × ℕ
or_high high None = (high, 4)
or_high high (Some c) = (c, 10)

abbrev pub join_with : ℕ → Option ℕ → Option ℕ
join_with high None = None
join_with high (Some low) = joined high low

abbrev pub after_high : Bool → List ℕ → ℕ → ℕ × ℕ
after_high joins xs high =
    if joins && is_at xs 4 92 && is_at xs 5 117 then or_high high (join_with high (four_digits (drop 6 xs))) else (high, 4)

abbrev pub with_half : Bool → List ℕ → Option ℕ → Option (ℕ × ℕ)
with_half joins xs None = None
with_half joins xs (Some high) = Some (after_high joins xs high)

abbrev pub character_escape : Bool → List ℕ → Option (ℕ × ℕ)
character_escape joins xs =
    if joins && is_at xs 0 123 then longer 1 (in_braces (drop 1 xs)) else with_half joins xs (four_digits xs)

-- d D s S w W
abbrev pub is_class_letter : ℕ → Bool
is_class_letter u =
    nat_eq u 100 || nat_eq u 68 || nat_eq u 115 || nat_eq u 83 || nat_eq u 119 || nat_eq u 87

-- f n r t v
abbrev pub letter : ℕ → Option ℕ
letter u =
    if nat_eq u 102 then Some 12
    else if nat_eq u 110 then Some 10
    else if nat_eq u 114 then Some 13
    else if nat_eq u 116 then Some 9
    else if nat_eq u 118 then Some 11 else None

-- ^ $ \ . * + ? ( ) [ ] { } | /
abbrev pub is_syntax : ℕ → Bool
is_syntax u =
    nat_eq u 94 || nat_eq u 36 || nat_eq u 92 || nat_eq u 46 || nat_eq u 42 || nat_eq u 43 || nat_eq u 63
    || (nat_eq u 40 || nat_eq u 41 || nat_eq u 91 || nat_eq u 93 || nat_eq u 123 || nat_eq u 125 || nat_eq u 124 || nat_eq u 47)

-- the remainder by 32 of a letter, a digit or `_`
abbrev pub low_bits : ℕ → ℕ
low_bits u = if nat_le 96 u then u - 96 else if nat_le 64 u then u - 64 else u - 32

-- `\c` and a letter; of old scripts the backslash alone
abbrev pub control_of : Mode → Option ℕ → Option (Meaning × ℕ)
control_of m None = if m.unicode then None else Some (Character 92, 1)
control_of m (Some u) =
    if is_letter u then Some (Character (low_bits u), 3) else if m.unicode then None else Some (Character 92, 1)

-- `\0`, or an octal number of old scripts
abbrev pub as_character : Option (ℕ × ℕ) → Option (Meaning × ℕ)
as_character None = None
as_character (Some r) = Some (Character r.0, r.1)

abbrev pub old_octal : List ℕ → Option ℕ → Option (Meaning × ℕ)
old_octal xs None = None
old_octal xs (Some d) = as_character (Some (after_one d (octal_at (slice_get xs 2)) (octal_at (slice_get xs 3))))

abbrev pub zero : List ℕ → Option (Meaning × ℕ)
zero xs = if is_at xs 1 48 && not (test_at is_digit xs 2) then Some (Character 0, 2) else None

abbrev pub octal : Mode → List ℕ → Option (Meaning × ℕ)
octal m xs =
    if m.unicode then zero xs else old_octal xs (octal_at (slice_get xs 1))

-- an escape by its code; of old scripts the letter where it has none
abbrev pub or_letter : Mode → ℕ → Option (ℕ × ℕ) → Option (Meaning × ℕ)
or_letter m u None = if m.unicode then None else Some (Character u, 2)
or_letter m u (Some r) = Some (Character r.0, 2 + r.1)

-- the unit itself
abbrev pub identity : Mode → ℕ → Option (Meaning × ℕ)
identity m u =
    if (if m.unicode then is_syntax u || nat_eq u 45 else not (m.named && nat_eq u 107))
    then Some (Character u, 2) else None

abbrev pub letter_or : Mode → ℕ → Option ℕ → Option (Meaning × ℕ)
letter_or m u None = identity m u
letter_or m u (Some c) = Some (Character c, 2)

abbrev pub is_octal : ℕ → Bool
is_octal u = nat_le 48 u && nat_le u 55

-- p P, but not of old scripts
abbrev pub is_property : Mode → ℕ → Bool
is_property m u = m.unicode && (nat_eq u 112 || nat_eq u 80)

abbrev pub by_letter : Mode → List ℕ → ℕ → Option (Meaning × ℕ)
by_letter m xs u =
    if nat_eq u 120 then or_letter m 120 (with_len 2 (two_digits (drop 2 xs)))
    else if nat_eq u 117 then or_letter m 117 (character_escape m.unicode (drop 2 xs))
    else letter_or m u (letter u)

abbrev pub escape_of : Mode → List ℕ → ℕ → Option (Meaning × ℕ)
escape_of m xs u =
    if is_class_letter u then Some (Class, 2)
    else if is_property m u then property m xs
    else if nat_eq u 99 then control_of m (slice_get xs 2)
    else if is_octal u then octal m xs
    else by_letter m xs u

abbrev pub escape_at : Mode → List ℕ → Option ℕ → Option (Meaning × ℕ)
escape_at m xs None = None
escape_at m xs (Some u) = escape_of m xs u

-- an escape that is no reference and no assertion
abbrev pub escape : Mode → List ℕ → Option (Meaning × ℕ)
escape m xs = escape_at m xs (slice_get xs 1)
