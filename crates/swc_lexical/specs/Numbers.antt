-- Numbers (ECMA-262, 12.9.3).
use Rattle.std.specs.Prelude.{ℕ, ◌+◌, Bool, ◌&&◌, ◌||◌, if◌then◌else◌, nat_eq, nat_le, List, Option, Some, None, drop}
use Rattle.std.specs.Char.{is_ascii_digit, is_ascii_hexdigit}
use Rattle.swc_lexical.specs.declared.number.Base.{Base}
use Rattle.swc_lexical.specs.declared.number.Base.TheVariants.{Binary, Octal, Decimal, Hexadecimal}
use Rattle.swc_lexical.specs.Runs.{is_at, test_at, run}

abbrev pub is_digit : Base → ℕ → Bool
is_digit Binary b = nat_le 48 b && nat_le b 49
is_digit Octal b = nat_le 48 b && nat_le b 55
is_digit Decimal b = is_ascii_digit b
is_digit Hexadecimal b = is_ascii_hexdigit b

-- a digit, or `_` and a digit
abbrev pub digit_len : Base → List ℕ → ℕ
digit_len base bs = if test_at (is_digit base) bs 0 then 1 else if is_at bs 0 95 && test_at
    (is_digit base) bs 1 then 2 else 0

-- digits, with a `_` between two of them or not: 0 where none is here
abbrev pub digits_len : Base → List ℕ → ℕ
digits_len base bs = if test_at (is_digit base) bs 0 then run (digit_len base) bs else 0

-- so many bytes, and then some more: none of it where there are none
abbrev pub then_some : ℕ → ℕ → Option ℕ
then_some n k = if nat_eq k 0 then None else Some (n + k)

-- an exponent, or nothing; none where a letter has no digits
abbrev pub exponent_len : List ℕ → Option ℕ
exponent_len bs =
    if is_at bs 0 101 || is_at bs 0 69
    then (if is_at bs 1 43 || is_at bs 1 45 then then_some 2 (digits_len Decimal (drop 2 bs)) else then_some 1
    (digits_len Decimal (drop 1 bs)))
    else Some 0

abbrev pub plus : ℕ → Option ℕ → Option ℕ
plus n None = None
plus n (Some k) = Some (n + k)

-- of a number that has `whole` bytes before its dot: these and its fraction
abbrev pub mantissa : ℕ → List ℕ → ℕ
mantissa whole bs = if is_at bs whole 46 then whole + 1 + digits_len Decimal (drop (whole + 1) bs) else whole

-- such a number, with its fraction and exponent
abbrev pub with_fraction : ℕ → List ℕ → Option ℕ
with_fraction whole bs = plus (mantissa whole bs) (exponent_len (drop (mantissa whole bs) bs))

-- a digit of the base, without `_`, and all that are here
abbrev pub plain_digit_len : Base → List ℕ → ℕ
plain_digit_len base bs = if test_at (is_digit base) bs 0 then 1 else 0

abbrev pub plain_digits_len : Base → List ℕ → ℕ
plain_digits_len base bs = run (plain_digit_len base) bs

-- a number of old scripts: a 0 and a digit. It is octal where all its digits are (LegacyOctalIntegerLiteral, and
-- otherwise NonOctalDecimalIntegerLiteral)
abbrev pub is_legacy : List ℕ → Bool
is_legacy bs = is_at bs 0 48 && test_at (is_digit Decimal) bs 1

abbrev pub is_octal : List ℕ → Bool
is_octal bs = is_legacy bs && nat_eq (plain_digits_len Octal bs) (plain_digits_len Decimal bs)

-- what comes before the dot of a number without base letter
abbrev pub whole_len : List ℕ → ℕ
whole_len bs = if is_legacy bs then plain_digits_len Decimal bs else if is_at bs 0 48 then 1 else digits_len Decimal bs

-- 0b, 0o or 0x
abbrev pub has_base : List ℕ → Bool
has_base bs =
    is_at bs 0 48 && (is_at bs 1 98 || is_at bs 1 66 || is_at bs 1 111 || is_at bs 1 79 || is_at bs 1 120
    || is_at bs 1 88)

-- by the letter after the 0
abbrev pub base_of : List ℕ → Base
base_of bs = if is_at bs 1 98 || is_at bs 1 66 then Binary else if is_at bs 1 111
    || is_at bs 1 79 then Octal else Hexadecimal

abbrev pub in_base : Base → List ℕ → Option ℕ
in_base base bs = then_some 2 (digits_len base (drop 2 bs))

-- a number, without the `n` of a big one, and without what may not come after it
abbrev pub number_len : List ℕ → Option ℕ
number_len bs =
    if has_base bs
    then in_base (base_of bs) bs
    else if is_octal bs
    then Some (whole_len bs)
    else with_fraction (whole_len bs) bs
