-- Escapes (ECMA-262, 12.9.4 and 12.7).
use Rattle.std.specs.Prelude.{◌≡◌, ◌≤◌, length, ℕ, ◌+◌, ◌*◌, ◌-◌, ◌&&◌, not, if◌then◌else◌, nat_eq, nat_lt, nat_le, List, [], ◌∷◌, Option, Some, None, slice_get, drop}
use Rattle.swc_lexical.specs.{Numbers.is_digit, declared.number.Base.TheVariants.Decimal, declared.number.Base.TheVariants.Octal, declared.escape.Meaning.Meaning, declared.escape.Meaning.TheVariants.Code, declared.escape.Meaning.TheVariants.Nothing, Chars.terminator_len, Chars.first_char}
use Rattle.swc_lexical.specs.Runs.{is_at, test_at, run}

-- the value of a digit of base 16
abbrev pub hex_value : ℕ → Option ℕ
hex_value b =
    if nat_le 48 b && nat_le b 57
    then Some (b - 48)
    else if nat_le 97 b && nat_le b 102
    then Some (b - 87)
    else if nat_le 65 b && nat_le b 70
    then Some (b - 55)
    else None

abbrev pub hex_at : Option ℕ → Option ℕ
hex_at None = None
hex_at (Some b) = hex_value b

-- the value so far, with one digit more
abbrev pub and_digit : Option ℕ → Option ℕ → Option ℕ
and_digit None d = None
and_digit (Some n) None = None
and_digit (Some n) (Some d) = Some (16 * n + d)

abbrev pub two_digits : List ℕ → Option ℕ
two_digits bs = and_digit (hex_at (slice_get bs 0)) (hex_at (slice_get bs 1))

abbrev pub four_digits : List ℕ → Option ℕ
four_digits bs = and_digit (and_digit (two_digits bs) (hex_at (slice_get bs 2))) (hex_at (slice_get bs 3))

-- a digit of base 16
abbrev pub some_len : Option ℕ → ℕ
some_len None = 0
some_len (Some d) = 1

abbrev pub hex_digit_len : List ℕ → ℕ
hex_digit_len bs = some_len (hex_at (slice_get bs 0))

-- 16 times n and the digit; 0x110000, which is no code, where that is none
abbrev pub capped : ℕ → ℕ → ℕ
capped n d = if nat_le (16 * n + d) 0x10FFFF then 16 * n + d else 0x110000

-- n where there is no digit, and else what f gives of it and the digit
abbrev pub and_more : ℕ → Option ℕ → (ℕ → ℕ) → ℕ
and_more n None f = n
and_more n (Some d) f = f (capped n d)

-- the value of the longest run of digits here, after others of value n
unfoldable pub hex_from : ℕ → List ℕ → ℕ
hex_from n [] = n
hex_from n (b ∷ bs) = and_more n (hex_value b) (λ v. hex_from v bs)

-- the place in the run is between two digits, and those before it have this value
pub record HexTo (bs : List ℕ) (at n : ℕ) : Type 0 where
  pub small : n ≤ 0x110000
  pub within : at ≤ length bs
  pub value : hex_from n (drop at bs) ≡ hex_from 0 bs

-- after `{`: the code that the digits write before `}`, and how many bytes they take with the brace
abbrev pub braced : ℕ → ℕ → List ℕ → Option (ℕ × ℕ)
braced len code bs = if nat_lt 0 len && is_at bs len 125 && nat_le code 0x10FFFF then Some (code, len + 1) else None

abbrev pub in_braces : List ℕ → Option (ℕ × ℕ)
in_braces bs = braced (run hex_digit_len bs) (hex_from 0 bs) bs

abbrev pub longer : ℕ → Option (ℕ × ℕ) → Option (ℕ × ℕ)
longer k None = None
longer k (Some r) = Some (r.0, k + r.1)

abbrev pub with_len : ℕ → Option ℕ → Option (ℕ × ℕ)
with_len k None = None
with_len k (Some n) = Some (n, k)

-- after `\u`: a code, and how many bytes it takes
abbrev pub unicode_escape : List ℕ → Option (ℕ × ℕ)
unicode_escape bs = if is_at bs 0 123 then longer 1 (in_braces (drop 1 bs)) else with_len 4 (four_digits bs)

-- a character that means itself, or another, after the backslash
abbrev pub single : ℕ → Option ℕ
single b =
    if nat_eq b 110 then Some 10 else if nat_eq b 116 then Some 9 else if nat_eq b 114 then Some 13 else if nat_eq b
    98 then Some 8
    else if nat_eq b 102 then Some 12 else if nat_eq b 118 then Some 11 else None

-- how many bytes an escape takes that begins here with its backslash: 0 where it is a bad one
abbrev pub len_of : Option (ℕ × ℕ) → ℕ
len_of None = 0
len_of (Some r) = r.1

abbrev pub as_code : Option (ℕ × ℕ) → Option (Meaning × ℕ)
as_code None = None
as_code (Some r) = Some (Code r.0, r.1)

abbrev pub single_or : Option ℕ → List ℕ → Option (Meaning × ℕ)
single_or None bs = as_code (longer 1 (first_char (drop 1 bs)))
single_or (Some c) bs = Some (Code c, 2)

abbrev pub single_at : Option ℕ → Option ℕ
single_at None = None
single_at (Some b) = single b

abbrev pub sign_escape : List ℕ → Option (Meaning × ℕ)
sign_escape bs = single_or (single_at (slice_get bs 1)) bs

-- the escape of a string or a template, from its backslash on
abbrev pub escape : List ℕ → Option (Meaning × ℕ)
escape bs =
    if nat_lt 0 (terminator_len (drop 1 bs))
    then Some (Nothing, 1 + terminator_len (drop 1 bs))
    else if is_at bs 1 120
    then as_code (with_len 4 (two_digits (drop 2 bs)))
    else if is_at bs 1 117
    then as_code (longer 2 (unicode_escape (drop 2 bs)))
    else if is_at bs 1 48 && not (test_at (is_digit Decimal) bs 2)
    then Some (Code 0, 2)
    else if test_at (is_digit Decimal) bs 1
    then None
    else sign_escape bs

-- the value of a digit of base 8
abbrev pub octal_at : Option ℕ → Option ℕ
octal_at None = None
octal_at (Some b) = if is_digit Octal b then Some (b - 48) else None

-- the value and the length of an escape of old scripts, by its octal digits: up to three of them, the first of which is
-- 3 at most
abbrev pub after_two : ℕ → ℕ → Option ℕ → ℕ × ℕ
after_two d e None = (8 * d + e, 3)
after_two d e (Some f) = if nat_le d 3 then (64 * d + 8 * e + f, 4) else (8 * d + e, 3)

abbrev pub after_one : ℕ → Option ℕ → Option ℕ → ℕ × ℕ
after_one d None f = (d, 2)
after_one d (Some e) f = after_two d e f

-- a digit that isn't octal means itself
abbrev pub legacy_of : Option ℕ → List ℕ → Option (ℕ × ℕ)
legacy_of None bs = with_len 2 (slice_get bs 1)
legacy_of (Some d) bs = Some (after_one d (octal_at (slice_get bs 2)) (octal_at (slice_get bs 3)))

-- an escape by digits (LegacyOctalEscapeSequence, NonOctalDecimalEscapeSequence), from its backslash on, after which a
-- digit comes
abbrev pub legacy_escape : List ℕ → Option (Meaning × ℕ)
legacy_escape bs = as_code (legacy_of (octal_at (slice_get bs 1)) bs)

-- the escape of a string, from its backslash on: also of old scripts
abbrev pub string_escape : List ℕ → Option (Meaning × ℕ)
string_escape bs = if test_at (is_digit Decimal) bs 1 then legacy_escape bs else escape bs

abbrev pub escape_len_of : Option (Meaning × ℕ) → ℕ
escape_len_of None = 0
escape_len_of (Some r) = r.1

abbrev pub escape_len : List ℕ → ℕ
escape_len bs = escape_len_of (escape bs)

abbrev pub string_escape_len : List ℕ → ℕ
string_escape_len bs = escape_len_of (string_escape bs)
