-- What is wrong where no token begins (ECMA-262, 12): its kind, how many bytes after the place it begins, and how many
-- it takes.
use Rattle.std.specs.Prelude.{ℕ, ◌+◌, Bool, true, false, ◌||◌, ◌&&◌, if◌then◌else◌, nat_eq, nat_lt, List, Option, Some, None, slice_get, drop, length}
use Rattle.std.specs.Char.{is_ascii_digit}
use Rattle.swc_lexical.specs.{declared.fault.Fault.Fault, declared.fault.Wrong.Wrong, declared.number.Base.TheVariants.Decimal, declared.scan.Goal.Goal, Blanks.blanks_len, Chars.first_char, Chars.plain_len, Escapes.escape_len, Escapes.hex_digit_len, Lexemes.begins_word, Names.more_len, Strings.in_string}
use Rattle.swc_lexical.specs.declared.scan.Goal.TheVariants.{Div, RegExp, Text, Delimiter}
use Rattle.swc_lexical.specs.Numbers.{is_digit, number_len, has_base, whole_len, mantissa}
use Rattle.swc_lexical.specs.Runs.{is_at, test_at, run}
use Rattle.swc_lexical.specs.declared.fault.Wrong.TheVariants as wrong

abbrev pub wrong_at : Wrong → ℕ → ℕ → Fault
wrong_at w at n = record { wrong = w; offset = at; len = n }

abbrev pub later : ℕ → Fault → Fault
later n f = record f { offset = n + f.offset }

abbrev pub len_of : Option (ℕ × ℕ) → ℕ
len_of None = 0
len_of (Some c) = c.1

-- how many bytes the character takes that is here
abbrev pub char_len : List ℕ → ℕ
char_len bs = len_of (first_char bs)

abbrev pub character : List ℕ → Fault
character bs = wrong_at wrong.Character 0 (char_len bs)

-- ---- escapes

-- so many bytes, and the brace that is after them
abbrev pub and_brace : ℕ → List ℕ → ℕ
and_brace n bs = if is_at bs n 125 then n + 1 else n

abbrev pub opens_brace : List ℕ → Bool
opens_brace bs = is_at bs 1 117 && is_at bs 2 123

abbrev pub wants_digits : List ℕ → Bool
wants_digits bs = is_at bs 1 117 || is_at bs 1 120

-- so many bytes, and the digits of base 16 after them
abbrev pub and_digits : ℕ → List ℕ → ℕ
and_digits n bs = n + run hex_digit_len (drop n bs)

-- a byte, and the character after it
abbrev pub and_char : List ℕ → ℕ
and_char bs = 1 + char_len (drop 1 bs)

-- a backslash and a character; and after `\u{`, `\u` and `\x` the digits that are there, and the brace
abbrev pub broken_len : List ℕ → ℕ
broken_len bs = if opens_brace bs then and_brace (and_digits 3 bs) bs else if wants_digits bs then and_digits 2
    bs else and_char bs

-- a bad escape, from its backslash on: one that is well written may mean a character that no name may have here
abbrev pub bad_len : List ℕ → ℕ
bad_len bs = if nat_lt 0 (escape_len bs) then escape_len bs else broken_len bs

-- ---- numbers: from the number on

-- where a digit is wanted, after the letter of an exponent and its sign
abbrev pub exponent_at : ℕ → List ℕ → ℕ
exponent_at end bs =
    if is_at bs end 101 || is_at bs end 69 then (if is_at bs (end + 1) 43 || is_at bs
    (end + 1) 45 then end + 2 else end + 1) else end

-- up to where a digit is wanted
abbrev pub digit_at : List ℕ → ℕ
digit_at bs = if has_base bs then 2 else exponent_at (mantissa (whole_len bs) bs) bs

-- the number and a `_`, or the name or the digits that come right after it
abbrev pub after_number : ℕ → List ℕ → Fault
after_number n bs = if is_at bs n 95 then wrong_at wrong.Digit 0 (n + 1) else wrong_at wrong.Name 0
    (n + run more_len (drop n bs))

abbrev pub number_of : Option ℕ → List ℕ → Fault
number_of None bs = wrong_at wrong.Digit 0 (digit_at bs)
number_of (Some n) bs = after_number n bs

-- ---- strings: the first bad escape; or from the quote on, up to the end of the line

-- at a backslash, before which there are n bytes
abbrev pub string_escape : ℕ → List ℕ → Fault
string_escape n bs = if nat_lt (n + 1) (length bs) then wrong_at wrong.Escape n
    (bad_len (drop n bs)) else wrong_at wrong.String 0 (n + 1)

abbrev pub string_at : ℕ → List ℕ → Fault
string_at n bs = if is_at bs n 92 then string_escape n bs else wrong_at wrong.String 0 n

abbrev pub string_end : ℕ → List ℕ → ℕ
string_end quote bs = 1 + run (in_string false quote) (drop 1 bs)

abbrev pub string : ℕ → List ℕ → Fault
string quote bs = string_at (string_end quote bs) bs

-- ---- by the first byte

-- a bad escape, or a character
abbrev pub word : List ℕ → Fault
word bs = if is_at bs 0 92 then wrong_at wrong.Escape 0 (bad_len bs) else character bs

abbrev pub opens_comment : List ℕ → Bool
opens_comment bs = is_at bs 0 47 && is_at bs 1 42

-- a comment that isn't closed: all that is left; a regular expression: the rest of the line
abbrev pub sign : Bool → List ℕ → ℕ → Fault
sign wants bs b =
    if opens_comment bs
    then wrong_at wrong.Comment 0 (length bs)
    else if nat_eq b 47 && wants
    then wrong_at wrong.Regexp 0 (run plain_len bs)
    else character bs

abbrev pub begins_number : List ℕ → ℕ → Bool
begins_number bs b = is_ascii_digit b || nat_eq b 46 && test_at (is_digit Decimal) bs 1

abbrev pub is_quote : ℕ → Bool
is_quote b = nat_eq b 34 || nat_eq b 39

abbrev pub of_first : Bool → List ℕ → ℕ → Fault
of_first wants bs b =
    if begins_word b
    then word bs
    else if begins_number bs b
    then number_of (number_len bs) bs
    else if is_quote b
    then string b bs
    else sign wants bs b

abbrev pub fault_by : Bool → List ℕ → Option ℕ → Fault
fault_by wants bs None = character bs
fault_by wants bs (Some b) = of_first wants bs b

-- where a slash begins a regular expression or divides, and no blank is here
abbrev pub fault_after : Bool → List ℕ → Fault
fault_after wants bs = fault_by wants bs (slice_get bs 0)

abbrev pub in_code : Bool → List ℕ → Fault
in_code wants bs = later (blanks_len bs) (fault_after wants (drop (blanks_len bs) bs))

-- what is wrong here, by the goal; a template's text that isn't closed is all that is left
abbrev pub fault_of : Goal → List ℕ → Fault
fault_of Div bs = in_code false bs
fault_of RegExp bs = in_code true bs
fault_of Text bs = wrong_at wrong.Template 0 (length bs)
fault_of Delimiter bs = character bs
