-- What begins at a place of a text (ECMA-262, 12): its kind and its length; none where nothing fits.
use Rattle.std.specs.Prelude.{ℕ, ◌+◌, Bool, not, ◌||◌, ◌&&◌, if◌then◌else◌, nat_eq, nat_lt, nat_le, List, Option, Some, None, slice_get, drop}
use Rattle.std.specs.Char.{is_ascii_digit}
use Rattle.swc_lexical.specs.{declared.lexeme.Kind.Kind, declared.number.Base.TheVariants.Decimal, Chars.starts_plain, Strings.string_len, Regexps.body_len, Signs.sign_len}
use Rattle.swc_lexical.specs.Runs.{is_at, test_at, run}
use Rattle.swc_lexical.specs.Numbers.{is_digit, digits_len, number_len, is_legacy, has_base}
use Rattle.swc_lexical.specs.declared.lexeme.Kind.TheVariants as kind
use Rattle.swc_lexical.specs.Names as names
use Rattle.swc_lexical.specs.PlainNames as plain

abbrev pub some_of : Kind → ℕ → Option (Kind × ℕ)
some_of k n = if nat_lt 0 n then Some (k, n) else None

abbrev pub word : List ℕ → Option (Kind × ℕ)
word bs = some_of kind.Word (names.name_len bs)

-- whether the number of so many bytes is an integer with `n` after it
abbrev pub is_big : List ℕ → ℕ → Bool
is_big bs len = is_at bs len 110 && not (is_legacy bs) && (has_base bs || nat_eq (digits_len Decimal bs) len)

-- no digit and no name may come after a number
abbrev pub ended : Kind → ℕ → List ℕ → Option (Kind × ℕ)
ended k len bs = if test_at (is_digit Decimal) bs len || nat_lt 0 (names.begin_len (drop len bs)) then None else Some
    (k, len)

abbrev pub number_of : List ℕ → Option ℕ → Option (Kind × ℕ)
number_of bs None = None
number_of bs (Some len) = if is_big bs len then ended kind.Big (len + 1) bs else ended kind.Number len bs

abbrev pub number : List ℕ → Option (Kind × ℕ)
number bs = number_of bs (number_len bs)

abbrev pub quoted_of : Option ℕ → Option (Kind × ℕ)
quoted_of None = None
quoted_of (Some len) = Some (kind.String, len + 2)

abbrev pub string : ℕ → List ℕ → Option (Kind × ℕ)
string quote bs = quoted_of (string_len quote (drop 1 bs))

abbrev pub regexp_of : List ℕ → Option ℕ → Option (Kind × ℕ)
regexp_of bs None = None
regexp_of bs (Some len) = Some (kind.Regexp, len + 2 + run plain.more_len (drop (len + 2) bs))

abbrev pub regexp : List ℕ → Option (Kind × ℕ)
regexp bs = regexp_of bs (body_len (drop 1 bs))

-- `/` begins no token where it begins a comment, and `#` none without a name after it
abbrev pub is_stray : List ℕ → Bool
is_stray bs = is_at bs 0 47 && (is_at bs 1 42 || is_at bs 1 47) || is_at bs 0 35 && nat_eq
    (names.begin_len (drop 1 bs)) 0

abbrev pub sign : List ℕ → Option (Kind × ℕ)
sign bs = some_of kind.Sign (sign_len bs)

abbrev pub begins_word : ℕ → Bool
begins_word b = starts_plain b || nat_eq b 92 || nat_le 128 b

abbrev pub of_first : Bool → List ℕ → ℕ → Option (Kind × ℕ)
of_first wants bs b =
    if begins_word b
    then word bs
    else if is_ascii_digit b || nat_eq b 46 && test_at (is_digit Decimal) bs 1
    then number bs
    else if nat_eq b 34 || nat_eq b 39
    then string b bs
    else if is_stray bs
    then None
    else if nat_eq b 47 && wants
    then regexp bs
    else sign bs

abbrev pub lexeme_of : Bool → List ℕ → Option ℕ → Option (Kind × ℕ)
lexeme_of wants bs None = None
lexeme_of wants bs (Some b) = of_first wants bs b

-- what begins here, where a slash begins a regular expression or divides
abbrev pub lexeme : Bool → List ℕ → Option (Kind × ℕ)
lexeme wants bs = lexeme_of wants bs (slice_get bs 0)
