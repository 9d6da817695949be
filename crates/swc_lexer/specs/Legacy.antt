-- The faults of strict code that a token has: numbers and escapes of old scripts (ECMA-262, 12.9.3.1 and 12.9.4.1).
use Rattle.std.specs.Prelude.{◌≡◌, ◌++◌, ℕ, ◌+◌, Bool, true, false, ◌||◌, ◌&&◌, if◌then◌else◌, nat_le, List, [], ◌∷◌, Option, Some, None, slice_get, drop}
use Rattle.std.specs.Option.{is_some}
use Rattle.swc_context.specs.{declared.error.Error.Error, declared.span.Span.Span}
use Rattle.swc_context.specs.declared.error.SyntaxError.{SyntaxError, LegacyOctal, LegacyDecimal}
use Rattle.swc_input.specs.Source.{Source, with_error, with_module_error}
use Rattle.swc_input.specs.{declared.token.Token.Token, declared.token.TokenAndSpan.TokenAndSpan}
use Rattle.swc_lexical.specs.{Escapes.string_escape_len, declared.number.Base.TheVariants.Decimal, Strings.in_string}
use Rattle.swc_lexical.specs.Numbers.{is_digit, is_legacy, is_octal}
use Rattle.swc_lexical.specs.Runs.{is_at, test_at, run}
use Rattle.swc_input.specs.declared.token.Token.TheVariants as token

abbrev pub fault : Span → SyntaxError → Error
fault s k = record { span = s; kind = k }

abbrev pub between : ℕ → ℕ → Span
between lo hi = record { lo = record { 0 = lo }; hi = record { 0 = hi } }

abbrev pub has_part : Span → ℕ → ℕ → Bool
has_part s offset n = nat_le (s.lo.0 + offset + n) s.hi.0

-- so many bytes of a token, after its first ones; the whole token where it is shorter
abbrev pub part_of : Span → ℕ → ℕ → Span
part_of s offset n = if has_part s offset n then between (s.lo.0 + offset) (s.lo.0 + offset + n) else s

-- ---- numbers: 010, and 08

abbrev pub in_number : Span → List ℕ → Option Error
in_number s bs = if is_octal bs then Some (fault s LegacyOctal) else if is_legacy bs then Some
    (fault s LegacyDecimal) else None

-- ---- strings: their first escape by digits, but for `\0` before no digit

abbrev pub kind_at : List ℕ → SyntaxError
kind_at bs = if is_at bs 1 56 || is_at bs 1 57 then LegacyDecimal else LegacyOctal

-- after n bytes of a string
abbrev pub in_string_at : Span → ℕ → List ℕ → Option Error
in_string_at s n bs =
    if is_at bs n 92 && test_at (is_digit Decimal) bs (n + 1)
    then Some (fault (part_of s n (string_escape_len (drop n bs))) (kind_at (drop n bs)))
    else None

abbrev pub in_string_by : Span → Option ℕ → List ℕ → Option Error
in_string_by s None bs = None
in_string_by s (Some quote) bs = in_string_at s (1 + run (in_string true quote) (drop 1 bs)) bs

-- ---- tokens

abbrev pub in_token : Span → Token → Option Error
in_token s (token.Num raw) = in_number s raw
in_token s (token.Str value raw) = in_string_by s (slice_get raw 0) raw
in_token s t = None

-- the fault that the token is, or has, in strict code
abbrev pub legacy_of : TokenAndSpan → Option Error
legacy_of t = in_token t.span t.token

abbrev pub is_legacy_token : TokenAndSpan → Bool
is_legacy_token t = is_some (legacy_of t)

-- whether one of the tokens has such a fault
abbrev pub any_legacy : List TokenAndSpan → Bool
any_legacy [] = false
any_legacy (t ∷ ts) = is_legacy_token t || any_legacy ts

abbrev pub fault_list : Option Error → List Error
fault_list None = []
fault_list (Some e) = e ∷ []

-- the faults of all tokens, in their order
abbrev pub legacy_faults : List TokenAndSpan → List Error
legacy_faults [] = []
legacy_faults (t ∷ ts) = fault_list (legacy_of t) ++ legacy_faults ts

-- the faults of the tokens before the place are these
pub record FaultsTo (ts : List TokenAndSpan) (i : ℕ) (es : List Error) : Type 0 where
  pub sum : es ++ legacy_faults (drop i ts) ≡ legacy_faults ts

-- ---- recording

-- a fault of strict code: recorded there, and in a module; elsewhere it waits, since the text may turn out to be a
-- module
abbrev pub noted : Option Error → Source → Source
noted None s = s
noted (Some e) s = if s.context.strict then with_error e s else with_module_error e s
