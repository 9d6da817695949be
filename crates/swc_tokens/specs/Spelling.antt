-- What a token has to do with the bytes of its place.
use Rattle.std.specs.Prelude.{◌≡◌, ℕ, ◌+◌, ◌-◌, ◌⊎◌, Bool, true, false, if◌then◌else◌, nat_lt, List, Some, Result, Ok, Err, length, drop, slice_get, slice_range}
use Rattle.swc_context.specs.{declared.error.Error.Error, Words.word_of}
use Rattle.swc_input.specs.declared.token.Token.{Token}
use Rattle.swc_lexical.specs.{Meanings.meaning, PlainNames.name_len, Regexps.body_len, Templates.text_len, declared.lexeme.Kind.Kind}
use Rattle.swc_tokens.specs.{Blanks.StandAt, Faults.between, Faults.lex_fault, Signs.sign_text}
use Rattle.swc_tokens.specs.Profile.{good_len, has, lexeme}
use Rattle.swc_input.specs.declared.token.Token.TheVariants as token
use Rattle.swc_lexical.specs.declared.lexeme.Kind.TheVariants as kind

-- what a text means: itself, unless escapes are in it
abbrev pub meant : List ℕ → List ℕ
meant bs = if has bs 92 then meaning true bs else bs

-- what the text of a template that begins at the place means, or the fault of its first escape that isn't read
abbrev pub cooked : ℕ → List ℕ → Result (List ℕ) Error
cooked at bs =
    if nat_lt (good_len bs) (length bs)
    then Err (lex_fault (between (at + good_len bs) (at + good_len bs + 1)))
    else Ok (meant bs)

-- a name without escapes goes from one position to before another
abbrev pub IsName : List ℕ → ℕ → ℕ → Type 0
IsName text low high = name_len (drop low text) ≡ high - low

-- a lexeme of this kind goes from one position to before another, which is read
pub record IsLexeme (kind : Kind) (text : List ℕ) (low high : ℕ) : Type 0 where
  pub wants : Bool
  pub found : lexeme wants (drop low text) ≡ Some (kind, high - low)

-- after the slash a body, a slash, and flags
pub record IsRegexp (text : List ℕ) (low high : ℕ) (body flags : List ℕ) : Type 0 where
  pub is : IsLexeme kind.Regexp text low high
  pub len : ℕ
  pub body_there : body_len (slice_range text (low + 1) high) ≡ Some len
  pub body_written : body ≡ slice_range text (low + 1) (low + 1 + len)
  pub flags_written : flags ≡ slice_range text (low + 1 + len + 1) high

-- `${` or a backquote
abbrev pub EndsText : List ℕ → ℕ → Type 0
EndsText text at = StandAt text at 36 123 ⊎ (slice_get text at ≡ Some 96)

-- a text of a template goes from one position to before another, without a CR
pub record IsTextBetween (text : List ℕ) (low high : ℕ) : Type 0 where
  pub whole : text_len (drop low text) ≡ Some (high - low)
  pub no_return : has (slice_range text low high) 13 ≡ false

-- such a text, up to a `${` or a backquote, and what it means
pub record IsTemplateText (text : List ℕ) (low high : ℕ) (value : Result (List ℕ) Error) : Type 0 where
  pub is : IsTextBetween text low high
  pub cooks : value ≡ cooked low (slice_range text low high)
  pub ends : EndsText text high

-- a token is written as its place in the text is; words, numbers, strings, texts of templates and regular expressions
-- are the standard's, and a string means its value, a text what is cooked of it
unfoldable pub Spells : List ℕ → ℕ → ℕ → Token → Type 0
Spells text low high (token.Word word) = (word ≡ word_of (slice_range text low high)) × IsName text low high
Spells text low high (token.Str value raw) =
    (raw ≡ slice_range text low high) × (value ≡ meant (slice_range text (low + 1) (high - 1)))
    × IsLexeme kind.String text low high
Spells text low high (token.Num raw) = (raw ≡ slice_range text low high) × IsLexeme kind.Number text low high
Spells text low high (token.BigInt raw) = (raw ≡ slice_range text low high) × IsLexeme kind.Big text low high
Spells text low high (token.Template raw cooked) =
    (raw ≡ slice_range text low high) × IsTemplateText text low high cooked
Spells text low high (token.Regex body flags) = IsRegexp text low high body flags
Spells text low high sign = sign_text sign ≡ slice_range text low high
