-- The token that a lexeme is (ECMA-262, 12), by its kind, how it is written, and where it begins.
use Rattle.std.specs.Prelude.{ℕ, ◌+◌, ◌-◌, Bool, true, false, if◌then◌else◌, nat_eq, nat_lt, List, Option, Some, None, Result, Ok, Err, length, drop, slice_range}
use Rattle.std.specs.List.{list_any}
use Rattle.swc_context.specs.{declared.error.Error.Error, declared.error.SyntaxError.BadCharacterEscapeSequence, declared.word.Word.Word, Words.word_of}
use Rattle.swc_input.specs.declared.token.Token.{Token}
use Rattle.swc_lexical.specs.{declared.lexeme.Kind.Kind, Faults.bad_len, Meanings.meaning, Runs.is_at, Templates.good_len, Regexps.body_len}
use Rattle.swc_lexer.specs.Signs.{sign_of}
use Rattle.swc_context.specs.declared.word.Word.TheVariants as word
use Rattle.swc_input.specs.declared.token.Token.TheVariants as token
use Rattle.swc_lexical.specs.declared.lexeme.Kind.TheVariants as kind

-- whether a backslash is among the bytes
abbrev pub has_escape : List ℕ → Bool
has_escape bs = list_any (λ b. nat_eq b 92) bs

-- a word that is written with escapes: a name, and none of the words that are never names (12.7.2), unless a name is
-- wanted
abbrev pub escaped : Bool → Word → Option Token
escaped named (word.Ident name) = Some (token.Word (word.Ident name))
escaped named w = if named then Some (token.Word w) else None

abbrev pub word_token : Bool → List ℕ → Option Token
word_token named bs = if has_escape bs then escaped named (word_of (meaning true bs)) else Some
    (token.Word (word_of bs))

-- what is between the quotes
abbrev pub inner : List ℕ → List ℕ
inner bs = slice_range bs 1 (length bs - 1)

abbrev pub string_token : List ℕ → Option Token
string_token bs = if nat_lt (length bs) 2 then None else Some (token.Str (meaning true (inner bs)) bs)

-- the fault of a bad escape of so many bytes, at a place
abbrev pub fault_at : ℕ → ℕ → Error
fault_at at len = record {
  span = record { lo = record { 0 = at }; hi = record { 0 = at + len } };
  kind =
      BadCharacterEscapeSequence;
}

-- what a text of a template means, or the fault at its first bad escape
abbrev pub cooked : ℕ → List ℕ → Result (List ℕ) Error
cooked at bs =
    if nat_lt (good_len bs) (length bs) then Err (fault_at (at + good_len bs) (bad_len (drop (good_len bs) bs))) else Ok
    (meaning true bs)

abbrev pub template_token : ℕ → List ℕ → Option Token
template_token at bs = Some (token.Template (meaning false bs) (cooked at bs))

abbrev pub regexp_of : List ℕ → Option ℕ → Option Token
regexp_of bs None = None
regexp_of bs (Some n) = if is_at bs (n + 1) 47 then Some
    (token.Regex (slice_range bs 1 (n + 1)) (drop (n + 2) bs)) else None

abbrev pub regexp_token : List ℕ → Option Token
regexp_token bs = if is_at bs 0 47 then regexp_of bs (body_len (drop 1 bs)) else None

-- the token that begins at the place, of this kind, and is written so; after `.` a word is a name (`named`)
abbrev pub token_of : Bool → Kind → ℕ → List ℕ → Option Token
token_of named kind.Word at bs = word_token named bs
token_of named kind.Number at bs = Some (token.Num bs)
token_of named kind.Big at bs = Some (token.BigInt bs)
token_of named kind.String at bs = string_token bs
token_of named kind.Regexp at bs = regexp_token bs
token_of named kind.Sign at bs = sign_of bs
token_of named kind.Text at bs = template_token at bs
