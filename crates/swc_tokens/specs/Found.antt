-- Tokens that were found in a text: what each is, and where; and the token that is made of it.
use Rattle.std.specs.Prelude.{ℕ, ◌+◌, ◌-◌, List, Option, Some, None, slice_range, map}
use Rattle.swc_context.specs.{Words.word_of}
use Rattle.swc_input.specs.{declared.token.Token.Token, declared.token.TokenAndSpan.TokenAndSpan}
use Rattle.swc_lexical.specs.Regexps.{body_len}
use Rattle.swc_tokens.specs.{declared.found.Found.Found, declared.found.Part.Part, declared.found.Shape.Shape, declared.found.Sign.Sign}
use Rattle.swc_tokens.specs.Spelling.{cooked, meant, Spells}
use Rattle.swc_input.specs.declared.token.Token.TheVariants as token
use Rattle.swc_tokens.specs.declared.found.Part.TheVariants as part
use Rattle.swc_tokens.specs.declared.found.Shape.TheVariants as shape
use Rattle.swc_tokens.specs.declared.found.Sign.TheVariants as sign

abbrev pub sign_token : Sign → Token
sign_token sign.Arrow = token.Arrow
sign_token sign.Hash = token.Hash
sign_token sign.At = token.At
sign_token sign.Dot = token.Dot
sign_token sign.DotDotDot = token.DotDotDot
sign_token sign.Bang = token.Bang
sign_token sign.LParen = token.LParen
sign_token sign.RParen = token.RParen
sign_token sign.LBracket = token.LBracket
sign_token sign.RBracket = token.RBracket
sign_token sign.LBrace = token.LBrace
sign_token sign.RBrace = token.RBrace
sign_token sign.Semi = token.Semi
sign_token sign.Comma = token.Comma
sign_token sign.BackQuote = token.BackQuote
sign_token sign.Colon = token.Colon
sign_token sign.DollarLBrace = token.DollarLBrace
sign_token sign.QuestionMark = token.QuestionMark
sign_token sign.PlusPlus = token.PlusPlus
sign_token sign.MinusMinus = token.MinusMinus
sign_token sign.Tilde = token.Tilde
sign_token (sign.BinOp operator) = token.BinOp operator
sign_token (sign.AssignOp operator) = token.AssignOp operator

-- where the body of a regular expression ends that begins at a position and is so long
abbrev pub body_end : ℕ → ℕ → Option ℕ → ℕ
body_end first high None = high
body_end first high (Some len) = first + len

-- a regular expression: its body, which begins after a slash, and its flags, after another
abbrev pub regexp_between : List ℕ → ℕ → ℕ → ℕ → Token
regexp_between text low last high = token.Regex (slice_range text (low + 1) last) (slice_range text (last + 1) high)

-- the token of such a shape from one position to before another
unfoldable pub token_of : List ℕ → ℕ → ℕ → Shape → Token
token_of text low high shape.Word = token.Word (word_of (slice_range text low high))
token_of text low high shape.Number = token.Num (slice_range text low high)
token_of text low high shape.Big = token.BigInt (slice_range text low high)
token_of text low high shape.String =
    token.Str (meant (slice_range text (low + 1) (high - 1))) (slice_range text low high)
token_of text low high shape.Regexp =
    regexp_between text low (body_end (low + 1) high (body_len (slice_range text (low + 1) high))) high
token_of text low high shape.Text =
    token.Template (slice_range text low high) (cooked low (slice_range text low high))
token_of text low high (shape.Sign s) = sign_token s

-- the text from one position to before another spells the token of such a shape
abbrev pub IsSpelled : List ℕ → ℕ → ℕ → Shape → Type 0
IsSpelled text low high s = Spells text low high (token_of text low high s)

-- the token that was found
abbrev pub made : List ℕ → Found → TokenAndSpan
made text f = record {
  token = token_of text f.span.lo.0 f.span.hi.0 f.shape;
  had_line_break = f.had_line_break;
  span = f.span;
}

abbrev pub all_made : List ℕ → List Found → List TokenAndSpan
all_made text fs = map (made text) fs

-- what a token is to templates, by its shape
abbrev pub part_of_shape : Shape → Part
part_of_shape shape.Text = part.Text
part_of_shape (shape.Sign sign.BackQuote) = part.Backquote
part_of_shape (shape.Sign sign.DollarLBrace) = part.Substitution
part_of_shape (shape.Sign sign.LBrace) = part.OpenBrace
part_of_shape (shape.Sign sign.RBrace) = part.CloseBrace
part_of_shape _ = part.Other
