-- Tokens of a part of a text: those of the part, moved to where it is in the whole.
use Rattle.std.specs.Prelude.{◌≡◌, ℕ, ◌+◌, ◌<◌, ◌^◌, ◌⊎◌, List, Err, length, map}
use Rattle.std.specs.Str.{IsAscii}
use Rattle.swc_context.specs.{declared.span.Span.Span, declared.error.Error.Error, declared.error.SyntaxError.Lex, declared.error.SyntaxError.OutOfMemory}
use Rattle.swc_input.specs.{declared.token.Token.Token, declared.token.TokenAndSpan.TokenAndSpan}
use Rattle.swc_tokens.specs.{Faults.IsRefusal, Nesting.AreNested, Reading.AreRead}
use Rattle.swc_input.specs.declared.token.Token.TheVariants as token

-- what `read_tokens` ensures of the tokens of a text
pub record AreTokensOf (text : List ℕ) (tokens : List TokenAndSpan) : Type 0 where
  pub ascii : IsAscii text
  pub read : AreRead text tokens (length text)
  pub nested : AreNested tokens

-- a place, that many bytes further on
abbrev pub moved_span : ℕ → Span → Span
moved_span by s = record { lo = record { 0 = s.lo.0 + by }; hi = record { 0 = s.hi.0 + by } }

-- a fault, moved; the reader's kinds hold no place
abbrev pub moved_error : ℕ → Error → Error
moved_error by e = record { span = moved_span by e.span; kind = e.kind }

-- what a token is, with the places that it holds moved
abbrev pub moved_within : ℕ → Token → Token
moved_within by (token.Template raw (Err e)) = token.Template raw (Err (moved_error by e))
moved_within by (token.Error e) = token.Error (moved_error by e)
moved_within by t = t

-- a token, moved
abbrev pub moved_token : ℕ → TokenAndSpan → TokenAndSpan
moved_token by t = record {
  token = moved_within by t.token;
  had_line_break = t.had_line_break;
  span = moved_span by t.span;
}

-- the tokens are those of the part of a text that begins at a position, with their places in the whole
pub record AreTokensAt (start : ℕ) (part : List ℕ) (tokens : List TokenAndSpan) : Type 0 where
  pub unmoved : List TokenAndSpan
  pub of_part : AreTokensOf part unmoved
  pub moved : tokens ≡ map (moved_token start) unmoved

-- the fault refuses the part of a text that begins at a position, and has its place in the whole
pub record IsRefusalAt (start : ℕ) (part : List ℕ) (e : Error) : Type 0 where
  pub unmoved : Error
  pub of_part : IsRefusal part unmoved
  pub moved : e ≡ moved_error start unmoved

-- moved so far, the place ends below the largest position or at it
pub record HasRoom (by : ℕ) (s : Span) : Type 0 where
  pub lo : s.lo.0 + by < 2 ^ 32
  pub hi : s.hi.0 + by < 2 ^ 32

-- the fault is of a kind that the reader gives, which holds no place, and there is room to move it
pub record MayMoveError (by : ℕ) (e : Error) : Type 0 where
  pub kind : (e.kind ≡ Lex) ⊎ (e.kind ≡ OutOfMemory)
  pub room : HasRoom by e.span

-- the same of the faults that a token holds
unfoldable pub MayMoveWithin : ℕ → Token → Type 0
MayMoveWithin by (token.Template raw (Err e)) = MayMoveError by e
MayMoveWithin by (token.Error e) = MayMoveError by e
MayMoveWithin by t = Unit {0}

-- a token may be moved so far
pub record MayMove (by : ℕ) (t : TokenAndSpan) : Type 0 where
  pub room : HasRoom by t.span
  pub within : MayMoveWithin by t.token
