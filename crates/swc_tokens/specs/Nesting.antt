-- How templates (ECMA-262, 12.9.6) nest: a text is after each backquote that opens one, and after each `}` that
-- closes a `${`; after a text comes a `${`, or the backquote that closes the template.
use Rattle.std.specs.Prelude.{◌≡◌, ◌<◌, List, [], ◌∷◌, ◌++◌, Bool, true, false, length}
use Rattle.swc_input.specs.{declared.token.Token.Token, declared.token.TokenAndSpan.TokenAndSpan}
use Rattle.swc_tokens.specs.{declared.template.Next.Next, declared.template.Open.Open, declared.found.Part.Part}
use Rattle.swc_input.specs.declared.token.Token.TheVariants as token
use Rattle.swc_tokens.specs.declared.template.Next.TheVariants as reads
use Rattle.swc_tokens.specs.declared.template.Open.TheVariants as opened
use Rattle.swc_tokens.specs.declared.found.Part.TheVariants as part

-- what a token is to templates
abbrev pub part_of : Token → Part
part_of (token.Template _ _) = part.Text
part_of token.BackQuote = part.Backquote
part_of token.DollarLBrace = part.Substitution
part_of token.LBrace = part.OpenBrace
part_of token.RBrace = part.CloseBrace
part_of _ = part.Other

-- whether it is such as is read next
abbrev pub fits : Next → Part → Bool
fits reads.Token part.Text = false
fits reads.Token part.Substitution = false
fits reads.Token _ = true
fits reads.Text part.Text = true
fits reads.Text _ = false
fits reads.Delimiter part.Backquote = true
fits reads.Delimiter part.Substitution = true
fits reads.Delimiter _ = false

-- what is read after a backquote
abbrev pub behind_backquote : Next → Next
behind_backquote reads.Delimiter = reads.Token
behind_backquote _ = reads.Text

-- which brackets are open before a token, what is read there, what the token is, and then the same of after it; the
-- innermost bracket is the last, and outside of all templates none counts
pub data Turns : List Open → Next → Part → List Open → Next → Type 0 where
  text : {brackets : List Open} → Turns brackets reads.Text part.Text brackets reads.Delimiter
  begins : {brackets : List Open} → Turns brackets reads.Token part.Backquote brackets reads.Text
  ends : {brackets : List Open} → Turns brackets reads.Delimiter part.Backquote brackets reads.Token
  opens : {brackets : List Open} → Turns brackets reads.Delimiter part.Substitution
      (brackets ++ opened.Substitution ∷ []) reads.Token
  closes : {before brackets : List Open} → before ≡ brackets ++ opened.Substitution ∷ []
      → Turns before reads.Token part.CloseBrace brackets reads.Text
  opens_brace : {brackets : List Open} → 0 < length brackets
      → Turns brackets reads.Token part.OpenBrace (brackets ++ opened.Brace ∷ []) reads.Token
  closes_brace : {before brackets : List Open} → before ≡ brackets ++ opened.Brace ∷ []
      → Turns before reads.Token part.CloseBrace brackets reads.Token
  brace_outside : Turns [] reads.Token part.OpenBrace [] reads.Token
  close_outside : Turns [] reads.Token part.CloseBrace [] reads.Token
  other : {brackets : List Open} → Turns brackets reads.Token part.Other brackets reads.Token

-- the tokens nest, with these brackets open after them, and this is read next
pub data Nests : List TokenAndSpan → List Open → Next → Type 0 where
  nothing : Nests [] [] reads.Token
  and_token : {ts : List TokenAndSpan} {before brackets : List Open} {here behind : Next} (t : TokenAndSpan)
      → Nests ts before here → Turns before here (part_of t.token) brackets behind
      → Nests (ts ++ t ∷ []) brackets behind

-- the tokens nest, and no template is open after them
abbrev pub AreNested : List TokenAndSpan → Type 0
AreNested ts = Nests ts [] reads.Token
