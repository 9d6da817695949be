-- Tokens in the order of the text.
use Rattle.std.specs.Prelude.{ℕ, ◌<◌, ◌≤◌, List, [], ◌∷◌, Bool, true, false, IsFalse}
use Rattle.swc_input.specs.{declared.token.Token.Token, declared.token.TokenAndSpan.TokenAndSpan}
use Rattle.swc_input.specs.declared.token.Token.TheVariants as token

-- whether a token is a text of a template
unfoldable pub is_text : Token → Bool
is_text (token.Template _ _) = true
is_text _ = false

-- a token's place ends at or after its beginning, and only texts of templates may be empty
pub record HasPlace (t : TokenAndSpan) : Type 0 where
  pub forward : t.span.lo.0 ≤ t.span.hi.0
  pub nonempty : IsFalse (is_text t.token) → t.span.lo.0 < t.span.hi.0

-- each of the tokens has a place, they come one after the other, and all between two positions
unfoldable pub InOrder : ℕ → List TokenAndSpan → ℕ → Type 0
InOrder low [] high = low ≤ high
InOrder low (t ∷ ts) high = (low ≤ t.span.lo.0) × HasPlace t × InOrder t.span.hi.0 ts high

-- the position after the last token, or the given one where there is none
unfoldable pub end_of : ℕ → List TokenAndSpan → ℕ
end_of low [] = low
end_of low (t ∷ ts) = end_of t.span.hi.0 ts

-- whether a token is a fault
unfoldable pub is_error : Token → Bool
is_error (token.Error _) = true
is_error _ = false

-- whether a token may be outside of templates: no fault, no text of a template and no `${`
unfoldable pub is_free : Token → Bool
is_free (token.Error _) = false
is_free (token.Template _ _) = false
is_free token.DollarLBrace = false
is_free _ = true
