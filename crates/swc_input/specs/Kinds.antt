-- Tests on tokens.
use Rattle.std.specs.Prelude.{Bool, true, false, Option, Some, None}
use Rattle.swc_input.specs.{declared.token.Token.Token, declared.token.Token.Token as token, declared.token.TokenAndSpan.TokenAndSpan}

-- the test at a current token; none passes it at the end
abbrev pub at_token : (Token → Bool) → Option TokenAndSpan → Bool
at_token f None = false
at_token f (Some t) = f t.token

abbrev pub is_hash : Token → Bool
is_hash token.Hash = true
is_hash t = false

abbrev pub is_word : Token → Bool
is_word (token.Word w) = true
is_word t = false
