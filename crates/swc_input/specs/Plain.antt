-- A token as contracts compare it: where the boxes of an error in it lie in memory doesn't count.
use Rattle.std.specs.Prelude.{Result, Ok, Err}
use Rattle.swc_context.specs.{declared.error.Error.Error, Plain.plain_error}
use Rattle.swc_input.specs.{declared.token.Token.Token, declared.token.TokenAndSpan.TokenAndSpan}
use Rattle.swc_input.specs.declared.token.Token.TheVariants as token

abbrev pub plain_cooked : {A : Type 0} → Result A Error → Result A Error
plain_cooked (Ok a) = Ok a
plain_cooked (Err e) = Err (plain_error e)

abbrev pub plain_token : Token → Token
plain_token (token.Template raw cooked) = token.Template raw (plain_cooked cooked)
plain_token (token.Error e) = token.Error (plain_error e)
plain_token t = t

abbrev pub plain : TokenAndSpan → TokenAndSpan
plain t = record t { token = plain_token t.token }
