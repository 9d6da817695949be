-- A name, a literal or `this` begins a primary expression that has no other in it.
use Rattle.std.proofs.Common.{◌≡◌, Option, Some, None, true, false, refl}
use Rattle.swc_bodies.specs.Readings.{is_brace}
use Rattle.swc_grammar.specs.Tokens.{is_lparen, is_lbracket, is_backquote}
use Rattle.swc_input.specs.Kinds.{at_token}
use Rattle.swc_input.specs.declared.token.Token.{Token}
use Rattle.swc_input.specs.declared.token.Token.TheVariants as token
use Rattle.swc_input.specs.declared.token.TokenAndSpan.{TokenAndSpan}
use Rattle.swc_operators.specs.Operands.{is_plain}
use Rattle.swc_primary.specs.Openings.{primary_kind}
use Rattle.swc_primary.specs.declared.primary.PrimaryKind.TheVariants as kind

opens_none : (t : Token) → is_plain t ≡ true
    → (is_lparen t ≡ false) × (is_lbracket t ≡ false) × (is_brace t ≡ false) × (is_backquote t ≡ false)
opens_none token.LParen h = absurd cc
opens_none token.LBracket h = absurd cc
opens_none token.LBrace h = absurd cc
opens_none token.BackQuote h = absurd cc
opens_none t h = (refl, refl, refl, refl)

pub plain_kind : (o : Option TokenAndSpan) → at_token is_plain o ≡ true → primary_kind o ≡ kind.Plain
plain_kind None h = absurd cc
plain_kind (Some t) h = let (a, b, c, d) = opens_none t.token h in rw (a, b, c, d) refl
