-- Tests of signs.
use Rattle.std.proofs.Common.{◌≡◌, Bool, true, Option, Some, None, refl, sym, ap, ◌∙◌}
use Rattle.swc_input.specs.{declared.token.Token.Token, declared.token.Token.Token as token, declared.token.TokenAndSpan.TokenAndSpan, Buffer.token_of, Kinds.at_token, Plain.plain_token}
use Rattle.swc_steps.specs.{declared.tokens.Sign.Sign, declared.tokens.Sign.Sign as sign, Lists.is_sign_token, Parsing.seen_of}

-- where the boxes of an error lie doesn't count
plain_sign : (s : Sign) (t : Token) → is_sign_token s (plain_token t) ≡ is_sign_token s t
plain_sign s (token.Template raw cooked) = by-sign s
  where
    by-sign : (s : Sign)
        → is_sign_token s (plain_token (token.Template raw cooked)) ≡ is_sign_token s (token.Template raw cooked)
    by-sign sign.Comma = refl
    by-sign s = refl
plain_sign s (token.Error e) = by-sign s
  where
    by-sign : (s : Sign) → is_sign_token s (plain_token (token.Error e)) ≡ is_sign_token s (token.Error e)
    by-sign sign.Comma = refl
    by-sign s = refl
plain_sign s t = refl

pub sign_seen : (s : Sign) (o : Option TokenAndSpan) (t : Token) (r : Bool) → Some t ≡ token_of o
    → r ≡ is_sign_token s t → r ≡ at_token (is_sign_token s) (seen_of o)
sign_seen s None t r e h = absurd cc
sign_seen s (Some u) t r e h =
    let same : t ≡ u.token = cc in h ∙ ap (is_sign_token s) same ∙ sym (plain_sign s u.token)

-- the sign that is seen is the current token
pub sign_here : (s : Sign) (o : Option TokenAndSpan) → at_token (is_sign_token s) (seen_of o) ≡ true
    → at_token (is_sign_token s) o ≡ true
sign_here s None h = cc
sign_here s (Some u) h = sym (plain_sign s u.token) ∙ h
