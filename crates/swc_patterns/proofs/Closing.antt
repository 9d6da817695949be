-- After a rest that is the last of its list: the token that closes the list, and no comma.
use Rattle.std.specs.Prelude.{◌≡◌, Bool, true, false, if◌then◌else◌, List, [], ◌∷◌, Option, Some, None}
use Rattle.std.proofs.Common.{refl}
use Rattle.swc_context.specs.declared.span.Span.{Span}
use Rattle.swc_input.specs.{declared.token.Token.Token, declared.token.Token.Token as token, declared.token.TokenAndSpan.TokenAndSpan}
use Rattle.swc_grammar.specs.{Scope.Scope, Tokens.tk, Clean.Out, Words.◌>>=◌}
use Rattle.swc_steps.specs.Keys.{expected, expected_by}
use Rattle.swc_steps.specs.Lists.{eaten, eaten_by, closed, separated}

module _ {A : Type 0} (f : Token → Bool) (k : Span × List TokenAndSpan → Out A) where
  -- after the comma there, or none
  abbrev pub closing_by : Scope → Option Span → List TokenAndSpan → Out A
  closing_by x None us = expected f x us >>= k
  closing_by x (Some s) us = None

  at_close : (b : Bool) (x : Scope) (u : TokenAndSpan) (us : List TokenAndSpan) → f u.token ≡ b
      → ((if b then Some (tt {0}, u ∷ us) else None) >>= (λ p. Some (None, p.1)) >>= (λ q. closing_by x q.0 q.1))
      ≡ (eaten_by b (u ∷ us) >>= (λ p. expected_by p.0 p.1) >>= k)
  unfolding expected eaten
  at_close true x u us h = rw h refl
  at_close false x u us h = refl

  comma_first : (x : Scope) (v : Token) (b : Bool) (s : Span) (us : List TokenAndSpan) → f token.Comma ≡ false
      → (separated f x (tk v b s ∷ us) >>= (λ q. closing_by x q.0 q.1)) ≡ (expected f x (tk v b s ∷ us) >>= k)
  unfolding separated closed expected eaten
  comma_first x token.Comma b s us n = rw n refl
  comma_first x v b s us n = at_close (f v) x (tk v b s) us refl

  pub rest_closes : f token.Comma ≡ false → (x : Scope) (us : List TokenAndSpan)
      → (separated f x us >>= (λ q. closing_by x q.0 q.1)) ≡ (expected f x us >>= k)
  unfolding separated closed expected eaten
  rest_closes n x [] = refl
  rest_closes n x (u ∷ us) = comma_first x u.token u.had_line_break u.span us n
