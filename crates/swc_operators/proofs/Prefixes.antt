-- What `await` is, once it was consumed, as the code finds it.
use Rattle.std.proofs.Common.{◌≡◌, Bool, true, false, not, ◌&&◌, if◌then◌else◌, List, Some, None, Result, Ok, Err, IfOk, refl, sym, ap, ◌∙◌}
use Rattle.swc_context.specs.{declared.error.Error.Error, declared.span.Span.Span}
use Rattle.swc_input.specs.{declared.buffer.Buffer.Buffer, declared.token.TokenAndSpan.TokenAndSpan, Buffer.context, Kinds.at_token, Source.Model}
use Rattle.swc_bodies.specs.Readings.{Hook}
use Rattle.swc_grammar.specs.{Scope.Scope, Tokens.is_star, Clean.first, Clean.ends_await_at, Words.◌>>=◌}
use Rattle.swc_operators.specs.Prefixes.{await_is_name, await_names, await_by_name}
use Rattle.swc_operators.specs.Updates.{await_tail, await_go}
use Rattle.swc_input.specs.Calls.{Here, Looks}
use Rattle.swc_steps.specs.Parsing.{seen, Continues}
use Rattle.swc_steps.proofs.Steps as s
use Rattle.swc_operators.proofs.Updates.{if_on, if_off}

pub name_star : (x : Scope) (ts : List TokenAndSpan) → at_token is_star (first ts) ≡ true → await_names x ts ≡ None
name_star x ts h = if_on (at_token is_star (first ts)) _ _ h

name_plain : (x : Scope) (ts : List TokenAndSpan) → at_token is_star (first ts) ≡ false
    → await_names x ts ≡ await_is_name x ts
name_plain x ts h = if_off (at_token is_star (first ts)) _ _ h

module _ {F C K : Type 0} (hook : Hook F C K) where
  -- it is told whether `await` is an identifier, and then it is read on
  pub await_splits : (s : Span) (x : Scope) (ts : List TokenAndSpan)
      → await_tail hook s x ts ≡ (await_names x ts >>= (λ p. await_by_name hook s p.0 x p.1))
  unfolding await_tail
  await_splits s x ts = by_star (at_token is_star (first ts))
    where
      by_star : (b : Bool) → (if b then None else await_go hook s x ts)
          ≡ ((if b then None else await_is_name x ts) >>= (λ p. await_by_name hook s p.0 x p.1))
      by_star true = refl
      by_star false = refl

-- where no `*` is seen, and it is told whether code is async and an operand follows
pub name_told : {S : Type 0} (model : Model S) (sure : Bool) {b c : Buffer S} (d : Buffer S) (r : Result Bool Error)
    → Here model b c → at_token is_star (seen c) ≡ false → Looks model c r d
    → IfOk r (λ v. v ≡ (not (context model d).in_async && ends_await_at (seen d)))
    → Continues model sure (λ v. v) await_names b r d
name_told model sure d (Ok v) at plain looks is =
    s.on_then (s.on_seen at (λ x ts same e. name_plain x ts (ap (at_token is_star) e ∙ plain)))
    (s.on_seen looks (λ x ts same e. ap (λ n. Some (n, ts))
    (ap (λ o. not x.context.in_async && ends_await_at o) e
    ∙ ap (λ y. not y.context.in_async && ends_await_at (seen d)) same ∙ sym is)))
name_told model sure d (Err e) at plain looks is = s.unheard_memory (s.forgoes_later (s.here_leads at) looks)
