-- `#` and a name: by themselves, and as the left operand of `in`.
use Rattle.std.proofs.Common.{◌≡◌, Bool, true, false, not, ◌&&◌, if◌then◌else◌, List, [], ◌∷◌, Option, Some, None, Result, Ok, Err, refl, ap, ◌∙◌}
use Rattle.swc_context.specs.declared.error.Error.{Error}
use Rattle.swc_input.specs.{declared.buffer.Buffer.Buffer, declared.token.TokenAndSpan.TokenAndSpan, Kinds.at_token, Kinds.is_hash, Source.Model, Source.Laws}
use Rattle.swc_ast.specs.Trees.{to, private_e}
use Rattle.swc_bodies.specs.Readings.{Hook}
use Rattle.swc_grammar.specs.{Clean.Out, Clean.first, Grammar.private-expr, Names.Spelling, Names.may_name, Scope.Scope, Tokens.is_in, Words.◌>>=◌, Words.word}
use Rattle.swc_steps.specs.Args.{hash_name}
use Rattle.swc_input.specs.Calls.{Checked}
use Rattle.swc_steps.specs.Parsing.{scope, Continues, On}
use Rattle.swc_steps.specs.Readers.{before_in, by_production, nothing, private_operand, reading}
use Rattle.swc_steps.proofs.Rules as rule
use Rattle.swc_steps.proofs.Steps.{Reader, check_passes, give, on_checked_in, on_then, unheard_after, unheard_memory}
use Rattle.swc_primary.specs.Openings.{in_comes}

none_then : {A B : Type 0} (o : Out A) (k : A × List TokenAndSpan → Out B) → ((p : A × List TokenAndSpan) → k p ≡ None)
    → (o >>= k) ≡ None
none_then None k h = refl
none_then (Some p) k h = h p

module _ {S : Type 0} {model : Model S} {sure : Bool} where
  -- f is g where code is, and nothing was done
  on_where : {A : Type 0} {f g : Reader A} → Laws model → (b : Buffer S)
      → ((ts : List TokenAndSpan) → f (scope model b) ts ≡ g (scope model b) ts) → On model sure f g b b
  on_where laws b step = on_checked_in true (check_passes true laws b refl) (λ ts w. step ts) (λ ts w. cc)

  -- after a name, where the syntax isn't pedantic
  pub on_lenient : {A : Type 0} {t : A} → Laws model → (b : Buffer S) → (scope model b).syntax.pedantic ≡ false
      → On model sure (λ x ts. if not x.syntax.pedantic then Some (t, ts) else None) (give t) b b
  on_lenient {t = t} laws b h = on_where laws b (λ ts. ap (λ v. if not v then Some (t, ts) else None) h)

module _ {F C K : Type 0} (hook : Hook F C K) where
  -- where the syntax is pedantic, `#` and a name are no expression
  no_private : (x : Scope) (ts : List TokenAndSpan) → x.syntax.pedantic ≡ true
      → by_production hook (λ c. private-expr) x ts ≡ None
  unfolding by_production reading
  no_private x [] h = refl
  no_private x (t ∷ ts) h = by-case (is_hash t.token) refl
    where
      by-case : (b : Bool) → is_hash t.token ≡ b → by_production hook (λ c. private-expr) x (t ∷ ts) ≡ None
      by-case true e =
          rule.private_expr_opens hook t x ts e ∙ rule.private_expr_splits hook t.span x ts
          ∙ none_then (word may_name x ts) _
          (λ p. ap (λ v. if not v then Some (private_e (to t.span p.0.at) p.0.text, p.1) else None) h)
      by-case false e = rw e refl

  pub never_private : {S : Type 0} {model : Model S} {sure : Bool} → Laws model → (b : Buffer S)
      → (scope model b).syntax.pedantic ≡ true → On model sure (by_production hook (λ c. private-expr)) nothing b b
  never_private {model = model} laws b h = on_where laws b (λ ts. no_private (scope model b) ts h)

  -- the left operand of `in`: its name, and then `in`, which stays
  pub operand_splits : (x : Scope) (ts : List TokenAndSpan)
      → private_operand hook x ts ≡ (hash_name x ts >>= (λ p. before_in hook p.0.0 x p.1))
  unfolding private_operand
  operand_splits x ts = refl

  pub before_splits : (n : Spelling) (x : Scope) (ts : List TokenAndSpan)
      → before_in hook n x ts ≡ (in_comes x ts >>= (λ p. Some (private_e n.at n.text, p.1)))
  before_splits n x ts = by-case (x.context.include_in_expr && at_token is_in (first ts)) refl
    where
      by-case : (b : Bool) → (x.context.include_in_expr && at_token is_in (first ts)) ≡ b
          → before_in hook n x ts ≡ (in_comes x ts >>= (λ p. Some (private_e n.at n.text, p.1)))
      by-case true e = rw e refl
      by-case false e = rw e refl

pub in_of : {x y : Scope} (ts : List TokenAndSpan) {o : Option TokenAndSpan} → x ≡ y → first ts ≡ o
    → (x.context.include_in_expr && at_token is_in (first ts)) ≡ (y.context.include_in_expr && at_token is_in o)
in_of ts same e = rw (same, e) refl

pub in_goes : (x : Scope) (ts : List TokenAndSpan) → (x.context.include_in_expr && at_token is_in (first ts)) ≡ true
    → in_comes x ts ≡ Some (tt, ts)
in_goes x ts h = rw h refl

pub in_stops : (x : Scope) (ts : List TokenAndSpan) → (x.context.include_in_expr && at_token is_in (first ts)) ≡ false
    → in_comes x ts ≡ None
in_stops x ts h = rw h refl

-- where another token comes next, a fault is recorded
pub not_in : {S T A : Type 0} {model : Model S} {sure : Bool} {f : Reader A} (view : T → A) {b c : Buffer S}
    (r : Result T Error) (d : Buffer S) → On model sure f nothing b c → Checked model false c r d
    → Continues model sure view f b r d
not_in view (Ok u) d o h = on_then o (on_checked_in false h (λ ts w. cc) (λ ts w. refl))
not_in view (Err e) d o h = unheard_after o (unheard_memory h)
