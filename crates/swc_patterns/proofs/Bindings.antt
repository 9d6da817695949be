-- Names that are bound: what the call on them reads is what the clean parser reads.
use Rattle.std.proofs.Common.{◌≡◌, ℕ, Bool, if◌then◌else◌, List, [], ◌∷◌, Some, None, refl, sym, ap}
use Rattle.swc_context.specs.{Words.word_text, declared.context.Context.Context, declared.error.Error.Error, declared.span.Span.Span}
use Rattle.swc_input.specs.{declared.buffer.Buffer.Buffer, declared.token.Token.Token, declared.token.Token.Token as token, declared.token.TokenAndSpan.TokenAndSpan, Source.Model, Source.Laws}
use Rattle.swc_grammar.specs.Names.{spelling, spelled, may_bind}
use Rattle.swc_grammar.specs.{Scope.Scope, Words.one, Words.word}
use Rattle.swc_ident.specs.{Naming.Named, Naming.Unnamed, Verdicts.binding_verdict}
use Rattle.swc_steps.specs.Parsing.{Heard, Unheard}
use Rattle.swc_steps.proofs.Naming.{heard_name, honest-binding, unheard_name, word_of}
use Rattle.swc_steps.proofs.{Steps.heard_after, Steps.on_here, Steps.unheard_after, Words.is_clean, Words.binding-table}

spelled_same : (c : Context) (t : Token) (s : Span)
    → spelled (may_bind c) t s ≡ spelled (λ w. is_clean c (binding_verdict c w)) t s
spelled_same c (token.Word w) s =
    ap (λ b. if b then Some (spelling (word_text w) s) else None) (sym (binding-table c w))
spelled_same c t s = refl

read_same : (x : Scope) (ts : List TokenAndSpan) → word may_bind x ts ≡ word_of binding_verdict x ts
unfolding word
read_same x [] = refl
read_same x (t ∷ ts) = ap (λ o. one o ts) (spelled_same x.context t.token t.span)

module _ {S : Type 0} {model : Model S} {sure : Bool} {b c : Buffer S} (laws : Laws model) where
  pub binding_read : {text : List ℕ} {at : Span} → Named model binding_verdict text at b c
      → Heard model sure (word may_bind) (spelling text at) b c
  binding_read h = heard_after (on_here laws b read_same) (heard_name binding_verdict honest-binding laws h)

  pub binding_unread : {e : Error} → Unnamed model binding_verdict b e c → Unheard model sure (word may_bind) b e c
  binding_unread h = unheard_after (on_here laws b read_same) (unheard_name binding_verdict honest-binding laws h)
