-- What a property begins with: how it is read, and by which of its forms.
use Rattle.std.proofs.Common.{◌≡◌, Bool, Result, Ok, Err, MatchResult, refl, subst}
use Rattle.swc_context.specs.declared.error.Error.{Error}
use Rattle.swc_input.specs.{declared.buffer.Buffer.Buffer, Source.Model}
use Rattle.swc_bodies.specs.Readings.{Hook}
use Rattle.swc_grammar.specs.{Symbols.Prop, Clean.sym as at, Clean.run}
use Rattle.swc_primary.specs.{declared.object.PropHead.PropHead, declared.object.PropHead.PropHead as head, Begins.Begins}
use Rattle.swc_steps.specs.Readers.{nothing}
use Rattle.swc_steps.specs.Parsing.{On, Heard, Unheard, Parses}
use Rattle.swc_steps.proofs.Steps.{here, heard_after, heard_nothing, on_nothing, on_then, unheard_after, unheard_none}

module _ {S F C K : Type 0} (model : Model S) (sure : Bool) (hook : Hook F C K) where
  -- of the form that is known
  pub begun : (b c : Buffer S) {h : PropHead} (k : PropHead) → h ≡ k → Begins model sure hook h b c
      → Begins model sure hook k b c
  begun b c k e r = subst (λ v. Begins model sure hook v b c) e r

  -- where a fault was recorded and no property is read, it is whatever was made of it
  faulty_begins : {b m c : Buffer S} (h : PropHead) → On model sure (run hook (at Prop)) nothing b m
      → Heard model sure nothing h m c → Begins model sure hook h b c
  faulty_begins {c = c} (head.Shorthand n) o r = heard_after o (heard_nothing r (here r.on.leads.laws c))
  faulty_begins (head.Spread s) o r = on_then o (on_nothing r)
  faulty_begins (head.Cover n) o r = on_then o (on_nothing r)
  faulty_begins head.Key o r = on_then o (on_nothing r)
  faulty_begins (head.Method k s) o r = on_then o (on_nothing r)

  pub begins_faulty : (b c : Buffer S) {m : Buffer S} (r : Result PropHead Error)
      → On model sure (run hook (at Prop)) nothing b m
      → Parses model sure (λ h. h) nothing m r c
      → MatchResult r (λ h. Begins model sure hook h b c) (λ e. Unheard model sure (run hook (at Prop)) b e c)
  begins_faulty b c (Ok h) o r = faulty_begins h o r
  begins_faulty b c (Err e) o r = unheard_after o (unheard_none (λ x ts. refl) r.refuses)
