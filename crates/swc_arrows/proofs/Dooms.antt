-- A fault that was recorded, so that nothing is read, whatever follows.
use Rattle.std.proofs.Common.{◌≡◌, ◌<◌, Bool, List, Some, None, Result, Ok, Err, refl, ap, ◌∙◌, arith, ⊎_elim}
use Rattle.std.proofs.lemmas.Bool.{cases_lt}
use Rattle.swc_context.specs.declared.error.Error.{Error}
use Rattle.swc_input.specs.{declared.buffer.Buffer.Buffer, declared.token.TokenAndSpan.TokenAndSpan, Source.Model, Laws.Known-after, Laws.Known-Future}
use Rattle.swc_grammar.specs.{Scope.Scope, Clean.Out, Clean.first, Words.◌>>=◌}
use Rattle.swc_input.specs.Calls.{recorded, Loud, Leads, Here, Refuses, Tries}
use Rattle.swc_steps.specs.Parsing.{scope, seen, On, Heard, Unheard}
use Rattle.swc_steps.proofs.Steps.{Reader, onward_then, onward_later, more_recorded, loud_after, refuses_later, forgoes_later, on_seen}
use Rattle.swc_steps.proofs.{Steps.Calls.on_call, Steps.Calls.on_call_read, Steps.Consumed.leads_then, Steps.Consumed.spent, Steps.Tokens.on_then}
use Rattle.swc_arrows.specs.Answers.{Doomed, Fails, Opens}

module _ {S : Type 0} {model : Model S} where
  -- a call that is refused only when out of memory, after what was consumed
  pub tries_later : {T : Type 0} {b c : Buffer S} (d : Buffer S) (r : Result T Error) → Leads model b c
      → Tries model c r d → Tries model b r d
  tries_later d (Ok x) p h = leads_then p h
  tries_later d (Err e) p h = forgoes_later p h

module _ {S : Type 0} {model : Model S} {sure : Bool} where
  -- ---- a fault, and what follows

  unfoldable pub doomed_after : {A : Type 0} {f g : Reader A} {b c d : Buffer S} → On model sure f g b c
      → Doomed model sure g c d → Doomed model sure f b d
  unfolding leads_then
  doomed_after {f = f} {b = b} {c = c} p h = record {
    leads = leads_then p.leads h.leads;
    notes = λ l. let m = more_recorded p.leads in let n = h.notes (loud_after p.leads l) in omega arith;
    none = λ y l ts k. ⊎_elim
        (λ lt. p.faulty y l lt ts k)
        (λ ge.
        let m = more_recorded p.leads in
        let s : recorded model c ≡ recorded model b = omega arith in
        let w = Known-after p.leads.laws b c p.leads.taken ts p.leads.read.took k in
        ap (λ v. f (scope model b) v) w.2 ∙ p.clean l s w.0 (Known-Future p.leads.laws c w.0 w.1)
        ∙ h.none y (loud_after p.leads l) w.0 w.1)
        (cases_lt (recorded model b) (recorded model c));
  }

  unfoldable pub doomed_later : {A : Type 0} {f : Reader A} {b c d : Buffer S} → Doomed model sure f b c
      → Leads model c d → Doomed model sure f b d
  doomed_later h p = record {
    leads = leads_then h.leads p;
    notes = λ l. let m = more_recorded p in let n = h.notes l in omega arith;
    none = h.none;
  }

  -- where f is doomed, what it goes on with may be any reader g
  unfoldable pub doomed_on : {A : Type 0} {f g : Reader A} {b c : Buffer S} → Doomed model sure f b c
      → On model sure f g b c
  doomed_on h = record {
    leads = h.leads;
    clean = λ l s ys fut. let m = h.notes l in absurd (omega (arith, s, m));
    faulty = λ y l lt ts k. h.none y l ts k;
  }

  pub doomed_unheard : {A : Type 0} {f : Reader A} {b c d : Buffer S} {e : Error} → Doomed model sure f b c
      → Refuses model c e d → Unheard model sure f b e d
  doomed_unheard h r = record { refuses = refuses_later h.leads r; none = λ n y l ts k. h.none y l ts k }

  -- q is called, and reads nothing
  pub doomed_call : {A B : Type 0} {f : Reader A} {q : Reader B} {b c : Buffer S}
      (k : Scope → B × List TokenAndSpan → Out A) → ((x : Scope) (ts : List TokenAndSpan) → f x ts ≡ (q x ts >>= k x))
      → Doomed model sure q b c → Doomed model sure f b c
  doomed_call {b = b} k step h = record {
    leads = h.leads;
    notes = h.notes;
    none = λ y l ts z. step (scope model b) ts ∙ ap (λ o. o >>= k (scope model b)) (h.none y l ts z);
  }

  -- a fault is recorded, where f reads nothing of a list that begins with what is seen
  pub doomed_seen : {A : Type 0} {f : Reader A} {b c d : Buffer S} → Here model b c
      → ((x : Scope) (ts : List TokenAndSpan) → x ≡ scope model c → first ts ≡ seen c → f x ts ≡ None)
      → Leads model c d → (Loud model c → recorded model c < recorded model d) → Doomed model sure f b d
  doomed_seen {A = A} {f = f} h none p lt =
      let n : Reader A = λ x ts. None in
      doomed_after (on_seen {g = n} h none) (record { leads = p; notes = lt; none = λ y l ts k. refl })

  -- ---- the same, where one token at least was consumed

  pub fails_later : {A : Type 0} {f : Reader A} {b c d : Buffer S} → Fails model sure f b c → Leads model c d
      → Fails model sure f b d
  unfolding doomed_later leads_then
  fails_later h p = record { doomed = doomed_later h.doomed p; onward = onward_then h.onward p }

  pub fails_heard : {A : Type 0} {f : Reader A} {t : A} {b c : Buffer S} → Fails model sure f b c
      → Heard model sure f t b c
  unfolding doomed_on
  fails_heard h = record { on = doomed_on h.doomed; onward = h.onward }

  pub opens_fails : {A : Type 0} {f g : Reader A} {b c d : Buffer S} → Opens model sure f g b c
      → Doomed model sure g c d → Fails model sure f b d
  unfolding doomed_after leads_then
  opens_fails h p = record { doomed = doomed_after h.on p; onward = onward_then h.onward p.leads }

  -- ---- from a place on, one token after

  pub opens_later : {A : Type 0} {f g h : Reader A} {b c d : Buffer S} → Opens model sure f g b c
      → On model sure g h c d → Opens model sure f h b d
  unfolding on_then leads_then
  opens_later p o = record { on = on_then p.on o; onward = onward_then p.onward o.leads }

  pub opens_heard : {A : Type 0} {f : Reader A} {t : A} {b c : Buffer S} → Opens model sure f (λ x ts. Some (t, ts)) b c
      → Heard model sure f t b c
  opens_heard h = record { on = h.on; onward = h.onward }

  pub opens_after : {A : Type 0} {f g h : Reader A} {b c d : Buffer S} → On model sure f g b c
      → Opens model sure g h c d → Opens model sure f h b d
  unfolding on_then leads_then spent
  opens_after p o = record { on = on_then p o.on; onward = onward_later (spent p.leads) o.onward }

  pub fails_after : {A : Type 0} {f g : Reader A} {b c d : Buffer S} → On model sure f g b c → Fails model sure g c d
      → Fails model sure f b d
  unfolding doomed_after leads_then spent
  fails_after p h = record { doomed = doomed_after p h.doomed; onward = onward_later (spent p.leads) h.onward }

  -- q is called, and what is left after what it read
  pub opens_call : {A B : Type 0} {f : Reader A} {q : Reader B} {t : B} {b c : Buffer S}
      (k : Scope → B × List TokenAndSpan → Out A) → ((x : Scope) (ts : List TokenAndSpan) → f x ts ≡ (q x ts >>= k x))
      → Heard model sure q t b c → Opens model sure f (λ x ts. k x (t, ts)) b c
  unfolding on_call
  opens_call k step h = record { on = on_call k step h.on; onward = h.onward }

  -- the same, where what it read is known to be that
  pub opens_call_read : {A B : Type 0} {f g : Reader A} {q : Reader B} {t : B} {b c : Buffer S}
      (k : Scope → B × List TokenAndSpan → Out A) → ((x : Scope) (ts : List TokenAndSpan) → f x ts ≡ (q x ts >>= k x))
      → Heard model sure q t b c → ((x : Scope) (ts us : List TokenAndSpan) → q x ts ≡ Some (t, us) → (y : Scope)
      (ys : List TokenAndSpan) → k y (t, ys) ≡ g y ys) → Opens model sure f g b c
  unfolding on_call_read on_call
  opens_call_read k step h same = record { on = on_call_read k step h.on same; onward = h.onward }
