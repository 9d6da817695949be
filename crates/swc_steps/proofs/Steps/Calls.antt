-- What is read by a call, and what goes on after it.
use Rattle.std.proofs.Common.{◌≡◌, Bool, List, ◌++◌, Some, sym, ap, ◌∙◌, arith}
use Rattle.swc_context.specs.declared.error.Error.{Error}
use Rattle.swc_input.specs.{declared.buffer.Buffer.Buffer, declared.token.TokenAndSpan.TokenAndSpan, Source.Model, Laws.Future-before}
use Rattle.swc_grammar.specs.{Scope.Scope, Clean.Out, Words.◌>>=◌}
use Rattle.swc_input.specs.Calls.{recorded}
use Rattle.swc_steps.specs.Parsing.{scope, On, Heard, Unheard}
use Rattle.swc_steps.proofs.Steps.Consumed.{Reader, give, read_scope, leads_then, more_recorded}
use Rattle.swc_steps.proofs.Steps.Tokens.{on_then, heard_then, on_to}

module _ {S : Type 0} {model : Model S} {sure : Bool} where
  -- q is called, and k goes on
  unfoldable pub on_call : {A B : Type 0} {f : Reader A} {q : Reader B} {t : B} {b c : Buffer S}
      (k : Scope → B × List TokenAndSpan → Out A) → ((x : Scope) (ts : List TokenAndSpan) → f x ts ≡ (q x ts >>= k x)) →
      On model sure q (give t) b c → On model sure f (λ x ts. k x (t, ts)) b c
  on_call {t = t} {b = b} {c = c} k step o = record {
    leads = o.leads;
    clean = λ l s ys f. step (scope model b) (o.leads.taken ++ ys) ∙ ap (λ v. v >>= k (scope model b))
        (o.clean l s ys f) ∙ ap (λ x. k x (t, ys)) (sym (read_scope o.leads.laws o.leads.read));
    faulty = λ y l lt ts h. step (scope model b) ts ∙ ap (λ v. v >>= k (scope model b)) (o.faulty y l lt ts h);
  }

  -- the same, where r reads what is left of q
  pub on_within_call : {A B : Type 0} {f g : Reader A} {q r : Reader B} {b c : Buffer S}
      (k : Scope → B × List TokenAndSpan → Out A) → ((x : Scope) (ts : List TokenAndSpan) → f x ts ≡ (q x ts >>= k x))
      → ((x : Scope) (ts : List TokenAndSpan) → g x ts ≡ (r x ts >>= k x)) → On model sure q r b c
      → On model sure f g b c
  on_within_call {r = r} {b = b} {c = c} k step last o = record {
    leads = o.leads;
    clean = λ l s ys f.
        step (scope model b) (o.leads.taken ++ ys) ∙ ap (λ v. v >>= k (scope model b)) (o.clean l s ys f)
        ∙ ap (λ x. r (scope model c) ys >>= k x) (sym (read_scope o.leads.laws o.leads.read))
        ∙ sym (last (scope model c) ys);
    faulty = λ y l lt ts h. step (scope model b) ts ∙ ap (λ v. v >>= k (scope model b)) (o.faulty y l lt ts h);
  }

  pub unheard_call : {A B : Type 0} {f : Reader A} {q : Reader B} {b c : Buffer S} {e : Error}
      (k : Scope → B × List TokenAndSpan → Out A) → ((x : Scope) (ts : List TokenAndSpan) → f x ts ≡ (q x ts >>= k x)) →
      Unheard model sure q b e c → Unheard model sure f b e c
  unheard_call {b = b} k step u = record {
    refuses = u.refuses;
    none =
        λ n y l ts h. step (scope model b) ts ∙ ap (λ v. v >>= k (scope model b)) (u.none n y l ts h);
  }

  -- what was read, and what k makes of it
  pub heard_call : {A B : Type 0} {f : Reader A} {q : Reader B} {t : B} {u : A} {b c : Buffer S}
      (k : Scope → B × List TokenAndSpan → Out A) → ((x : Scope) (ts : List TokenAndSpan) → f x ts ≡ (q x ts >>= k x)) →
      ((x : Scope) (ts : List TokenAndSpan) → k x (t, ts) ≡ Some (u, ts)) → Heard model sure q t b c
      → Heard model sure f u b c
  unfolding on_call on_to
  heard_call {q = q} {t = t} {u = u} {b = b} {c = c} k step ends h =
      record { on = on_to (on_call k step h.on) ends; onward = h.onward }

  -- what was read, and what is read after it
  pub heard_more : {A B : Type 0} {f : Reader A} {q : Reader B} {t : B} {u : A} {b c d : Buffer S}
      (k : Scope → B × List TokenAndSpan → Out A) → ((x : Scope) (ts : List TokenAndSpan) → f x ts ≡ (q x ts >>= k x)) →
      Heard model sure q t b c → On model sure (λ x ts. k x (t, ts)) (give u) c d → Heard model sure f u b d
  unfolding on_call
  heard_more k step h o = heard_then (on_call k step h.on) h.onward o

  -- what was read is made into something else
  pub heard_as : {A B : Type 0} {f : Reader A} {q : Reader B} {t : B} {b c : Buffer S} (k : B → A)
      → ((x : Scope) (ts : List TokenAndSpan) → f x ts ≡ (q x ts >>= (λ p. Some (k p.0, p.1))))
      → Heard model sure q t b c → Heard model sure f (k t) b c
  unfolding on_call
  heard_as k step h = record { on = on_call (λ x p. Some (k p.0, p.1)) step h.on; onward = h.onward }

  -- q is called, and what is read after what it read, where that is known to be what q read
  unfoldable pub on_call_read : {A B : Type 0} {f : Reader A} {q : Reader B} {g : Reader A} {t : B} {b c : Buffer S}
      (k : Scope → B × List TokenAndSpan → Out A) → ((x : Scope) (ts : List TokenAndSpan) → f x ts ≡ (q x ts >>= k x)) →
      On model sure q (give t) b c → ((x : Scope) (ts us : List TokenAndSpan) → q x ts ≡ Some (t, us)
      → (y : Scope) (ys : List TokenAndSpan) → k y (t, ys) ≡ g y ys) → On model sure f g b c
  unfolding on_call
  on_call_read {b = b} {c = c} k step o same =
      let on = on_call k step o in
      record {
        leads = o.leads;
        clean = λ l s ys fut. on.clean l s ys fut ∙ same _ _ _ (o.clean l s ys fut) (scope model c) ys;
        faulty = on.faulty;
      }

  -- the same, where that is all
  pub heard_call_read : {A B : Type 0} {f : Reader A} {q : Reader B} {t : B} {u : A} {b c : Buffer S}
      (k : Scope → B × List TokenAndSpan → Out A) → ((x : Scope) (ts : List TokenAndSpan) → f x ts ≡ (q x ts >>= k x)) →
      ((x : Scope) (ts us : List TokenAndSpan) → q x ts ≡ Some (t, us) → (y : Scope) (ys : List TokenAndSpan)
      → k y (t, ys) ≡ Some (u, ys)) → Heard model sure q t b c → Heard model sure f u b c
  unfolding on_call_read
  heard_call_read {u = u} k step ends h = record { on = on_call_read {g = give u} k step h.on ends; onward = h.onward }

  -- what was read, and what is read after it, is another thing, where the first is known to be what q read
  pub heard_more_read : {A B : Type 0} {f : Reader A} {q : Reader B} {t : B} {u v : A} {b c d : Buffer S}
      (k : Scope → B × List TokenAndSpan → Out A) → ((x : Scope) (ts : List TokenAndSpan) → f x ts ≡ (q x ts >>= k x)) →
      Heard model sure q t b c → On model sure (λ x ts. k x (t, ts)) (give u) c d
      → ((x : Scope) (ts us : List TokenAndSpan) → q x ts ≡ Some (t, us) → u ≡ v) → Heard model sure f v b d
  unfolding on_then leads_then on_call heard_more heard_then
  heard_more_read {b = b} {c = c} {d = d} k step h o same =
      let m = more_recorded h.on.leads in
      let n = more_recorded o.leads in
      let laws = h.on.leads.laws in
      let all = heard_more k step h o in
      record {
        on = record {
          leads = all.on.leads;
          clean = λ l s ys fut.
              let s1 : recorded model c ≡ recorded model b = omega arith in
              let read = h.on.clean l s1 (o.leads.taken ++ ys)
              (Future-before laws c d o.leads.taken ys o.leads.read.took fut) in
              all.on.clean l s ys fut ∙ ap (λ w. Some (w, ys)) (same _ _ _ read);
          faulty = all.on.faulty;
        };
        onward = all.onward;
      }
