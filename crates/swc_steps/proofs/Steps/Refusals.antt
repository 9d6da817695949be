-- Refusals, and what stands in for what was refused.
use Rattle.std.proofs.Common.{◌≡◌, ◌≢◌, ◌<◌, Bool, false, List, [], None, Result, Ok, Err, OnOk, IfErr, refl, sym, ap, ◌∙◌, ⊎_elim, arith}
use Rattle.std.proofs.lemmas.Bool.{cases_lt}
use Rattle.swc_context.specs.{declared.error.Error.Error, declared.error.SyntaxError.TheVariants.OutOfMemory, declared.error.SyntaxError.TheVariants.ParserFailed}
use Rattle.swc_input.specs.{declared.buffer.Buffer.Buffer, declared.token.TokenAndSpan.TokenAndSpan, Source.Model, Source.Laws, Buffer.Looked, Laws.Known-after, Laws.Known-Future, Kinds.at_token}
use Rattle.swc_grammar.specs.{Scope.Scope, Clean.first, Clean.no_error}
use Rattle.swc_input.specs.Calls.{recorded, Loud, Spends, Leads, Refuses, Forgoes, Tries, Here, Unfit}
use Rattle.swc_steps.specs.Parsing.{seen, scope, Consumes, On, Unheard, Parses, Continues, Told}
use Rattle.swc_steps.proofs.Steps.Consumed.{Reader, read_scope, leads_then, spends_then, served_later, leads_refused, onward_later, refuses_later, forgoes_refuses, more_recorded, loud_spent, loud_after}
use Rattle.swc_steps.proofs.Steps.Looks.{looked_later, here_refused, begins, unfit_seen}
use Rattle.swc_steps.proofs.Steps.Tokens.{on_seen, on_told}

module _ {S : Type 0} {model : Model S} {sure : Bool} where
  -- f reads nothing, so whatever was recorded since
  pub on_doomed : {A : Type 0} {f g : Reader A} {b c d : Buffer S} {e : Error} → Unheard model sure f b e c
      → e.kind ≢ OutOfMemory → Leads model c d → (Loud model c → recorded model c < recorded model d)
      → On model sure f g b d
  on_doomed {b = b} u n p lt =
      let q = leads_refused u.refuses n in
      let m = more_recorded q in
      record {
        leads = leads_then q p;
        clean = λ l s ys fut. let k = lt (loud_after q l) in absurd (omega (arith, s, m, k));
        faulty = λ y l more ts k. u.none n y l ts k;
      }

  pub unheard_doomed : {A : Type 0} {f : Reader A} {b c d : Buffer S} {e x : Error} → Unheard model sure f b e c
      → (x.kind ≢ OutOfMemory → e.kind ≢ OutOfMemory) → Refuses model c x d → Unheard model sure f b x d
  unheard_doomed u n r = record {
    refuses = record {
      spends = spends_then u.refuses.spends r.spends;
      kind = r.kind;
      served = λ k. served_later (leads_refused u.refuses (n k)) (r.served k);
    };
    none = λ k y l ts z. u.none (n k) y l ts z;
  }

  pub unheard_after : {A : Type 0} {f g : Reader A} {b c d : Buffer S} {e : Error} → On model sure f g b c
      → Unheard model sure g c e d → Unheard model sure f b e d
  unheard_after {f = f} {b = b} {c = c} p u = record {
    refuses = refuses_later p.leads u.refuses;
    none = λ n y l ts k. ⊎_elim
        (λ lt. p.faulty y l lt ts k)
        (λ ge.
        let m = more_recorded p.leads in
        let s : recorded model c ≡ recorded model b = omega arith in
        let laws = p.leads.laws in
        let w = Known-after laws b c p.leads.taken ts p.leads.read.took k in
        ap (λ v. f (scope model b) v) w.2 ∙ p.clean l s w.0 (Known-Future laws c w.0 w.1) ∙ u.none n y
        (loud_after p.leads l) w.0 w.1)
        (cases_lt (recorded model b) (recorded model c));
  }

  -- a look, whatever is seen
  pub unheard_looked : {A : Type 0} {f : Reader A} {b c d : Buffer S} {e : Error} → Laws model → Looked model b c
      → Unheard model sure f c e d → Unheard model sure f b e d
  unheard_looked {f = f} {b = b} {c = c} laws l u =
      let here : Spends model b c = record { laws = laws; taken = []; read = l.look.read } in
      record {
        refuses = record {
          spends = spends_then here u.refuses.spends;
          kind = u.refuses.kind;
          served = λ n. looked_later laws l (u.refuses.served n);
        };
        none = λ n y loud ts k.
            let w = Known-after laws b c [] ts l.look.read.took k in
            ap (λ v. f (scope model b) v) w.2 ∙ ap (λ x. f x w.0) (sym (read_scope laws l.look.read)) ∙ u.none n y
            (loud_spent here loud) w.0 w.1;
      }

  -- f reads nothing of any list
  pub unheard_none : {A : Type 0} {f : Reader A} {b c : Buffer S} {e : Error}
      → ((x : Scope) (ts : List TokenAndSpan) → f x ts ≡ None) → Refuses model b e c → Unheard model sure f b e c
  unheard_none {b = b} none r = record { refuses = r; none = λ n y l ts k. none (scope model b) ts }

  -- f reads nothing of a list that begins with what is seen
  pub unheard_at : {A : Type 0} {f : Reader A} {b c d : Buffer S} {e : Error} → Here model b c
      → ((x : Scope) (ts : List TokenAndSpan) → x ≡ scope model c → first ts ≡ seen c → f x ts ≡ None)
      → Refuses model c e d → Unheard model sure f b e d
  unheard_at {A = A} {f = f} h none r = let n : Reader A = λ x ts. None in
      unheard_after (on_seen {g = n} h none) (unheard_none {f = n} (λ x ts. refl) r)

  -- the same, where it is told of the list
  pub unheard_told : {A : Type 0} {f : Reader A} {V : Type 0} {test : List TokenAndSpan → V} {v : V}
      {a b c d : Buffer S} {e : Error} → Here model a b → Told model test v b c
      → ((x : Scope) (ts : List TokenAndSpan) → x ≡ scope model c → first ts ≡ seen c → test ts ≡ v → f x ts ≡ None)
      → Refuses model c e d → Unheard model sure f a e d
  unheard_told {A = A} {f = f} h t none r = let n : Reader A = λ x ts. None in
      unheard_after (on_told {g = n} h t none) (unheard_none {f = n} (λ x ts. refl) r)

  pub unheard_memory : {A : Type 0} {f : Reader A} {b c : Buffer S} {e : Error} → Forgoes model b e c
      → Unheard model sure f b e c
  unheard_memory h = record { refuses = forgoes_refuses h; none = λ n. absurd (n h.kind) }

  -- a refusal that is made another
  pub unheard_as : {A : Type 0} {f : Reader A} {b c : Buffer S} {e : Error} (x : Error) → x.kind ≢ ParserFailed
      → (e.kind ≡ OutOfMemory → x.kind ≡ OutOfMemory) → Unheard model sure f b e c → Unheard model sure f b x c
  unheard_as {e = e} x kind memory u = record {
    refuses = record { spends = u.refuses.spends; kind = kind; served = λ n. u.refuses.served (λ m. n (memory m)) };
    none = λ n. u.none (λ m. n (memory m));
  }

  -- f reads nothing at an error token, nor at the end
  pub unheard_unfit : {A : Type 0} {f : Reader A} {b c : Buffer S} {e : Error} → Laws model
      → ((x : Scope) (ts : List TokenAndSpan) → at_token no_error (first ts) ≡ false → f x ts ≡ None)
      → Unfit model b e c → Unheard model sure f b e c
  unheard_unfit {b = b} laws step u = record {
    refuses = record {
      spends = spends_then (record { laws = laws; taken = []; read = u.looked.look.read }) u.refuses.spends;
      kind = u.refuses.kind;
      served = λ n. looked_later laws u.looked (u.refuses.served n);
    };
    none = λ n y l ts k.
        let w = Known-after laws b u.at [] ts u.looked.look.read.took k in
        let first_is = begins u.at.cur refl (here_refused u.looked u.refuses n) w.0 (Known-Future laws u.at w.0 w.1) in
        step (scope model b) ts (ap (λ v. at_token no_error (first v)) w.2 ∙ ap (at_token no_error) first_is
        ∙ unfit_seen u.at.cur u.unfit);
  }

module _ {S : Type 0} (model : Model S) (sure : Bool) {T A : Type 0} (view : T → A) (f : Reader A) where
  -- a refused operand was recorded, and something stands in for it; except when out of memory
  pub continues_recovered : {b c : Buffer S} {e : Error} (d : Buffer S) (r : Result T Error)
      → Unheard model sure f b e c → Tries model c r d →
      (Loud model c → OnOk r (recorded model c < recorded model d)) → OnOk r (e.kind ≢ OutOfMemory)
      → Continues model sure view f b r d
  continues_recovered d (Ok x) u t lt some = on_doomed u some t lt
  continues_recovered d (Err y) u t lt some = unheard_memory
      (record { spends = spends_then u.refuses.spends t.spends; kind = t.kind })

  -- a refused operand was recorded, and more was read
  pub parses_recovered : {b c : Buffer S} {e : Error} (d : Buffer S) (r : Result T Error) → Unheard model sure f b e c
      → Consumes model c r d →
      (Loud model c → OnOk r (recorded model c < recorded model d)) → OnOk r (e.kind ≢ OutOfMemory)
      → IfErr r (λ x. x.kind ≢ OutOfMemory → e.kind ≢ OutOfMemory) → Parses model sure view f b r d
  unfolding on_doomed leads_refused leads_then
  parses_recovered d (Ok x) u t lt some memory = record {
    on = on_doomed u some t.leads lt;
    onward =
        onward_later u.refuses.spends t.onward;
  }
  parses_recovered d (Err y) u t lt some memory = unheard_doomed u memory t
