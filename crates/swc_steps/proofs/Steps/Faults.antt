-- Checks, and faults that are recorded unless all is well.
use Rattle.std.proofs.Common.{◌≡◌, ◌<◌, Bool, true, false, ◌||◌, ◌&&◌, not, List, [], ◌++◌, Some, None, Result, Ok, Err, OnOk, MatchResult, IsSome, refl, sym, ap, ◌∙◌, arith}
use Rattle.swc_context.specs.declared.error.Error.{Error}
use Rattle.swc_input.specs.Source.{Model, Laws}
use Rattle.swc_input.specs.Buffer.{Known, current}
use Rattle.swc_input.specs.{declared.buffer.Buffer.Buffer, declared.token.TokenAndSpan.TokenAndSpan, Laws.Future-before}
use Rattle.swc_grammar.specs.{Scope.Scope, Clean.Out, Clean.first, Words.◌>>=◌}
use Rattle.swc_input.specs.Calls.{recorded, Loud, Leads, Forgoes, Tries, Checks}
use Rattle.swc_steps.specs.Parsing.{seen, scope, Onward, On, Heard, Continues}
use Rattle.swc_steps.specs.Readers.{nothing}
use Rattle.swc_steps.proofs.Steps.Consumed.{Reader, give, read_scope, here, leads_then, onward_then, forgoes_later, more_recorded, loud_after}
use Rattle.swc_steps.proofs.{Steps.Looks.known_first, Steps.Tokens.heard_then, Steps.Calls.on_call}

module _ {S : Type 0} {model : Model S} {sure : Bool} where
  -- all is well, or a fault was recorded and f reads nothing
  passed : {A : Type 0} {f g : Reader A} {b c : Buffer S} (p : Leads model b c) → p.taken ≡ []
      → recorded model c ≡ recorded model b → ((ts : List TokenAndSpan) → f (scope model b) ts ≡ g (scope model b) ts)
      → On model sure f g b c
  passed {f = f} {g = g} {b = b} p none same step = record {
    leads = p;
    clean = λ l s ys fut. ap (λ v. f (scope model b) (v ++ ys)) none ∙ step ys ∙ ap (λ x. g x ys)
        (sym (read_scope p.laws p.read));
    faulty = λ y l lt ts k. absurd (omega (arith, lt, same));
  }

  noted : {A : Type 0} {f g : Reader A} {b c : Buffer S} → Leads model b c
      → (Loud model b → recorded model b < recorded model c) → ((ts : List TokenAndSpan) → f (scope model b) ts ≡ None)
      → On model sure f g b c
  noted {b = b} p lt none = record {
    leads = p;
    clean = λ l s ys f. let m = lt l in absurd (omega (arith, s, m));
    faulty = λ y l m ts k. none ts;
  }

  noted_seen : {A : Type 0} {f g : Reader A} {b c : Buffer S} → Leads model b c
      → (Loud model b → recorded model b < recorded model c)
      → ((ts : List TokenAndSpan) → Known model b ts → f (scope model b) ts ≡ None) → On model sure f g b c
  noted_seen {b = b} p lt none = record {
    leads = p;
    clean = λ l s ys f. let m = lt l in absurd (omega (arith, s, m));
    faulty = λ y l m ts k. none ts k;
  }

  pub on_checked_in : {A : Type 0} {f g : Reader A} {b c : Buffer S} (well : Bool) → Checks model well b c →
      ((ts : List TokenAndSpan) → well ≡ true → f (scope model b) ts ≡ g (scope model b) ts)
      → ((ts : List TokenAndSpan) → well ≡ false → f (scope model b) ts ≡ None) → On model sure f g b c
  on_checked_in true h goes fails = let p = h.passes refl in passed h.leads p.0 p.1 (λ ts. goes ts refl)
  on_checked_in false h goes fails = noted h.leads (h.notes refl) (λ ts. fails ts refl)

  pub on_checked : {A : Type 0} {f g : Reader A} {b c : Buffer S} (well : Bool) → Checks model well b c →
      ((x : Scope) (ts : List TokenAndSpan) → well ≡ true → f x ts ≡ g x ts)
      → ((x : Scope) (ts : List TokenAndSpan) → well ≡ false → f x ts ≡ None) → On model sure f g b c
  on_checked {b = b} well h goes fails = on_checked_in well h (λ ts. goes (scope model b) ts)
      (λ ts. fails (scope model b) ts)

  pub on_nothing : {A B : Type 0} {g : Reader A} {v : B} {b c : Buffer S} → Heard model sure nothing v b c
      → On model sure nothing g b c
  on_nothing h = record {
    leads = h.on.leads;
    clean = λ l s ys fut. let e = h.on.clean l s ys fut in absurd cc;
    faulty = λ y l lt ts k. refl;
  }

  pub heard_nothing : {A B : Type 0} {u : A} {v : B} {b c d : Buffer S} → Heard model sure nothing v b c
      → Leads model c d → Heard model sure nothing u b d
  unfolding leads_then
  heard_nothing {b = b} {c = c} {d = d} h q =
      let m = more_recorded h.on.leads in
      let n = more_recorded q in
      record {
        on = record {
          leads = leads_then h.on.leads q;
          clean = λ l s ys fut.
              let s1 : recorded model c ≡ recorded model b = omega arith in
              let e = h.on.clean l s1 (q.taken ++ ys) (Future-before q.laws c d q.taken ys q.read.took fut) in
              absurd cc;
          faulty = λ y l lt ts k. refl;
        };
        onward = onward_then h.onward q;
      }

  -- a fault is recorded after what was consumed
  pub heard_noted : {A : Type 0} {u : A} {b c d : Buffer S} (p : Leads model b c) → Onward model b p.taken c
      → (q : Leads model c d) → (Loud model c → recorded model c < recorded model d) → Heard model sure nothing u b d
  unfolding leads_then noted
  heard_noted p onward q lt = record {
    on = noted (leads_then p q) (λ l. let m = more_recorded p in let k = lt (loud_after p l) in
        omega arith) (λ ts. refl);
    onward = onward_then onward q;
  }

  -- q is called, and what it read is all; but for a fault that is recorded where f reads nothing of what is seen
  pub heard_unless : {A B : Type 0} {f : Reader A} {q : Reader B} {n : B} {t : A} {b c d : Buffer S} (bad : Bool)
      (k : Scope → B × List TokenAndSpan → Out A) → ((x : Scope) (ts : List TokenAndSpan) → f x ts ≡ (q x ts >>= k x)) →
      ((x : Scope) (ts : List TokenAndSpan) → k x (n, ts) ≡ Some (t, ts)) → IsSome (current b)
      → Heard model sure q n b c → Checks model (not bad) c d →
      (bad ≡ true → (ts : List TokenAndSpan) → first ts ≡ seen b → f (scope model b) ts ≡ None)
      → Heard model sure f t b d
  unfolding leads_then on_call noted_seen
  heard_unless {t = t} {b = b} false k step ends some h checks none =
      heard_then (on_call k step h.on) h.onward (on_checked {g = give t} true checks (λ x ts w. ends x ts)
      (λ x ts w. cc))
  heard_unless {b = b} true k step ends some h checks none = record {
    on = noted_seen (leads_then h.on.leads checks.leads) (λ l. let m = more_recorded h.on.leads in
        let k = checks.notes refl (loud_after h.on.leads l) in
        omega arith) (λ ts known. none refl ts (known_first h.on.leads.laws b some ts known));
    onward = onward_then h.onward checks.leads;
  }

module _ {S : Type 0} {model : Model S} where
  pub check_passes : (well : Bool) → Laws model → (b : Buffer S) → well ≡ true → Checks model well b b
  unfolding here
  check_passes well laws b h = record {
    leads = here laws b;
    passes = λ w. (refl, refl);
    notes =
        λ n l. let e : true ≡ false = sym h ∙ n in cc;
  }

  pub checks_both : (p q : Bool) {b c d : Buffer S} → Checks model (not p) b c → Checks model (not q) c d
      → Checks model (not (p || q)) b d
  unfolding leads_then
  checks_both true q h k = record {
    leads = leads_then h.leads k.leads;
    passes = λ w. cc;
    notes = λ n l. let a =
        h.notes refl l in let m = more_recorded k.leads in omega arith;
  }
  checks_both false true h k = record {
    leads = leads_then h.leads k.leads;
    passes = λ w. cc;
    notes = λ n l. let a =
        k.notes refl (loud_after h.leads l) in let m = more_recorded h.leads in omega arith;
  }
  checks_both false false h k =
      let p = h.passes refl in
      let q = k.passes refl in
      record {
        leads = leads_then h.leads k.leads;
        passes = λ w. (ap (λ v. v ++ k.leads.taken) p.0 ∙ q.0, q.1 ∙ p.1);
        notes = λ n l. cc;
      }

  pub checks_and : (p q : Bool) {b c d : Buffer S} → Checks model p b c → Checks model q c d → Checks model (p && q) b d
  unfolding leads_then
  checks_and false q h k = record {
    leads = leads_then h.leads k.leads;
    passes = λ w. cc;
    notes = λ n l. let a =
        h.notes refl l in let m = more_recorded k.leads in omega arith;
  }
  checks_and true false h k = record {
    leads = leads_then h.leads k.leads;
    passes = λ w. cc;
    notes = λ n l. let a =
        k.notes refl (loud_after h.leads l) in let m = more_recorded h.leads in omega arith;
  }
  checks_and true true h k =
      let p = h.passes refl in
      let q = k.passes refl in
      record {
        leads = leads_then h.leads k.leads;
        passes = λ w. (ap (λ v. v ++ k.leads.taken) p.0 ∙ q.0, q.1 ∙ p.1);
        notes = λ n l. cc;
      }

module _ {S : Type 0} (model : Model S) (sure : Bool) {T A : Type 0} (view : T → A) (f : Reader A) where
  pub notes_then : (b : Buffer S) {c d : Buffer S} → recorded model b < recorded model c → Leads model c d
      → (e : Buffer S) (r : Result T Error) → Continues model sure view f d r e
      → OnOk r (recorded model b < recorded model e)
  notes_then b lt p e (Ok x) h = let k = more_recorded p in let m = more_recorded h.leads in omega arith
  notes_then b lt p e (Err x) u = tt

module _ {S : Type 0} (model : Model S) where
  -- a fault is recorded, as not all is well
  pub check_notes : {T : Type 0} (well : Bool) (b c : Buffer S) (r : Result T Error) → well ≡ false → Tries model b r c
      → (Loud model b → OnOk r (recorded model b < recorded model c)) →
      MatchResult r (λ x. Checks model well b c) (λ e. Forgoes model b e c)
  check_notes well b c (Ok x) h t lt = record {
    leads = t;
    passes = λ w. let e : true ≡ false = sym w ∙ h in
        cc;
    notes = λ n l. lt l;
  }
  check_notes well b c (Err e) h t lt = t

  pub check_later : {T : Type 0} (p q : Bool) (b c d : Buffer S) (r : Result T Error) → Checks model (not p) b c
      → MatchResult r (λ x. Checks model (not q) c d) (λ e. Forgoes model c e d) →
      MatchResult r (λ x. Checks model (not (p || q)) b d) (λ e. Forgoes model b e d)
  check_later p q b c d (Ok x) h k = checks_both p q h k
  check_later p q b c d (Err e) h k = forgoes_later h.leads k
