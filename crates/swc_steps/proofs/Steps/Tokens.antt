-- What is read where a token was looked at or consumed, and one step after another.
use Rattle.std.proofs.Common.{◌≡◌, ◌<◌, Bool, List, [], ◌∷◌, ◌++◌, Some, None, IsSome, length, refl, sym, ap, subst, ◌∙◌, ⊎_elim, arith, append_assoc}
use Rattle.std.proofs.lemmas.Bool.{cases_lt}
use Rattle.swc_input.specs.Buffer.{Looked, Bumped, current}
use Rattle.swc_input.specs.Laws.{Read-then, Future-before, Known-after, Known-Future}
use Rattle.swc_input.specs.{declared.buffer.Buffer.Buffer, declared.token.Token.Token, declared.token.TokenAndSpan.TokenAndSpan, Plain.plain, Source.Model, Source.Laws}
use Rattle.swc_grammar.specs.{Scope.Scope, Clean.first}
use Rattle.swc_input.specs.Calls.{recorded, Leads, Here}
use Rattle.swc_steps.specs.Parsing.{seen, seen_of, scope, Onward, On, Heard, Told}
use Rattle.swc_steps.proofs.Steps.Consumed.{Reader, give, read_scope, here, leads_then, spent, served_lives, took_leads, onward_then, onward_later, onward_one, more_recorded, loud_after}
use Rattle.swc_steps.proofs.Steps.Looks.{begins}

module _ {S : Type 0} {model : Model S} {sure : Bool} where
  pub on_here : {A : Type 0} {f g : Reader A} (laws : Laws model) (b : Buffer S)
      → ((x : Scope) (ts : List TokenAndSpan) → f x ts ≡ g x ts) → On model sure f g b b
  unfolding here
  on_here laws b step = record {
    leads = here laws b;
    clean = λ l s ys f. step (scope model b) ys;
    faulty =
        λ y l lt ts k. absurd (omega (arith, lt));
  }

  pub on_by : {A : Type 0} {f g h : Reader A} {b c : Buffer S}
      → ((x : Scope) (ts : List TokenAndSpan) → f x ts ≡ g x ts) → On model sure g h b c → On model sure f h b c
  on_by {b = b} step o = record {
    leads = o.leads;
    clean = λ l s ys f. step (scope model b) (o.leads.taken ++ ys) ∙ o.clean l s ys f;
    faulty = λ y l lt ts k. step (scope model b) ts ∙ o.faulty y l lt ts k;
  }

  -- a look: f is g where the list to come begins with what is seen
  pub on_seen : {A : Type 0} {f g : Reader A} {b c : Buffer S} → Here model b c
      → ((x : Scope) (ts : List TokenAndSpan) → x ≡ scope model c → first ts ≡ seen c → f x ts ≡ g x ts)
      → On model sure f g b c
  on_seen {g = g} {b = b} {c = c} h step = record {
    leads = record { laws = h.laws; taken = []; read = h.looked.look.read; lives = served_lives h.served };
    clean = λ l s ys f. step (scope model b) ys (sym (read_scope h.laws h.looked.look.read))
        (begins c.cur refl h ys f) ∙ ap (λ x. g x ys) (sym (read_scope h.laws h.looked.look.read));
    faulty = λ y l lt ts k. let e = ap length (h.looked.look.quiet k.more k.known).0 in absurd (omega (arith, lt, e));
  }

  -- a look, and one ahead by which is told whether the tokens to come pass the test
  pub on_told : {A : Type 0} {f g : Reader A} {V : Type 0} {test : List TokenAndSpan → V} {v : V} {a b c : Buffer S}
      → Here model a b → Told model test v b c → ((x : Scope) (ts : List TokenAndSpan) → x ≡ scope model c
      → first ts ≡ seen c → test ts ≡ v → f x ts ≡ g x ts) → On model sure f g a c
  on_told {g = g} {a = a} {b = b} {c = c} h t step =
      let look = h.looked.look in
      let same = read_scope t.laws t.still.read ∙ read_scope h.laws look.read in
      record {
        leads = record {
          laws = h.laws;
          taken = [];
          read = Read-then h.laws a b c [] [] look.read t.still.read;
          lives =
              λ f. served_lives h.served (t.lives f);
        };
        clean = λ l s ys fut.
            let at = begins b.cur refl h ys (Future-before h.laws b c [] ys t.still.read.took fut) ∙ ap seen_of
            (sym t.current) in
            step (scope model a) ys (sym same) at (t.told ys fut at) ∙ ap (λ x. g x ys) (sym same);
        faulty = λ y l lt ts k.
            let w = Known-after h.laws a b [] ts look.read.took k in
            let e1 = ap length (look.quiet k.more k.known).0 in
            let e2 = ap length (t.still.quiet w.1.more w.1.known).0 in
            absurd (omega (arith, lt, e1, e2));
      }

  -- a token was consumed
  pub on_took : {A : Type 0} {f g : Reader A} {b c : Buffer S} {t : Token}
      → (laws : Laws model) (h : Bumped model b t c) → ((x : Scope) (ts : List TokenAndSpan)
      → f x (plain h.was ∷ ts) ≡ g x ts) → On model sure f g b c
  on_took {g = g} {b = b} {c = c} laws h step = record {
    leads = record { laws = laws; taken = plain h.was ∷ []; read = h.read; lives = (took_leads laws h).lives };
    clean = λ l s ys f. step (scope model b) ys ∙ ap (λ x. g x ys) (sym (read_scope laws h.read));
    faulty = λ y l lt ts k. let e = ap (λ z. recorded model z) h.now in absurd (omega (arith, lt, e));
  }

  -- one after another
  unfoldable pub on_then : {A : Type 0} {f g h : Reader A} {b c d : Buffer S} → On model sure f g b c
      → On model sure g h c d → On model sure f h b d
  unfolding leads_then
  on_then {f = f} {g = g} {h = h} {b = b} {c = c} {d = d} p q =
      let m = more_recorded p.leads in
      let n = more_recorded q.leads in
      let laws = p.leads.laws in
      record {
        leads = leads_then p.leads q.leads;
        clean = λ l s ys fut.
            let s1 : recorded model c ≡ recorded model b = omega arith in
            let s2 : recorded model d ≡ recorded model c = omega arith in
            ap (λ v. f (scope model b) v) (append_assoc p.leads.taken q.leads.taken ys)
            ∙ p.clean l s1 (q.leads.taken ++ ys) (Future-before laws c d q.leads.taken ys q.leads.read.took fut)
            ∙ q.clean (loud_after p.leads l) s2 ys fut;
        faulty = λ y l lt ts k. ⊎_elim
            (λ lt1. p.faulty y l lt1 ts k)
            (λ ge.
            let s1 : recorded model c ≡ recorded model b = omega arith in
            let lt2 : recorded model c < recorded model d = omega arith in
            let w = Known-after laws b c p.leads.taken ts p.leads.read.took k in
            ap (λ v. f (scope model b) v) w.2 ∙ p.clean l s1 w.0 (Known-Future laws c w.0 w.1) ∙ q.faulty y
            (loud_after p.leads l) lt2 w.0 w.1)
            (cases_lt (recorded model b) (recorded model c));
      }

  -- a look that finds a token
  pub on_looked : {A : Type 0} {f : Reader A} {b c : Buffer S} → Laws model → Looked model b c → IsSome (current c)
      → On model sure f f b c
  on_looked {f = f} {b = b} laws h some = record {
    leads = record { laws = laws; taken = []; read = h.look.read; lives = h.lives some };
    clean = λ l s ys fut. ap (λ x. f x ys) (sym (read_scope laws h.look.read));
    faulty = λ y l lt ts k. let e = ap length (h.look.quiet k.more k.known).0 in absurd (omega (arith, lt, e));
  }

  -- nothing was done
  pub on_same : {A : Type 0} {f : Reader A} {b c : Buffer S} → Laws model → c ≡ b → On model sure f f b c
  on_same {f = f} {b = b} laws e = let P : Buffer S → Type 0 = λ v. On model sure f f b v in
      subst P (sym e) (on_here laws b (λ x ts. refl))

  pub heard_after : {A : Type 0} {f g : Reader A} {t : A} {b c d : Buffer S} → On model sure f g b c
      → Heard model sure g t c d → Heard model sure f t b d
  unfolding on_then leads_then spent
  heard_after p h = record { on = on_then p h.on; onward = onward_later (spent p.leads) h.onward }

  unfoldable pub heard_then : {A : Type 0} {f g : Reader A} {t : A} {b c d : Buffer S} (p : On model sure f g b c)
      → Onward model b p.leads.taken c → On model sure g (give t) c d → Heard model sure f t b d
  unfolding on_then leads_then
  heard_then p s q = record { on = on_then p q; onward = onward_then s q.leads }

  unfoldable pub on_to : {A : Type 0} {f g h : Reader A} {b c : Buffer S} → On model sure f g b c
      → ((x : Scope) (ts : List TokenAndSpan) → g x ts ≡ h x ts) → On model sure f h b c
  on_to {c = c} o same = record {
    leads = o.leads;
    clean = λ l s ys k. o.clean l s ys k ∙ same (scope model c) ys;
    faulty = o.faulty;
  }

  -- one token is all of it
  pub heard_took : {A : Type 0} {f : Reader A} {t : A} {b c : Buffer S} {k : Token} (laws : Laws model)
      (h : Bumped model b k c) → ((x : Scope) (ts : List TokenAndSpan) → f x (plain h.was ∷ ts) ≡ Some (t, ts))
      → Heard model sure f t b c
  unfolding on_took
  heard_took {t = t} laws h step = record { on = on_took {g = give t} laws h step; onward = onward_one h }

  -- a token, and what follows it
  pub heard_first : {A : Type 0} {f g : Reader A} {t : A} {b c d : Buffer S} {k : Token} (laws : Laws model)
      (h : Bumped model b k c) → ((x : Scope) (ts : List TokenAndSpan) → f x (plain h.was ∷ ts) ≡ g x ts)
      → On model sure g (give t) c d → Heard model sure f t b d
  unfolding on_took
  heard_first laws h step o = heard_then (on_took laws h step) (onward_one h) o

  -- tokens were consumed, where nothing is read, whatever they are
  pub on_none : {A : Type 0} {f g : Reader A} {b c : Buffer S} → ((x : Scope) (ts : List TokenAndSpan) → f x ts ≡ None)
      → ((x : Scope) (ts : List TokenAndSpan) → g x ts ≡ None) → Leads model b c → On model sure f g b c
  on_none {b = b} {c = c} none never p = record {
    leads = p;
    clean = λ l s ys fut. none (scope model b) (p.taken ++ ys) ∙ sym (never (scope model c) ys);
    faulty = λ y l lt ts k. none (scope model b) ts;
  }

  pub on_answer : {A : Type 0} {f : Reader A} {t u : A} {b c : Buffer S} → t ≡ u → On model sure f (give t) b c
      → On model sure f (give u) b c
  on_answer {A = A} {f = f} {b = b} {c = c} e o = let P : A → Type 0 = λ v. On model sure f (give v) b c in subst P e o

  pub heard_answer : {A : Type 0} {f : Reader A} {t u : A} {b c : Buffer S} → t ≡ u → Heard model sure f t b c
      → Heard model sure f u b c
  heard_answer {A = A} {f = f} {b = b} {c = c} e o = let P : A → Type 0 = λ v. Heard model sure f v b c in subst P e o
