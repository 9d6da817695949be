-- The context is set, and put back.
use Rattle.std.proofs.Common.{◌≡◌, ◌<◌, Bool, true, false, List, [], ◌++◌, Result, Ok, Err, OnOk, length, refl, sym, ap, ◌∙◌, arith, append_assoc, length-append}
use Rattle.std.proofs.lemmas.List.{append-nil}
use Rattle.std.specs.{Result.is_err, declared.alloc.AllocError.AllocError}
use Rattle.swc_context.specs.{Contexts.view as deciding, declared.context.Context.Context, declared.error.Error.Error}
use Rattle.swc_input.specs.Source.{Source, Model, Laws, Keeps, with_context, recorded_in, waiting_in}
use Rattle.swc_input.specs.Buffer.{Took, Served, source, held, with_source, context}
use Rattle.swc_input.specs.Laws.{held-before, Took-then, keeps_same, Keeps-then, Future-before, Known-after}
use Rattle.swc_input.specs.{declared.buffer.Buffer.Buffer, declared.token.TokenAndSpan.TokenAndSpan}
use Rattle.swc_grammar.specs.Scope.{Scope, in_context}
use Rattle.swc_input.specs.Calls.{recorded, Loud, Spends, Leads}
use Rattle.swc_steps.specs.Parsing.{scope, Onward, Moves, On, Unheard, Parses}
use Rattle.swc_steps.proofs.Steps.Consumed.{Reader, give, moved_scope, spent}

none_recorded : (m : Bool) (ws : List Error) → (m ≡ true → ws ≡ []) → recorded_in m ws ≡ []
none_recorded true ws h = h refl
none_recorded false ws h = refl

all_waiting : (m : Bool) (ws : List Error) → (m ≡ true → ws ≡ []) → waiting_in m ws ≡ ws
all_waiting true ws h = sym (h refl)
all_waiting false ws h = refl

answered : (s t : Source) (ctx : Context) (r : Result (Unit {0}) AllocError) (e : Bool) → e ≡ is_err r → e ≡ false
    → OnOk r (t ≡ with_context ctx s) → t ≡ with_context ctx s
answered s t ctx (Ok u) e p q h = h
answered s t ctx (Err a) e p q h = let f : true ≡ false = sym p ∙ q in cc

module _ {S : Type 0} {model : Model S} where
  -- a context of the same kind of text records nothing, and sets nothing waiting
  pub moved : (laws : Laws model) (b c : Buffer S) (ctx : Context) (r : Result (Unit {0}) AllocError) (e : Bool)
      → e ≡ is_err r → e ≡ false →
      ctx.module ≡ (model.state (source b)).context.module → Took model b [] c → c ≡ with_source (source c) b →
      OnOk r (model.state (source c) ≡ with_context ctx (model.state (source b))) → Moves model b c
  moved laws b c ctx r e p q same took rest set =
      let s = answered (model.state (source b)) (model.state (source c)) ctx r e p q set in
      let waits = λ (m : ctx.module ≡ true). (laws.lawful b.iter).none_waits (sym same ∙ m) in
      record {
        laws = laws;
        took = took;
        errors = ap (λ x. x.errors) s ∙ ap (λ l. (model.state (source b)).errors ++ l)
            (none_recorded ctx.module (model.state (source b)).waiting waits) ∙ append-nil
            (model.state (source b)).errors;
        waiting = ap (λ x. x.waiting) s ∙ all_waiting ctx.module (model.state (source b)).waiting waits;
        lives = λ f. ap (λ x. x.failed) (sym s) ∙ f;
        stays = let bound = ap (λ x. x.bound) s in let held = ap (λ x. length (held x)) rest in omega arith;
      }

  moved_kept : {b c : Buffer S} → Moves model b c → Keeps (model.state b.iter).errors (model.state c.iter).errors
  moved_kept m = keeps_same _ _ m.errors

  moved_waiting : {b c : Buffer S} → Moves model b c → Keeps (model.state b.iter).waiting (model.state c.iter).waiting
  moved_waiting m = keeps_same _ _ m.waiting

  -- between two contexts, the second of which is put back
  within_spent : {b c d e : Buffer S} → Moves model b c → Spends model c d → Moves model d e
      → context model e ≡ context model b → Spends model b e
  within_spent {b} {c} {d} {e} m p n back = record {
    laws = m.laws;
    taken = p.taken ++ [];
    read = record {
      took = Took-then m.laws b c e [] (p.taken ++ []) m.took (Took-then m.laws c d e p.taken [] p.read.took n.took);
      context = back;
      errors = Keeps-then _ _ _ (moved_kept m) (Keeps-then _ _ _ p.read.errors (moved_kept n));
      waiting = Keeps-then _ _ _ (moved_waiting m) (Keeps-then _ _ _ p.read.waiting (moved_waiting n));
      lower = let a = m.stays in let l = p.read.lower in let z = n.stays in omega arith;
    };
  }

  onward_within : {b c d e : Buffer S} {xs : List TokenAndSpan} → Moves model b c → Onward model c xs d
      → Moves model d e → Onward model b (xs ++ []) e
  onward_within {xs = xs} m s n = record {
    some = let k = length-append xs [] in let l = s.some in omega arith;
    less = let a = m.stays in let l = s.less in let z = n.stays in omega arith;
  }

  pub within : {b c d e : Buffer S} → Moves model b c → Leads model c d → Moves model d e
      → context model e ≡ context model b → Leads model b e
  within m p n back =
      let s = within_spent m (spent p) n back in
      record { laws = s.laws; taken = s.taken; read = s.read; lives = λ f. m.lives (p.lives (n.lives f)) }

  within_served : {b c d e : Buffer S} → Moves model b c → Served model c d → Moves model d e → Served model b e
  within_served m s n = record {
    before = λ f. let h = s.before (n.lives f) in let g = m.lives h.0 in
        (g, held-before m.laws m.took g h.1);
  }

  -- in a context that records what the other does
  loud_within : {b c : Buffer S} → Moves model b c → (context model c).ignore_error ≡ (context model b).ignore_error
      → Loud model b → Loud model c
  loud_within {b} {c} m same l = let syntax = (m.laws.gave b.iter c.iter m.took.given m.took.gave).syntax in
      rw (same, syntax) l

module _ {S : Type 0} {model : Model S} {sure : Bool} where
  -- f reads what q reads with the context changed by w
  pub on_within : {A : Type 0} {f q : Reader A} {t : A} {b c d e : Buffer S} (w : Context → Context)
      → ((x : Context) → (w x).ignore_error ≡ x.ignore_error)
      → ((x : Scope) (ts : List TokenAndSpan) → f x ts ≡ q (in_context w x) ts) →
      Moves model b c → deciding (context model c) ≡ w (deciding (context model b)) → On model sure q (give t) c d
      → Moves model d e → context model e ≡ context model b → On model sure f (give t) b e
  unfolding within within_spent spent
  on_within {f = f} {q = q} {t = t} {b = b} {c = c} {d = d} {e = e} w quiet step m to o n back =
      let loud = λ (l : Loud model b). loud_within m (ap (λ x. x.ignore_error) to ∙ quiet
      (deciding (context model b))) l in
      let en = ap length n.errors in
      let em = ap length m.errors in
      record {
        leads = within m o.leads n back;
        clean = λ l s ys fut.
            let s1 : recorded model d ≡ recorded model c = omega arith in
            ap (λ v. f (scope model b) v) (append_assoc o.leads.taken [] ys) ∙ step (scope model b)
            (o.leads.taken ++ ys)
            ∙ ap (λ x. q x (o.leads.taken ++ ys)) (sym (moved_scope w m to)) ∙ o.clean (loud l) s1 ys
            (Future-before m.laws d e [] ys n.took fut);
        faulty = λ y l lt ts k.
            let lt1 : recorded model c < recorded model d = omega arith in
            let v = Known-after m.laws b c [] ts m.took k in
            ap (λ x. f (scope model b) x) v.2 ∙ step (scope model b) v.0 ∙ ap (λ x. q x v.0)
            (sym (moved_scope w m to)) ∙ o.faulty y (loud l) lt1 v.0 v.1;
      }

  -- what f leaves in a context that differs in flags which decide nothing, it leaves in this one
  pub on_aside : {A : Type 0} {f g : Reader A} {b c d e : Buffer S} → Moves model b c
      → deciding (context model c) ≡ deciding (context model b) → On model sure f g c d → Moves model d e
      → context model e ≡ context model b → On model sure f g b e
  unfolding within within_spent spent
  on_aside {f = f} {g = g} {b = b} {c = c} {d = d} {e = e} m to o n back =
      let loud = λ (l : Loud model b). loud_within m (ap (λ x. x.ignore_error) to) l in
      let same = ap deciding back ∙ sym to ∙ sym (ap deciding o.leads.read.context) in
      let en = ap length n.errors in
      let em = ap length m.errors in
      record {
        leads = within m o.leads n back;
        clean = λ l s ys fut.
            let s1 : recorded model d ≡ recorded model c = omega arith in
            ap (λ v. f (scope model b) v) (append_assoc o.leads.taken [] ys)
            ∙ ap (λ x. f x (o.leads.taken ++ ys)) (sym (moved_scope (λ x. x) m to))
            ∙ o.clean (loud l) s1 ys (Future-before m.laws d e [] ys n.took fut)
            ∙ ap (λ x. g x ys) (sym (moved_scope (λ x. x) n same));
        faulty = λ y l lt ts k.
            let lt1 : recorded model c < recorded model d = omega arith in
            let v = Known-after m.laws b c [] ts m.took k in
            ap (λ x. f (scope model b) x) v.2 ∙ ap (λ x. f x v.0) (sym (moved_scope (λ x. x) m to))
            ∙ o.faulty y (loud l) lt1 v.0 v.1;
      }

  unheard_within : {A : Type 0} {f q : Reader A} {b c d e : Buffer S} {x : Error} (w : Context → Context)
      → ((x : Context) → (w x).ignore_error ≡ x.ignore_error)
      → ((x : Scope) (ts : List TokenAndSpan) → f x ts ≡ q (in_context w x) ts) →
      Moves model b c → deciding (context model c) ≡ w (deciding (context model b)) → Unheard model sure q c x d
      → Moves model d e → context model e ≡ context model b → Unheard model sure f b x e
  unheard_within {f = f} {q = q} {b = b} {c = c} w quiet step m to u n back = record {
    refuses = record {
      spends = within_spent m u.refuses.spends n back;
      kind = u.refuses.kind;
      served = λ k. within_served m (u.refuses.served k) n;
    };
    none = λ z y l ts k.
        let v = Known-after m.laws b c [] ts m.took k in
        ap (λ x. f (scope model b) x) v.2 ∙ step (scope model b) v.0 ∙ ap (λ x. q x v.0)
        (sym (moved_scope w m to)) ∙ u.none z y (loud_within m
        (ap (λ x. x.ignore_error) to ∙ quiet (deciding (context model b))) l) v.0 v.1;
  }

module _ {S : Type 0} (model : Model S) (sure : Bool) {T A : Type 0} (view : T → A) (f : Reader A) where
  pub parses_within : (q : Reader A) {b c d e : Buffer S} (r : Result T Error) (w : Context → Context)
      → ((x : Context) → (w x).ignore_error ≡ x.ignore_error)
      → ((x : Scope) (ts : List TokenAndSpan) → f x ts ≡ q (in_context w x) ts) →
      Moves model b c → deciding (context model c) ≡ w (deciding (context model b)) → Parses model sure view q c r d
      → Moves model d e → context model e ≡ context model b → Parses model sure view f b r e
  unfolding on_within within within_spent spent
  parses_within q (Ok x) w quiet step m to h n back = record {
    on = on_within w quiet step m to h.on n back;
    onward =
        onward_within m h.onward n;
  }
  parses_within q (Err x) w quiet step m to u n back = unheard_within w quiet step m to u n back

  -- the same in a context that differs in flags which decide nothing
  pub parses_aside : {b c d e : Buffer S} (r : Result T Error) → Moves model b c
      → deciding (context model c) ≡ deciding (context model b)
      → Parses model sure view f c r d → Moves model d e → context model e ≡ context model b
      → Parses model sure view f b r e
  parses_aside r m to h n back = parses_within f r (λ x. x) (λ x. refl) (λ x ts. refl) m to h n back
