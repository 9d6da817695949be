-- What is consumed, what is kept, and what a call does to the buffer by itself.
use Rattle.std.proofs.Common.{◌≡◌, ◌≢◌, ◌≤◌, ◌<◌, List, [], ◌∷◌, ◌++◌, Option, Some, None, Result, Ok, Err, OnOk, IfErr, MatchOption, length, refl, sym, ap, subst, ◌∙◌, arith, length-append}
use Rattle.swc_context.specs.{declared.context.Context.Context, declared.context.Syntax.Syntax, declared.error.Error.Error, declared.span.BytePos.BytePos, declared.span.Span.Span, declared.error.SyntaxError.TheVariants.OutOfMemory, Contexts.view as deciding}
use Rattle.swc_input.specs.Source.{Model, Laws, Keeps}
use Rattle.swc_input.specs.Buffer.{Took, Read, Lives, Served, Bumped, to_come, current, context}
use Rattle.swc_input.specs.Laws.{held-before, Read-same, Read-then}
use Rattle.swc_input.specs.{declared.buffer.Buffer.Buffer, declared.token.Token.Token, declared.token.TokenAndSpan.TokenAndSpan, Plain.plain, Recording.no_memory}
use Rattle.swc_grammar.specs.{Scope.Scope, Scope.in_context, Clean.Out}
use Rattle.swc_input.specs.Calls.{recorded, Loud, Spends, Leads, Refuses, Forgoes, Tries}
use Rattle.swc_steps.specs.Parsing.{scope_of, scope, Onward, Advances, Moves, Consumes, Acts}

abbrev pub Reader : Type 0 → Type 0
Reader A = Scope → List TokenAndSpan → Out A

abbrev pub give : {A : Type 0} → A → Reader A
give t x ts = Some (t, ts)

-- faults are only added
kept : {es fs : List Error} → Keeps es fs → length es ≤ length fs
kept {es} {fs} h = let a = ap length h.added in let l = length-append es h.more in omega arith

place_of : (o : Option TokenAndSpan) (t : TokenAndSpan) (q p : Span) → o ≡ Some t
    → MatchOption o (p ≡ q) (λ x. p ≡ x.span) → p ≡ t.span
place_of None t q p e m = cc
place_of (Some x) t q p e m = let same : x ≡ t = cc in m ∙ ap (λ z. z.span) same

scope_is : {c d : Context} {x y : Syntax} → c ≡ d → x ≡ y → scope_of c x ≡ scope_of d y
scope_is e k = rw (e, k) refl

module _ {S : Type 0} {model : Model S} where
  -- the options of the syntax are kept, whatever was consumed
  kept_syntax : {b c : Buffer S} {xs : List TokenAndSpan} → Laws model → Took model b xs c
      → (model.state c.iter).syntax ≡ (model.state b.iter).syntax
  kept_syntax {b} {c} laws took = (laws.gave b.iter c.iter took.given took.gave).syntax

  -- the place of code is what it was, and another where the context was set
  pub read_scope : {b c : Buffer S} {xs : List TokenAndSpan} → Laws model → Read model b xs c
      → scope model c ≡ scope model b
  read_scope laws read = scope_is (ap deciding read.context) (kept_syntax laws read.took)

  pub moved_scope : {b c : Buffer S} (w : Context → Context) → Moves model b c
      → deciding (context model c) ≡ w (deciding (context model b)) → scope model c ≡ in_context w (scope model b)
  moved_scope w m to = scope_is to (kept_syntax m.laws m.took)

  -- nothing was done
  unfoldable pub here : (laws : Laws model) (b : Buffer S) → Leads model b b
  here laws b = record { laws = laws; taken = []; read = Read-same laws b; lives = λ f. f }

  unfoldable pub leads_then : {b c d : Buffer S} → Leads model b c → Leads model c d → Leads model b d
  leads_then {b} {c} {d} p q = record {
    laws = p.laws;
    taken = p.taken ++ q.taken;
    read = Read-then p.laws b c d p.taken q.taken p.read q.read;
    lives = λ f. p.lives (q.lives f);
  }

  -- what was consumed by a call that is refused
  unfoldable pub spent : {b c : Buffer S} → Leads model b c → Spends model b c
  spent p = record { laws = p.laws; taken = p.taken; read = p.read }

  pub spends_then : {b c d : Buffer S} → Spends model b c → Spends model c d → Spends model b d
  spends_then {b} {c} {d} p q = record {
    laws = p.laws;
    taken = p.taken ++ q.taken;
    read =
        Read-then p.laws b c d p.taken q.taken p.read q.read;
  }

  pub served_later : {b c d : Buffer S} → Leads model b c → Served model c d → Served model b d
  served_later p s = record {
    before = λ f. let h = s.before f in let g = p.lives h.0 in
        (g, held-before p.laws p.read.took g h.1);
  }

  pub served_lives : {b c : Buffer S} → Served model b c → Lives model b c
  served_lives s f = (s.before f).0

  -- a token was consumed
  pub took_leads : {b c : Buffer S} {k : Token} → Laws model → Bumped model b k c → Leads model b c
  took_leads laws h = record {
    laws = laws;
    taken = plain h.was ∷ [];
    read = h.read;
    lives =
        λ f. ap (λ z. (model.state z.iter).failed) (sym h.now) ∙ f;
  }

  -- a refusal other than out of memory
  unfoldable pub leads_refused : {b c : Buffer S} {e : Error} → Refuses model b e c → e.kind ≢ OutOfMemory
      → Leads model b c
  leads_refused r n = record {
    laws = r.spends.laws;
    taken = r.spends.taken;
    read = r.spends.read;
    lives =
        served_lives (r.served n);
  }

  -- tokens were consumed, and then more, or more before them; and one token was
  pub onward_then : {b c d : Buffer S} {xs : List TokenAndSpan} → Onward model b xs c → (q : Leads model c d)
      → Onward model b (xs ++ q.taken) d
  onward_then {xs = xs} s q = record {
    some = let l = length-append xs q.taken in let m = s.some in
        omega arith;
    less = let l = q.read.lower in let m = s.less in omega arith;
  }

  pub onward_later : {b c d : Buffer S} {ys : List TokenAndSpan} (p : Spends model b c) → Onward model c ys d
      → Onward model b (p.taken ++ ys) d
  onward_later {ys = ys} p s = record {
    some = let l = length-append p.taken ys in let m = s.some in
        omega arith;
    less = let l = p.read.lower in let m = s.less in omega arith;
  }

  pub onward_one : {b c : Buffer S} {k : Token} (h : Bumped model b k c) → Onward model b (plain h.was ∷ []) c
  onward_one h = record { some = omega arith; less = h.less }

  pub longer : {b c d : Buffer S} (p : Leads model b c) (q : Leads model c d) → Onward model b p.taken c
      → Onward model b (leads_then p q).taken d
  unfolding leads_then
  longer p q s = onward_then s q

  pub refuses_later : {b c d : Buffer S} {e : Error} → Leads model b c → Refuses model c e d → Refuses model b e d
  refuses_later p q = record {
    spends = spends_then (spent p) q.spends;
    kind = q.kind;
    served =
        λ n. served_later p (q.served n);
  }

  pub forgoes_later : {b c d : Buffer S} {e : Error} → Leads model b c → Forgoes model c e d → Forgoes model b e d
  forgoes_later p q = record { spends = spends_then (spent p) q.spends; kind = q.kind }

  pub forgoes_refuses : {b c : Buffer S} {e : Error} → Forgoes model b e c → Refuses model b e c
  forgoes_refuses h = record {
    spends = h.spends;
    kind = λ k. let f = sym h.kind ∙ k in
        cc;
    served = λ n. absurd (n h.kind);
  }

  -- out of memory, with nothing done
  pub forgoes_here : (laws : Laws model) (b : Buffer S) (at : BytePos) (e : Error) → e ≡ no_memory at
      → Forgoes model b e b
  forgoes_here laws b at e h = record { spends = spent (here laws b); kind = ap (λ x. x.kind) h }

  -- a refusal when out of memory is passed on
  pub forgoes_on : Laws model → (b : Buffer S) (e : Error) → e.kind ≡ OutOfMemory → Forgoes model b e b
  forgoes_on laws b e h = record { spends = spent (here laws b); kind = h }

  pub less : {b c : Buffer S} → Leads model b c → to_come model c ≤ to_come model b
  less p = p.read.lower

  pub lower : {b c : Buffer S} → Advances model b c → to_come model c < to_come model b
  lower p = p.onward.less

  pub more_recorded : {b c : Buffer S} → Leads model b c → recorded model b ≤ recorded model c
  more_recorded p = kept p.read.errors

  pub loud_spent : {b c : Buffer S} → Spends model b c → Loud model b → Loud model c
  loud_spent {b} {c} p l =
      let syntax = (p.laws.gave b.iter c.iter p.read.took.given p.read.took.gave).syntax in
      rw (p.read.context, syntax) l

  pub loud_after : {b c : Buffer S} → Leads model b c → Loud model b → Loud model c
  loud_after p l = loud_spent (spent p) l

  pub same_leads : {b c : Buffer S} → Laws model → c ≡ b → Leads model b c
  same_leads {b = b} laws e = let P : Buffer S → Type 0 = λ v. Leads model b v in subst P (sym e) (here laws b)

  -- the place of the current token, and of the one consumed last
  pub place_was : {b c : Buffer S} {k : Token} (h : Bumped model b k c) (p : Span)
      → MatchOption (current b) (p ≡ b.prev_span) (λ t. p ≡ t.span) → p ≡ h.was.span
  place_was {b} h p m = place_of b.cur h.was b.prev_span p h.current m

  pub last_was : {b c : Buffer S} {k : Token} (h : Bumped model b k c) → c.prev_span ≡ h.was.span
  last_was h = ap (λ z. z.prev_span) h.now

  -- what was consumed, and a call that may consume nothing
  pub acts_later : {T : Type 0} {b c : Buffer S} (d : Buffer S) (r : Result T Error) → Leads model b c
      → Acts model c r d → Acts model b r d
  acts_later d (Ok x) p h = leads_then p h
  acts_later d (Err e) p u = refuses_later p u

module _ {S : Type 0} (model : Model S) where
  -- a node is made in the end
  pub tries_node : {T : Type 0} (b c : Buffer S) (at : BytePos) (r : Result T Error) → Leads model b c
      → IfErr r (λ x. x ≡ no_memory at) → Tries model b r c
  tries_node b c at (Ok x) p fails = p
  tries_node b c at (Err x) p fails = forgoes_later p (forgoes_here p.laws c at x fails)

  -- after what was read, a call that is refused only when out of memory
  pub acts_after : {T : Type 0} {b c : Buffer S} (d : Buffer S) (r : Result T Error) → Leads model b c
      → Tries model c r d → Acts model b r d
  acts_after d (Ok x) p t = leads_then p t
  acts_after d (Err e) p t = refuses_later p (forgoes_refuses t)

module _ {S : Type 0} (model : Model S) where
  -- after a look, a call that records, and lowers the bound
  pub notes_after : {T : Type 0} {b c : Buffer S} (d : Buffer S) (r : Result T Error) → Leads model b c
      → (Loud model c → OnOk r (recorded model c < recorded model d)) → Loud model b
      → OnOk r (recorded model b < recorded model d)
  notes_after d (Ok x) p lt l = let m = more_recorded p in let k = lt (loud_after p l) in omega arith
  notes_after d (Err e) p lt l = tt

  pub falls_after : {T : Type 0} {b c : Buffer S} (d : Buffer S) (r : Result T Error) → Leads model b c
      → OnOk r (to_come model d ≤ to_come model c) → OnOk r (to_come model d ≤ to_come model b)
  falls_after d (Ok x) p le = let l = less p in omega arith
  falls_after d (Err e) p le = tt

  pub consumes_falls : {T : Type 0} (b c : Buffer S) (r : Result T Error) → Consumes model b r c
      → OnOk r (to_come model c ≤ to_come model b)
  consumes_falls b c (Ok x) h = less h.leads
  consumes_falls b c (Err e) h = tt
