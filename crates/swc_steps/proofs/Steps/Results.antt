-- A call that answers, or is refused: what is read in all.
use Rattle.std.proofs.Common.{◌≡◌, Bool, true, List, ◌∷◌, Option, Some, None, Result, Ok, Err, IfOk, IfErr, MatchResult, MatchOption, sym, subst}
use Rattle.swc_context.specs.{declared.error.Error.Error, declared.span.BytePos.BytePos, declared.span.Span.Span, declared.error.SyntaxError.TheVariants.OutOfMemory}
use Rattle.swc_input.specs.{declared.buffer.Buffer.Buffer, declared.token.Token.Token, declared.token.TokenAndSpan.TokenAndSpan, Plain.plain, Source.Model, Source.Laws, Buffer.Bumped, Recording.no_memory}
use Rattle.swc_grammar.specs.{Scope.Scope, Clean.Out, Words.◌>>=◌}
use Rattle.swc_steps.specs.Lists.{eaten}
use Rattle.swc_input.specs.Calls.{Leads, Tries}
use Rattle.swc_steps.specs.Parsing.{Onward, Consumes, Acts, On, Heard, Unheard, Parses, Continues}
use Rattle.swc_steps.proofs.Steps.Consumed.{Reader, give, leads_then, spent, onward_then, onward_later, refuses_later, forgoes_later, forgoes_here}
use Rattle.swc_steps.proofs.Steps.Tokens.{on_took, on_then, heard_after, heard_then, heard_first, on_answer}
use Rattle.swc_steps.proofs.{Steps.Calls.on_call, Steps.Calls.on_call_read, Steps.Refusals.unheard_after, Steps.Refusals.unheard_memory}

module _ {S : Type 0} (model : Model S) (sure : Bool) {T A : Type 0} (view : T → A) (f : Reader A) where
  pub parses_after : {g : Reader A} {b c : Buffer S} (d : Buffer S) (r : Result T Error) → On model sure f g b c
      → Parses model sure view g c r d → Parses model sure view f b r d
  parses_after d (Ok x) p h = heard_after p h
  parses_after d (Err e) p h = unheard_after p h

  pub continues_after : {g : Reader A} {b c : Buffer S} (d : Buffer S) (r : Result T Error) → On model sure f g b c
      → Continues model sure view g c r d → Continues model sure view f b r d
  continues_after d (Ok x) p h = on_then p h
  continues_after d (Err e) p h = unheard_after p h

  -- once something was consumed, what may consume nothing reads
  pub parses_then : {g : Reader A} {b c : Buffer S} (d : Buffer S) (r : Result T Error) (p : On model sure f g b c)
      → Onward model b p.leads.taken c → Continues model sure view g c r d → Parses model sure view f b r d
  parses_then d (Ok x) p s h = heard_then p s h
  parses_then d (Err e) p s h = unheard_after p h

  -- once a token was consumed
  pub parses_first : {g : Reader A} {b c : Buffer S} {k : Token} (laws : Laws model) (h : Bumped model b k c)
      → ((x : Scope) (ts : List TokenAndSpan) → f x (plain h.was ∷ ts) ≡ g x ts) → (d : Buffer S) (r : Result T Error)
      → Continues model sure view g c r d → Parses model sure view f b r d
  parses_first laws h step d (Ok x) o = heard_first laws h step o
  parses_first laws h step d (Err e) u = unheard_after (on_took laws h step) u

  -- what callers outside the productions are told
  pub consumes_of : (b c : Buffer S) (r : Result T Error) → Parses model sure view f b r c → Consumes model b r c
  consumes_of b c (Ok x) h = record { leads = h.on.leads; onward = h.onward }
  consumes_of b c (Err e) u = u.refuses

module _ {S : Type 0} (model : Model S) (sure : Bool) {T A : Type 0} (view : T → A) (f : Reader A) where
  -- what was read so far, one token at least, and what may consume nothing
  pub consumes_then : {b c d : Buffer S} (p : Leads model b c) (q : Leads model c d) → Onward model c q.taken d
      → (e : Buffer S) (r : Result T Error) → Continues model sure view f d r e → Consumes model b r e
  unfolding leads_then spent
  consumes_then p q s e (Ok x) h = record {
    leads = leads_then (leads_then p q) h.leads;
    onward =
        onward_then (onward_later (spent p) s) h.leads;
  }
  consumes_then p q s e (Err x) u = refuses_later (leads_then p q) u.refuses

  pub continues_of : (b c : Buffer S) (r : Result T Error) → Parses model sure view f b r c
      → Continues model sure view f b r c
  continues_of b c (Ok x) h = h.on
  continues_of b c (Err e) u = u

module _ {S : Type 0} (model : Model S) (sure : Bool) where
  -- a reading, whose answer is a node made in the end
  pub node_parses : {T A : Type 0} (view : T → A) {f : Reader A} {b c : Buffer S} (at : BytePos) (r : Result T Error)
      (t : A) → IfOk r (λ x. view x ≡ t) → IfErr r (λ x. x ≡ no_memory at) → Heard model sure f t b c
      → Parses model sure view f b r c
  node_parses {A = A} view {f = f} {b = b} {c = c} at (Ok x) t same fails h = let P : A → Type 0 =
      λ v. Heard model sure f v b c in subst P (sym same) h
  node_parses view {c = c} at (Err x) t same fails h =
      unheard_memory (forgoes_later h.on.leads (forgoes_here h.on.leads.laws c at x fails))

  -- the same, where perhaps nothing is read
  pub node_continues : {T A : Type 0} (view : T → A) {f : Reader A} {b c : Buffer S} (at : BytePos) (r : Result T Error)
      (t : A) → IfOk r (λ x. view x ≡ t) → IfErr r (λ x. x ≡ no_memory at) → On model sure f (give t) b c
      → Continues model sure view f b r c
  node_continues view at (Ok x) t same fails h = on_answer (sym same) h
  node_continues view {c = c} at (Err x) t same fails h =
      unheard_memory (forgoes_later h.leads (forgoes_here h.leads.laws c at x fails))

  -- q is called, and what it read is gone on from
  pub parses_call : {T A B : Type 0} (view : T → A) (f : Reader A) {q : Reader B} {t : B} {b c : Buffer S}
      (d : Buffer S) (r : Result T Error) (k : Scope → B × List TokenAndSpan → Out A)
      → ((x : Scope) (ts : List TokenAndSpan) → f x ts ≡ (q x ts >>= k x)) →
      Heard model sure q t b c → Continues model sure view (λ x ts. k x (t, ts)) c r d → Parses model sure view f b r d
  unfolding on_call
  parses_call view f d r k step h s = parses_then model sure view f d r (on_call k step h.on) h.onward s

  -- the same, where what is gone on from is known to be what q read
  pub parses_call_read : {T A B : Type 0} (view : T → A) (f : Reader A) {q : Reader B} {g : Reader A} {t : B}
      {b c : Buffer S} (d : Buffer S) (r : Result T Error) (k : Scope → B × List TokenAndSpan → Out A)
      → ((x : Scope) (ts : List TokenAndSpan) → f x ts ≡ (q x ts >>= k x)) →
      Heard model sure q t b c → ((x : Scope) (ts us : List TokenAndSpan) → q x ts ≡ Some (t, us)
      → (y : Scope) (ys : List TokenAndSpan) → k y (t, ys) ≡ g y ys) → Continues model sure view g c r d
      → Parses model sure view f b r d
  unfolding on_call on_call_read
  parses_call_read view f {g = g} d r k step h same s =
      parses_then model sure view f d r (on_call_read {g = g} k step h.on same) h.onward s

module _ {S : Type 0} (model : Model S) (sure : Bool) {T A : Type 0} (view : T → A) (f : Reader A) where
  -- what may consume nothing, and is refused only when out of memory, after a call like that
  pub tries_then : {b c : Buffer S} (d : Buffer S) (r : Result T Error) → Leads model b c
      → Continues model sure view f c r d → IfErr r (λ e. e.kind ≡ OutOfMemory) → Tries model b r d
  tries_then d (Ok x) p h memory = leads_then p h.leads
  tries_then d (Err e) p u memory = forgoes_later p (record { spends = u.refuses.spends; kind = memory })

module _ {S : Type 0} (model : Model S) where
  -- a sign that is taken where it is there, or none
  pub eats_acts : (f : Token → Bool) (b c : Buffer S) (r : Result (Option Span) Error) →
      MatchResult r
      (λ o. MatchOption o (On model true (eaten f) (λ x ts. Some (None, ts)) b c)
      (λ s. Heard model true (eaten f) (Some s) b c))
      (λ e. Unheard model true (eaten f) b e c) → Acts model b r c
  eats_acts f b c (Ok None) h = h.leads
  eats_acts f b c (Ok (Some s)) h = h.on.leads
  eats_acts f b c (Err e) h = h.refuses

module _ {S : Type 0} {model : Model S} (sure : Bool) (f : Token → Bool) where
  pub eats_none : (o : Option Span) (b c : Buffer S) → o ≡ None
      → MatchOption o (On model sure (eaten f) (λ x ts. Some (None, ts)) b c)
      (λ s. Heard model sure (eaten f) (Some s) b c) →
      On model sure (eaten f) (give None) b c
  eats_none None b c e h = h
  eats_none (Some s) b c e h = cc

  pub eats_some : (o : Option Span) (s : Span) (b c : Buffer S) → o ≡ Some s
      → MatchOption o (On model sure (eaten f) (λ x ts. Some (None, ts)) b c)
      (λ s. Heard model sure (eaten f) (Some s) b c) →
      Heard model sure (eaten f) (Some s) b c
  eats_some None s b c e h = cc
  eats_some (Some u) s b c e h =
      let same : u ≡ s = cc in
      let P : Span → Type 0 = λ v. Heard model sure (eaten f) (Some v) b c in subst P same h

  pub eats_on : (o : Option Span) (b c : Buffer S) → MatchOption o
      (On model sure (eaten f) (λ x ts. Some (None, ts)) b c) (λ s. Heard model sure (eaten f) (Some s) b c) →
      On model sure (eaten f) (give o) b c
  eats_on None b c h = h
  eats_on (Some s) b c h = h.on
