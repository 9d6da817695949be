-- Lists of faults to which a fault is added, or none; and what the calls that record and refuse ensure, from what they
-- call.
use Rattle.std.proofs.Common.{◌≡◌, Bool, true, false, not, List, [], ◌∷◌, ◌++◌, Option, Some, None, Result, Ok, Err, OnOk, IfErr, refl, ap, ◌∙◌}
use Rattle.std.proofs.{lemmas.List.append-nil, lemmas.List.Elements.All-nil, lemmas.List.Elements.All-cons}
use Rattle.swc_context.specs.{declared.error.Error.Error, declared.span.BytePos.BytePos}
use Rattle.swc_input.specs.Source.{Model, Laws, Keeps, IsFault, recorded_in, waiting_in}
use Rattle.swc_input.specs.Buffer.{Read, Lives, Looked, current, source, last_position}
use Rattle.swc_input.specs.Recording.{Recorded, Refused, no_memory, error_in, is_some, error_here, error_list, error_token, is_fit, refusal}
use Rattle.swc_input.specs.{declared.buffer.Buffer.Buffer, declared.token.Token.Token, declared.token.Token.Token as token, declared.token.TokenAndSpan.TokenAndSpan, Laws.keeps_same, Laws.Read-late}

pub keeps_one : (es fs : List Error) (e : Error) → fs ≡ es ++ e ∷ [] → IsFault e → Keeps es fs
keeps_one es fs e h fault = record { more = e ∷ []; added = h; faults = All-cons IsFault e [] fault (All-nil IsFault) }

-- a fault of modules is recorded in one, and waits elsewhere
pub keeps_recorded : (m : Bool) (es fs : List Error) (e : Error) → fs ≡ es ++ recorded_in m (e ∷ []) → IsFault e
    → Keeps es fs
keeps_recorded true es fs e h fault = keeps_one es fs e h fault
keeps_recorded false es fs e h fault = keeps_same es fs (h ∙ append-nil es)

pub keeps_waiting : (m : Bool) (es fs : List Error) (e : Error) → fs ≡ es ++ waiting_in m (e ∷ []) → IsFault e
    → Keeps es fs
keeps_waiting true es fs e h fault = keeps_same es fs (h ∙ append-nil es)
keeps_waiting false es fs e h fault = keeps_one es fs e h fault

fit_error : (t : Token) → not (is_some (error_in t)) ≡ true → error_in t ≡ None
fit_error (token.Error x) fit = absurd cc
fit_error t fit = refl

module _ {S : Type 0} (model : Model S) where
  pub recorded_by : (b h c : Buffer S) (e : Error) (r : Result (Unit {0}) Error) → Looked model b h
      → Read model h (error_token (current h)) c →
      OnOk r ((model.state (source c)).errors ≡ (model.state (source h)).errors ++
      (error_list (error_here (current h)) ++ e ∷ [])) →
      OnOk r ((model.state (source c)).waiting ≡ (model.state (source h)).waiting) → Lives model b h
      → OnOk r (Lives model h c) →
      OnOk r (Recorded model b e c)
  recorded_by b h c e (Ok u) l d p q v w = record {
    here = h;
    looked = l;
    read = d;
    errors = p;
    waiting = q;
    lives =
        λ f. v (w f);
  }
  recorded_by b h c e (Err f) l d p q v w = tt

  -- what was consumed after a look was consumed
  pub read_by : (laws : Laws model) (b h c : Buffer S) (xs : List TokenAndSpan) → Looked model b h → Read model h xs c
      → (ys : List TokenAndSpan) × Read model b ys c
  read_by laws b h c xs l d = (xs, Read-late laws b h c xs l.look.read d)

  pub no_memory_by : (b c : Buffer S) (at : BytePos) (r : Result (Unit {0}) Error)
      → (xs : List TokenAndSpan) × Read model b xs c →
      IfErr r (λ e. e ≡ no_memory at) → IfErr r (λ e. (xs : List TokenAndSpan) × Read model b xs c × (e ≡ no_memory at))
  no_memory_by b c at (Ok u) d p = tt
  no_memory_by b c at (Err f) d p = (d.0, d.1, p)

  pub refused_by : (b h c : Buffer S) (e : Buffer S → Error) (r : Error) → Looked model b h
      → Read model h (error_token (current h)) c → Lives model h c → source c ≡ source h →
      r ≡ refusal (current h) (model.state (source h)).failed (last_position h) (e h) → Refused model b e r c
  refused_by b h c e r l d v s p = record { here = h; looked = l; read = d; lives = v; same = s; answer = p }

  -- at a token that doesn't fit
  pub unfit_by : (b h c : Buffer S) (e : Buffer S → Error) (r : Error) → Looked model b h
      → Read model h (error_token (current h)) c → Lives model h c → source c ≡ source h →
      r ≡ refusal (current h) (model.state (source h)).failed (last_position h) (e h) → is_fit (current h) ≡ false →
      (x : Refused model b e r c) × (is_fit (current x.here) ≡ false)
  unfit_by b h c e r l d v s p f = (record { here = h; looked = l; read = d; lives = v; same = s; answer = p }, f)

  kept_at : (o : Option TokenAndSpan) (b h c : Buffer S) → current b ≡ o → Looked model b h
      → (error_here (current h) ≡ None → current c ≡ current h) →
      is_fit o ≡ true → current c ≡ o
  kept_at None b h c at l k fit = absurd cc
  kept_at (Some t) b h c at l k fit =
      let here : current h ≡ Some t = ap (λ x. current x) (l.same t at) ∙ at in
      k (ap (λ o. error_here o) here ∙ fit_error t.token fit) ∙ here

  -- a token that is fit stays at a look, and then wherever one without an error does
  pub kept_by : (b h c : Buffer S) → Looked model b h → (error_here (current h) ≡ None → current c ≡ current h)
      → is_fit (current b) ≡ true → current c ≡ current b
  kept_by b h c l k fit = kept_at (current b) b h c refl l k fit
