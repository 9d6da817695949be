-- What the calls that record and refuse do to the buffer, from what they answer.
use Rattle.std.proofs.Common.{◌≡◌, ◌≢◌, ◌<◌, Bool, true, false, ◌||◌, not, List, [], ◌∷◌, ◌++◌, Option, Some, None, Result, Ok, Err, IsOk, IfErr, OnOk, IsSome, MatchResult, length, refl, sym, ap, ◌∙◌, arith, length-append}
use Rattle.std.proofs.lemmas.List.{append-nil}
use Rattle.swc_context.specs.declared.error.SyntaxError.TheVariants.{Eof, OutOfMemory, ParserFailed}
use Rattle.swc_context.specs.{declared.error.Error.Error, declared.span.BytePos.BytePos}
use Rattle.swc_input.specs.Buffer.{Lives, Looked, Read, Served, context, current, last_position, source}
use Rattle.swc_input.specs.Calls.{Checks, Forgoes, Refuses, Unfit, recorded}
use Rattle.swc_input.specs.Laws.{Looked-served, Read-late, Read-same}
use Rattle.swc_input.specs.Recording.{Refused, is_fit, no_memory, refusal, unfit}
use Rattle.swc_input.specs.Source.{Laws, Model, recorded_in, with_module_error}
use Rattle.swc_input.specs.{declared.buffer.Buffer.Buffer, declared.token.TokenAndSpan.TokenAndSpan}
use Rattle.swc_input.proofs.Refusals.{Refused-kind, unfit-kind}

-- a refusal other than out of memory is made where a token is current, or at the end
refused_at : (o : Option TokenAndSpan) (failed : Bool) (at : BytePos) (e r : Error) → r ≡ refusal o failed at e
    → r.kind ≢ OutOfMemory → failed ≡ true → IsSome o
refused_at None true at e r h n f = absurd (n (ap (λ x. x.kind) h))
refused_at None false at e r h n f = cc
refused_at (Some t) failed at e r h n f = refl

-- a fault of modules is recorded there, and nowhere else
module_waits : (m : Bool) (es : List Error) (e : Error) → not m ≡ true
    → length (es ++ recorded_in m (e ∷ [])) ≡ length es
module_waits true es e h = cc
module_waits false es e h = ap length (append-nil es)

module_notes : (m : Bool) (es : List Error) (e : Error) → not m ≡ false
    → length es < length (es ++ recorded_in m (e ∷ []))
module_notes true es e h = let l = length-append es (e ∷ []) in omega arith
module_notes false es e h = cc

heeded : (a b : Bool) → (a || b) ≡ false → a ≡ false
heeded true b h = cc
heeded false b h = refl

module _ {S : Type 0} {model : Model S} (laws : Laws model) where
  -- a refusal
  seen_served : {b c d : Buffer S} (e : Buffer S → Error) (r : Error) → Looked model b c → Lives model c d
      → r ≡ refusal (current c) (model.state (source c)).failed (last_position c) (e c) → r.kind ≢ OutOfMemory
      → Served model b d
  seen_served {c = c} e r looked lives answer n = record {
    before = λ f. let g = lives f in
        (Looked-served laws looked (refused_at (current c) _ (last_position c) (e c) r answer n g)).before g;
  }

  pub refused : {b c : Buffer S} (e : Buffer S → Error) (r : Error)
      → ((here : Buffer S) → (e here).kind ≢ ParserFailed) → Refused model b e r c → Refuses model b r c
  refused {b} {c} e r own h = record {
    spends = record { laws = laws; taken = _; read = Read-late laws b h.here c _ h.looked.look.read h.read };
    kind = Refused-kind model b c e r own h;
    served = λ n. seen_served e r h.looked h.lives h.answer n;
  }

  pub looked_again : {b c : Buffer S} → Looked model b c → Looked model c c
  looked_again {c = c} l = record {
    look = record { read = Read-same laws c; previous = refl; quiet = λ m h. (refl, refl) };
    same = λ t h. refl;
    lives = λ s f. f;
    end = l.end;
  }

  -- a refusal at a token that doesn't fit
  pub unfits : {b c : Buffer S} {e : Error}
      → (x : Refused model b (λ here. unfit (current here) (last_position here) Eof) e c)
      × (is_fit (current x.here) ≡ false) → Unfit model b e c
  unfits {b} {c} {e} q = let x = q.0 in record {
    at = x.here;
    looked = x.looked;
    end = λ n f. (x.looked.end n).1 f;
    unfit = q.1;
    refuses = record {
      spends = record { laws = laws; taken = _; read = x.read };
      kind = Refused-kind model b c (λ here. unfit (current here) (last_position here) Eof) e
          (λ here. unfit-kind (current here) (last_position here) Eof ParserFailed (λ h. cc) (λ h. cc)) x;
      served = λ n. seen_served (λ here. unfit (current here) (last_position here) Eof) e
          (looked_again x.looked) x.lives x.answer n;
    };
  }

module _ {S : Type 0} (model : Model S) where
  strict_waits : (b c : Buffer S) (e : Error) → not (context model b).module ≡ true → (i : Bool) → (i ≡ true → c ≡ b)
      → (i ≡ false → model.state c.iter ≡ with_module_error e (model.state b.iter))
      → recorded model c ≡ recorded model b
  strict_waits b c e w true silent noted = ap (recorded model) (silent refl)
  strict_waits b c e w false silent noted = ap (λ s. length s.errors) (noted refl) ∙ module_waits
      (context model b).module (model.state b.iter).errors e w

  strict_lives : (b c : Buffer S) (e : Error) (i : Bool) → (i ≡ true → c ≡ b)
      → (i ≡ false → model.state c.iter ≡ with_module_error e (model.state b.iter)) → Lives model b c
  strict_lives b c e true silent noted f = ap (λ z. (model.state z.iter).failed) (sym (silent refl)) ∙ f
  strict_lives b c e false silent noted f = ap (λ s. s.failed) (sym (noted refl)) ∙ f

  strict_notes : (b c : Buffer S) (e : Error) → model.state c.iter ≡ with_module_error e (model.state b.iter)
      → not (context model b).module ≡ false → recorded model b < recorded model c
  strict_notes b c e set n =
      let all = ap (λ s. length s.errors) set in
      let more = module_notes (context model b).module (model.state b.iter).errors e n in omega arith

  -- a fault of modules: it is recorded there, and waits elsewhere
  pub checks_strict : (laws : Laws model) (b c : Buffer S) (e : Error) → Read model b [] c
      → ((context model b).ignore_error ≡ true → c ≡ b) →
      ((context model b).ignore_error ≡ false → model.state c.iter ≡ with_module_error e (model.state b.iter))
      → Checks model (not (context model b).module) b c
  checks_strict laws b c e read silent noted = record {
    leads = record {
      laws = laws;
      taken = [];
      read = read;
      lives = strict_lives b c e (context model b).ignore_error silent noted;
    };
    passes = λ w. (refl, strict_waits b c e w (context model b).ignore_error silent noted);
    notes = λ n l. strict_notes b c e (noted (heeded _ _ l)) n;
  }

  pub strict_checked : {T : Type 0} (laws : Laws model) (b c : Buffer S) (r : Result T Error) (e : Error)
      → Read model b [] c →
      ((context model b).ignore_error ≡ true → IsOk r × (c ≡ b))
      → ((context model b).ignore_error ≡ false → OnOk r
      (model.state c.iter ≡ with_module_error e (model.state b.iter))) →
      IfErr r (λ x. (x ≡ no_memory (last_position b)) × (model.state c.iter ≡ model.state b.iter)) →
      MatchResult r (λ x. Checks model (not (context model b).module) b c) (λ x. Forgoes model b x c)
  strict_checked laws b c (Ok x) e read silent noted refused =
      checks_strict laws b c e read (λ i. (silent i).1) noted
  strict_checked laws b c (Err x) e read silent noted refused =
      record { spends = record { laws = laws; taken = []; read = read }; kind = ap (λ z. z.kind) refused.0 }
