-- Faults that are recorded in the buffer: which, and in which order.
use Rattle.std.proofs.Common.{◌≡◌, true, not, List, [], ◌∷◌, ◌++◌, Option, Some, None, Result, Ok, Err, IsOk, IsSome, OnOk, refl, ap, subst, ◌∙◌}
use Rattle.swc_context.specs.{declared.error.Error.Error}
use Rattle.swc_input.specs.Buffer.{state_of}
use Rattle.swc_input.specs.Recording.{error_here, error_in, is_fit, is_silent, is_some, Recorded}
use Rattle.swc_input.specs.Source.{Model}
use Rattle.swc_input.specs.{Kinds.at_token, Plain.plain_token, Recordings.NotesAll, Recordings.RecordsAll, declared.buffer.Buffer.Buffer, declared.token.Token.Token, declared.token.Token.Token as token, declared.token.TokenAndSpan.TokenAndSpan}
use Rattle.swc_grammar.specs.Clean.{no_error}
use Rattle.swc_input.specs.Calls.{Leads, Loud}
use Rattle.swc_steps.specs.Parsing.{seen_of}
use Rattle.swc_steps.proofs.Steps.{loud_after}

-- a current token that is no error is fit
pub fit_seen : (o : Option TokenAndSpan) → at_token no_error (seen_of o) ≡ true → is_fit o ≡ true
fit_seen None h = absurd cc
fit_seen (Some t) h = by_token t.token h
  where
    by_token : (v : Token) → no_error (plain_token v) ≡ true → not (is_some (error_in v)) ≡ true
    by_token (token.Error x) h = absurd cc
    by_token v h = refl

-- and a current token without an error is none
pub fit_here : (o : Option TokenAndSpan) → IsSome o → error_here o ≡ None → at_token no_error (seen_of o) ≡ true
fit_here None s h = cc
fit_here (Some t) s h = by_token t.token h
  where
    by_token : (v : Token) → error_in v ≡ None → no_error (plain_token v) ≡ true
    by_token (token.Error x) h = absurd cc
    by_token v h = refl

-- one after another
module _ {S : Type 0} (model : Model S) where
  records-then : (es fs : List Error) (b c d : Buffer S) → RecordsAll model es b c → RecordsAll model fs c d
      → RecordsAll model (es ++ fs) b d
  records-then [] fs b c d same h = subst (λ x. RecordsAll model fs x d) same h
  records-then (e ∷ es) fs b c d (m, r, more) h = (m, r, records-then es fs m c d more h)

  pub notes-none : (b : Buffer S) → NotesAll model [] b b
  notes-none b = record { loud = λ l. refl; silent = λ s. refl }

  pub notes-one : (b c : Buffer S) (e : Error) → (is_silent (state_of model b) ≡ true → c ≡ b)
      → (Loud model b → Recorded model b e c) → NotesAll model (e ∷ []) b c
  notes-one b c e same now = record { loud = λ l. (c, now l, refl); silent = same }

  pub emit-noted : {T : Type 0} (b c : Buffer S) (e : Error) (r : Result T Error)
      → (is_silent (state_of model b) ≡ true → IsOk r × (c ≡ b)) → (Loud model b → OnOk r (Recorded model b e c))
      → OnOk r (NotesAll model (e ∷ []) b c)
  emit-noted b c e (Ok t) silent noted = notes-one b c e (λ s. (silent s).1) noted
  emit-noted b c e (Err x) silent noted = tt

  pub notes-then : {b c d : Buffer S} {es fs : List Error} → Leads model b c → NotesAll model es b c
      → NotesAll model fs c d → NotesAll model (es ++ fs) b d
  notes-then {b} {c} {d} {es} {fs} leads h k = record {
    loud = λ l. records-then es fs b c d (h.loud l) (k.loud (loud_after leads l));
    silent = λ s.
        let was = h.silent s in k.silent (ap (λ x. is_silent (state_of model x)) was ∙ s) ∙ was;
  }
