-- What a check records and refuses, exactly: whether it finds something wrong.
use Rattle.std.proofs.Common.{◌≡◌, Bool, true, false, ◌&&◌, List, [], ◌∷◌, Option, Some, None, IsSome, refl, sym, ap, subst, ◌∙◌}
use Rattle.std.specs.Prelude.{is_none}
use Rattle.swc_context.specs.declared.span.Span.{Span}
use Rattle.swc_input.specs.{Buffer.context, declared.token.TokenAndSpan.TokenAndSpan, Kinds.at_token, Source.Model, declared.buffer.Buffer.Buffer}
use Rattle.swc_ast.specs.{Tree.Tree, Tree.Trees, Trees.is_valid, Trees.are_valid}
use Rattle.swc_grammar.specs.Clean.{no_error}
use Rattle.swc_cover.proofs.{Quiet.params-quiet, Quiet.quiet-params, Typed.quiet-as, Typed.fits-quietly}
use Rattle.swc_cover.specs.Faults.{Verdict, Recorded, clean, params_verdict}
use Rattle.swc_cover.specs.{Clear.is_clear, Fits.Binding, Fits.elems_fit, ReservedNames.has_none, ReservedNames.names_ok, PatTypes.fits_as, PatTypes.verdict_as, declared.faults.Fault.Fault, declared.pat_type.PatType.PatType}
use Rattle.swc_input.specs.Calls.{Checks}
use Rattle.swc_steps.specs.Parsing.{seen_of}
use Rattle.swc_steps.proofs.Steps.{checks_and, and_false}

and-true : (a : Bool) → (a && true) ≡ a
and-true true = refl
and-true false = refl

none-of : {A : Type 0} (o : Option A) → IsSome o → is_none o ≡ false
none-of None h = absurd cc
none-of (Some a) h = refl

all-none : {A : Type 0} (xs : List A) → has_none xs ≡ true → xs ≡ []
all-none [] h = refl
all-none (x ∷ xs) h = absurd cc

is-none : {A : Type 0} (o : Option A) → is_none o ≡ true → o ≡ None
is-none None h = refl
is-none (Some a) h = absurd cc

both : (a b : Bool) → (a && b) ≡ true → (a ≡ true) × (b ≡ true)
both true true h = (refl, refl)
both true false h = absurd cc
both false b h = absurd cc

pub clear-clean : (v : Verdict) → is_clear v ≡ true → v ≡ clean
clear-clean v h =
    let (f, r) = both (has_none v.faults) (is_none v.refused) h in
    rw (all-none v.faults f, is-none v.refused r) refl

module _ {S : Type 0} {model : Model S} {b c : Buffer S} where
  pub found-clear : {v : Verdict} {now : List Fault} {r : Option Span} → Recorded [] v now r
      → (r ≡ None) × Checks model (has_none now) b c → Checks model (is_clear v) b c
  found-clear {v} x h =
      subst (λ k. Checks model k b c)
      (ap has_none x.faults ∙ sym (and-true (has_none v.faults))
      ∙ ap (λ o. has_none v.faults && is_none o) (sym h.0 ∙ x.refused)) h.1

-- the current token stays, if it is no fault of the text
pub stays-then : (o p q : Option TokenAndSpan) → (at_token no_error (seen_of o) ≡ true → p ≡ o)
    → (at_token no_error (seen_of p) ≡ true → q ≡ p) → at_token no_error (seen_of o) ≡ true → q ≡ o
stays-then o p q h k n = let e = h n in k (ap (λ v. at_token no_error (seen_of v)) e ∙ n) ∙ e

-- items, and then the names that they bind
pub params-then : {S : Type 0} {model : Model S} {F C K : Type 0} {ok : Bool} {b c d : Buffer S}
    (ps : Trees F C K) → Checks model ok b c → Checks model (names_ok (context model c) ps) c d
    → Checks model (ok && names_ok (context model b) ps) b d
params-then {model = model} {ok = ok} {b} {c} {d} ps h k =
    checks_and ok (names_ok (context model b) ps) h
    (subst (λ v. Checks model (names_ok v ps) c d) h.leads.read.context k)

pub found-unclear : {v : Verdict} {now : List Fault} {r : Option Span} → Recorded [] v now r → IsSome r
    → is_clear v ≡ false
found-unclear {v} x h =
    ap (λ k. has_none v.faults && k) (none-of v.refused (subst IsSome x.refused h)) ∙ and_false (has_none v.faults)

by-both : (a b : Bool) → (a ≡ true → b ≡ true) → (b ≡ true → a ≡ true) → a ≡ b
by-both true b h k = sym (h refl)
by-both false true h k = k refl
by-both false false h k = refl

-- of a tree without a place where something was expected and not found, that is whether it is such a pattern; and of
-- items, whether they are parameters
module _ {F C K : Type 0} where
  pub clear-fits : (strict : Bool) (p : PatType) (t : Tree F C K) → is_valid t ≡ true
      → is_clear (verdict_as strict p t) ≡ fits_as strict p t
  clear-fits strict p t valid =
      by-both _ _ (λ h. fits-quietly strict p t valid (clear-clean (verdict_as strict p t) h))
      (λ k. ap is_clear (quiet-as strict p t k))

  pub clear-items : (comma : Option Span) (ts : Trees F C K) → are_valid ts ≡ true
      → is_clear (params_verdict comma ts) ≡ elems_fit Binding comma ts
  clear-items comma ts valid =
      by-both _ _ (λ h. quiet-params comma ts valid (clear-clean (params_verdict comma ts) h))
      (λ k. ap is_clear (params-quiet comma ts k))
