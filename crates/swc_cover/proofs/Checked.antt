-- What checks record, by what was found.
use Rattle.std.proofs.Common.{◌≡◌, ◌≢◌, ℕ, zero, suc, ◌+◌, ◌<◌, ◌≤◌, Bool, true, false, not, ◌&&◌, ◌||◌, List, [], ◌∷◌, ◌++◌, take, length, Option, None, refl, sym, ap, subst, ◌∙◌, add-one, arith}
use Rattle.std.specs.Prelude.{IsSome, Result, Ok, Err, OnOk, IfErr}
use Rattle.swc_context.specs.{declared.error.Error.Error, declared.error.SyntaxError.TheVariants.OutOfMemory, declared.span.BytePos.BytePos, declared.span.Span.Span}
use Rattle.swc_input.specs.{Buffer.context, Recording.no_memory, Source.Model, Source.Laws, declared.buffer.Buffer.Buffer}
use Rattle.swc_cover.proofs.Quiet.{kept-clean}
use Rattle.swc_cover.specs.Faults.{Verdict, clean, Recorded}
use Rattle.swc_cover.specs.{ReservedNames.has_none, Refining.ChecksWhole, Refining.Unfitting, declared.faults.Fault.Fault}
use Rattle.swc_steps.proofs.Steps.{check_passes, checks_and, forgoes_here, forgoes_refuses, refuses_later, more_recorded, loud_after, and_false}
use Rattle.swc_steps.proofs.{Ahead.is_some_none, Steps.Consumed.leads_then}
use Rattle.swc_input.specs.Calls.{Checks, Forgoes, Leads, Loud, Refuses, recorded}

-- ---- lists that are gone through

pub none-more : {A : Type 0} (xs : List A) (i : ℕ) → i < length xs → has_none (take (i + 1) xs) ≡ false
none-more xs i lt = ap (λ v. has_none (take v xs)) (add-one i) ∙ some-first xs i lt
  where
    some-first : {A : Type 0} (xs : List A) (i : ℕ) → i < length xs → has_none (take (suc i) xs) ≡ false
    some-first [] i lt = absurd (omega (arith, lt))
    some-first (x ∷ xs) i lt = refl

pub none-all : {A : Type 0} (xs ys : List A) (i : ℕ) → xs ≡ ys → length xs ≤ i → has_none (take i xs) ≡ has_none ys
none-all xs ys i same h = taken xs i h ∙ ap has_none same
  where
    taken : {A : Type 0} (xs : List A) (i : ℕ) → length xs ≤ i → has_none (take i xs) ≡ has_none xs
    taken [] zero h = refl
    taken [] (suc i) h = refl
    taken (x ∷ xs) zero h = absurd (omega (arith, h))
    taken (x ∷ xs) (suc i) h = refl

waits-more : (m x : Bool) → ((not m || x) && not m) ≡ (not m || false)
waits-more true true = refl
waits-more true false = refl
waits-more false x = refl

some-found : (now : List Fault) (ok : Bool) → (now ≡ [] → ok ≡ true) → ok ≡ false → has_none now ≡ false
some-found [] ok f e = let h : true ≡ false = sym (f refl) ∙ e in cc
some-found (x ∷ xs) ok f e = refl

refused-unfit : {v : Verdict} {now : List Fault} {r : Option Span} (ok : Bool) → Recorded [] v now r →
    (ok ≡ true → v ≡ clean) → IsSome r → ok ≡ false
refused-unfit false x quiet some = refl
refused-unfit true x quiet some = is_some_none some (x.refused ∙ ap (λ u. u.refused) (quiet refl))

module _ {S : Type 0} {model : Model S} where
  -- one more fault was recorded
  pub faults-more : {A : Type 0} (xs : List A) (i : ℕ) {b c d : Buffer S} → i < length xs →
      Checks model (has_none (take i xs)) b c →
      Leads model c d → (Loud model c → recorded model c < recorded model d) →
      Checks model (has_none (take (i + 1) xs)) b d
  faults-more xs i {b} {c} {d} lt h p n =
      subst (λ v. Checks model v b d) (and_false (has_none (take i xs)) ∙ sym (none-more xs i lt))
      (checks_and (has_none (take i xs)) false h (record { leads = p; passes = λ w. cc; notes = λ w l. n l }))

  -- one more name that may not be bound, in a module or not
  pub names-more : {A : Type 0} (xs : List A) (i : ℕ) {b c d : Buffer S} → i < length xs →
      Checks model (not (context model b).module || has_none (take i xs)) b c →
      Checks model (not (context model c).module) c d → Checks model
      (not (context model b).module || has_none (take (i + 1) xs)) b d
  names-more xs i {b} {c} {d} lt h k =
      let m = (context model b).module in
      let same : Checks model (not m) c d = subst (λ v. Checks model (not v.module) c d) h.leads.read.context k in
      subst (λ v. Checks model v b d) (waits-more m (has_none (take i xs)) ∙ ap (λ v. not m || v)
      (sym (none-more xs i lt)))
      (checks_and (not m || has_none (take i xs)) (not m) h same)

  -- ---- by what was found

  pub found-whole : {whole ok : Bool} {b c : Buffer S} {v : Verdict} {now : List Fault} {r : Option Span} →
      Recorded [] v now r →
      (ok ≡ true → v ≡ clean) → (whole ≡ true → v ≡ clean → ok ≡ true) → (r ≡ None) × Checks model (has_none now) b c →
      ChecksWhole model whole ok b c
  found-whole {whole} {ok} {b} {c} {v} {now} {r} x quiet fit h = record {
    leads = h.1.leads;
    passes = λ e. h.1.passes (ap has_none (x.faults ∙ ap (λ u. u.faults) (quiet e)));
    notes = λ g e loud. h.1.notes (some-found now ok (λ n. fit g (kept-clean x n h.0)) e) loud;
  }

  pub found-unfit : {ok : Bool} {b c : Buffer S} {e : Error} {v : Verdict} {now : List Fault} {r : Option Span} →
      Recorded [] v now r →
      (ok ≡ true → v ≡ clean) → Refuses model b e c × (e.kind ≢ OutOfMemory → IsSome r) → Unfitting model ok b e c
  found-unfit {ok} x quiet h = record { refuses = h.0; unfit = λ n. refused-unfit ok x quiet (h.1 n) }

  pub unfit-memory : {ok : Bool} (laws : Laws model) (b : Buffer S) (at : BytePos) (e : Error) → e ≡ no_memory at →
      Unfitting model ok b e b
  unfit-memory laws b at e h = let f = forgoes_here laws b at e h in
      record { refuses = forgoes_refuses f; unfit = λ n. absurd (n f.kind) }

  -- ---- after the check: out of memory, or the names that are bound

  pub forgoes-after : {whole fit ok : Bool} {b c d : Buffer S} {e : Error} → ChecksWhole model whole fit b c →
      Forgoes model c e d → Unfitting model ok b e d
  forgoes-after h f = record { refuses = refuses_later h.leads (forgoes_refuses f); unfit = λ n. absurd (n f.kind) }

  pub whole-then : {whole : Bool} (fit names : Bool) {b c d : Buffer S} → ChecksWhole model whole fit b c →
      Checks model names c d → ChecksWhole model whole (fit && names) b d
  unfolding leads_then
  whole-then true true h k =
      let p = h.passes refl in let q = k.passes refl in
      record {
        leads = leads_then h.leads k.leads;
        passes = λ w. (ap (λ v. v ++ k.leads.taken) p.0 ∙ q.0, q.1 ∙ p.1);
        notes = λ g n. cc;
      }
  whole-then true false h k = record {
    leads = leads_then h.leads k.leads;
    passes = λ w. cc;
    notes = λ g n l. let a = k.notes refl (loud_after h.leads l) in let m = more_recorded h.leads in omega arith;
  }
  whole-then false names h k = record {
    leads = leads_then h.leads k.leads;
    passes = λ w. cc;
    notes = λ g n l. let a = h.notes g refl l in let m = more_recorded k.leads in omega arith;
  }

  -- ---- the ends of loops

  pub faults-all : {A : Type 0} (xs ys : List A) (i : ℕ) {b c : Buffer S} → xs ≡ ys → length xs ≤ i →
      Checks model (has_none (take i xs)) b c → Checks model (has_none ys) b c
  faults-all xs ys i {b} {c} same h k = subst (λ v. Checks model v b c) (none-all xs ys i same h) k

  pub names-none : (laws : Laws model) (b : Buffer S) (m : Bool) → Checks model (m || true) b b
  names-none laws b true = check_passes true laws b refl
  names-none laws b false = check_passes true laws b refl

  pub names-all : {A : Type 0} (xs ys : List A) (i : ℕ) {b c : Buffer S} → xs ≡ ys → length xs ≤ i →
      Checks model (not (context model b).module || has_none (take i xs)) b c →
      Checks model (not (context model b).module || has_none ys) b c
  names-all xs ys i {b} {c} same h k = subst (λ v. Checks model (not (context model b).module || v) b c)
      (none-all xs ys i same h) k

pub on-ok-as : {T E : Type 0} {P Q : Type 0} (r : Result T E) → (P → Q) → OnOk r P → OnOk r Q
on-ok-as (Ok t) f h = f h
on-ok-as (Err e) f h = tt

pub if_err-as : {T E : Type 0} {P Q : E → Type 0} (r : Result T E) → ((e : E) → P e → Q e) → IfErr r P → IfErr r Q
if_err-as (Ok t) f h = tt
if_err-as (Err e) f h = f e h

-- what was found of faults, of which there was none before
pub from-none : {was now : List Fault} {u v : Verdict} {r : Option Span} → was ≡ [] → u ≡ v → Recorded was u now r →
    Recorded [] v now r
from-none {was} {now} {u} {v} {r} e f x = subst (λ w. Recorded w v now r) e (subst (λ w. Recorded was w now r) f x)
