-- A call of the hook, as a reading: what is answered is what the hook's reading gives.
use Rattle.std.proofs.Common.{◌≡◌, ◌≢◌, ◌<◌, Bool, true, false, List, [], ◌∷◌, ◌++◌, Some, None, Result, Ok, Err, length, refl, sym, ap, subst, ◌∙◌, arith, length-append}
use Rattle.std.proofs.lemmas.List.{append-nil}
use Rattle.swc_context.specs.{Contexts.view as deciding, declared.context.Context.Context, declared.error.Error.Error, declared.error.SyntaxError.TheVariants.OutOfMemory, declared.span.BytePos.BytePos}
use Rattle.swc_input.specs.Source.{Model, Laws, Keeps}
use Rattle.swc_input.specs.Buffer.{Known, context, source}
use Rattle.swc_input.specs.{declared.buffer.Buffer.Buffer, declared.token.TokenAndSpan.TokenAndSpan, Recording.no_memory}
use Rattle.swc_bodies.specs.Readings.{Reading, Hooked, Faithful}
use Rattle.swc_grammar.specs.Clean.{Out}
use Rattle.swc_input.specs.Calls.{Loud, recorded}
use Rattle.swc_steps.specs.Parsing.{by_hook, Parses}

no_more : {A : Type 0} (more : List A) → length more ≡ 0 → more ≡ []
no_more [] h = refl
no_more (x ∷ xs) h = cc

-- faults are added at the end, so none was where there are as many
pub same_faults : {es fs : List Error} → Keeps es fs → length fs ≡ length es → fs ≡ es
same_faults {es} {fs} h e =
    let a = ap length h.added in
    let l = length-append es h.more in
    let none : length h.more ≡ 0 = omega arith in
    h.added ∙ ap (λ v. es ++ v) (no_more h.more none) ∙ append-nil es

nothing : {V : Type 0} (o : Out V) → ((v : V) (rest : List TokenAndSpan) → o ≡ Some (v, rest) → ⊥) → o ≡ None
nothing None f = refl
nothing (Some p) f = absurd (f p.0 p.1 refl)

module _ {S V : Type 0} (model : Model S) (laws : Laws model) (reads : Reading V)
    (viewed : (c : Context) (ts : List TokenAndSpan) → reads c ts ≡ reads (deciding c) ts) (sure : Bool)
    {b : Buffer S} where
  -- a faithful hook that records a fault, or refuses, reads nothing
  none_faulty : (c : Buffer S) (v : V) → Faithful model reads b (Ok v) c → Loud model b
      → recorded model b < recorded model c
      → (ts : List TokenAndSpan) → Known model b ts → reads (context model b) ts ≡ None
  none_faulty c v f l lt ts k = nothing (reads (context model b) ts)
      (λ w rest e. let same = ap length (f l ts w rest k e).2 in omega (arith, lt, same))

  none_refused : (c : Buffer S) (x : Error) → Faithful model reads b (Err x) c → x.kind ≢ OutOfMemory → Loud model b
      → (ts : List TokenAndSpan) → Known model b ts → reads (context model b) ts ≡ None
  none_refused c x f n l ts k = nothing (reads (context model b) ts) (λ w rest e. n (f l ts w rest k e))

  -- where the source runs, it reads what its reading gives
  running_parses : {c : Buffer S} → (model.state (source c)).failed ≡ false → (r : Result V Error)
      → Hooked model reads b r c
      → (sure ≡ true → Faithful model reads b r c) → Parses model sure (λ v. v) (by_hook reads) b r c
  running_parses {c = c} runs (Ok v) h f = record {
    on = record {
      leads = record { laws = laws; taken = h.taken; read = h.read; lives = λ e. let n = sym e ∙ runs in cc };
      clean = λ l s ys fut. sym (viewed (context model b) (h.taken ++ ys)) ∙ h.clean l
          (same_faults h.read.errors s) ys fut;
      faulty = λ y l lt ts k. sym (viewed (context model b) ts) ∙ none_faulty c v (f y) l lt ts k;
    };
    onward = record { some = h.some; less = h.less };
  }
  running_parses {c = c} runs (Err x) h f = record {
    refuses = record {
      spends = record { laws = laws; taken = h.taken; read = h.read };
      kind = h.refused;
      served = λ n. record { before = λ e. let n = sym e ∙ runs in cc };
    };
    none = λ n y l ts k. sym (viewed (context model b) ts) ∙ none_refused c x (f y) n l ts k;
  }

  -- where it has failed, memory runs out
  failed_parses : {c : Buffer S} (at : BytePos) (r : Result V Error) → Hooked model reads b r c
      → Parses model sure (λ (v : V). v) (by_hook reads) b (Err (no_memory at)) c
  failed_parses at r h = record {
    refuses = record {
      spends = record { laws = laws; taken = h.taken; read = h.read };
      kind = λ own. cc;
      served = λ n. absurd (n refl);
    };
    none = λ n. absurd (n refl);
  }

  -- the hook answered r, and q is answered: r itself, or out of memory where the source has failed
  pub hook_parses : {c : Buffer S} (at : BytePos) (r q : Result V Error) → Hooked model reads b r c
      → (sure ≡ true → Faithful model reads b r c)
      → ((model.state (source c)).failed ≡ false → q ≡ r)
      → ((model.state (source c)).failed ≡ true → q ≡ Err (no_memory at))
      → Parses model sure (λ v. v) (by_hook reads) b q c
  hook_parses {c = c} at r q h f runs fails =
      let Read : Result V Error → Type 0 = λ x. Parses model sure (λ v. v) (by_hook reads) b x c in
      elim (model.state (source c)).failed as (λ d. (model.state (source c)).failed ≡ d → Read q) [
        | true ↦ (λ e. subst Read (sym (fails e)) (failed_parses at r h))
        | false ↦ (λ e. subst Read (sym (runs e)) (running_parses e r h f))
      ] refl
