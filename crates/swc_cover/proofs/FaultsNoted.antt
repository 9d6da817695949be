-- Which faults a check records, one after another, and what it refuses then.
use Rattle.std.proofs.Common.{◌≡◌, ℕ, ◌+◌, ◌<◌, ◌≤◌, Bool, true, false, not, List, [], ◌∷◌, ◌++◌, length, take, map, get_or, None, Option, Result, Ok, Err, refl, sym, ap, subst, ◌∙◌}
use Rattle.std.proofs.lemmas.List.{map-append, take_all, take_more}
use Rattle.std.specs.Prelude.{if◌then◌else◌, OnOk}
use Rattle.swc_context.specs.{Spans.in_order, declared.context.Context.Context, declared.error.Error.Error, declared.error.SyntaxError.SyntaxError, declared.span.Span.Span}
use Rattle.swc_input.specs.Buffer.{context, source, state_of, with_source}
use Rattle.swc_input.specs.Source.{Model, Source, with_module_error}
use Rattle.swc_input.specs.{Recording.Refused, Recordings.NotesAll, declared.buffer.Buffer.Buffer}
use Rattle.swc_ast.specs.Tree.{Trees}
use Rattle.swc_cover.specs.Noting.{errors_of, kind_is, name_error, names_bound, with_module_errors, JudgesBy, refusal_of, NotesParams, NotesStrict}
use Rattle.swc_cover.specs.{Faults.Recorded as Found, Faults.Verdict, ReservedNames.all_reserved, declared.faults.Fault.Fault}

-- ---- the faults up to a place in a list

pub errors-more : (fs : List Fault) (i : ℕ) (d : Fault) (s : Span) (k : SyntaxError) → i < length fs
    → s ≡ in_order (get_or fs i d).span → k ≡ kind_is (get_or fs i d).kind
    → errors_of (take (i + 1) fs) ≡ errors_of (take i fs) ++ record { span = s; kind = k } ∷ []
errors-more fs i d s k lt at is =
    rw (at, is) (ap errors_of (take_more fs i d lt) ∙ map-append _ (take i fs) (get_or fs i d ∷ []))

pub errors-all : (fs gs : List Fault) (i : ℕ) → fs ≡ gs → length fs ≤ i → errors_of (take i fs) ≡ errors_of gs
errors-all fs gs i same le = ap errors_of (take_all i fs le ∙ same)

pub names-more : (ss : List Span) (i : ℕ) (d : Span) → i < length ss
    → map name_error (take (i + 1) ss) ≡ map name_error (take i ss) ++ name_error (get_or ss i d) ∷ []
names-more ss i d lt = ap (map name_error) (take_more ss i d lt) ∙ map-append name_error (take i ss)
    (get_or ss i d ∷ [])

pub names-all : (ss us : List Span) (i : ℕ) → ss ≡ us → length ss ≤ i → map name_error (take i ss) ≡ map name_error us
names-all ss us i same le = ap (map name_error) (take_all i ss le ∙ same)

-- ---- faults of strict code

one-later : (es : List Error) (e : Error) (s : Source)
    → with_module_errors (es ++ e ∷ []) s ≡ with_module_error e (with_module_errors es s)
one-later [] e s = refl
one-later (x ∷ es) e s = one-later es e (with_module_error x s)

module _ {S : Type 0} {model : Model S} where
  pub none-strict : (b : Buffer S) → NotesStrict model [] b b
  none-strict b = record { heeded = λ h. refl; ignored = λ i. refl; rest = refl }

  pub strict-more : {es : List Error} {b c d : Buffer S} (e : Error) → context model c ≡ context model b
      → NotesStrict model es b c → ((context model c).ignore_error ≡ true → d ≡ c)
      → ((context model c).ignore_error ≡ false → state_of model d ≡ with_module_error e (state_of model c))
      → d ≡ with_source (source d) c → NotesStrict model (es ++ e ∷ []) b d
  strict-more {es} {b} {c} {d} e place m same now over = record {
    heeded = λ h.
        now (ap (λ k. k.ignore_error) place ∙ h) ∙ ap (λ s. with_module_error e s) (m.heeded h)
        ∙ sym (one-later es e (state_of model b));
    ignored = λ i. same (ap (λ k. k.ignore_error) place ∙ i) ∙ m.ignored i;
    rest = over ∙ ap (λ x. with_source (source d) x) m.rest;
  }

module _ {S : Type 0} (model : Model S) where
  pub strict-as : {T : Type 0} (b c : Buffer S) {es fs : List Error} (r : Result T Error) → es ≡ fs
      → OnOk r (NotesStrict model es b c) → OnOk r (NotesStrict model fs b c)
  strict-as b c (Ok t) same h = subst (λ v. NotesStrict model v b c) same h
  strict-as b c (Err e) same h = tt

module _ {F C K : Type 0} where
  pub none-bound : (c : Context) (ps : Trees F C K) → not c.strict ≡ true → names_bound c ps ≡ []
  none-bound c ps h = by_flag c.strict h
    where
      by_flag : (b : Bool) → not b ≡ true → (if b then map name_error (all_reserved ps) else []) ≡ []
      by_flag true h = cc
      by_flag false h = refl

  pub all-bound : (c : Context) (ps : Trees F C K) → not c.strict ≡ false → {ss : List Span} → ss ≡ all_reserved ps
      → map name_error ss ≡ names_bound c ps
  all-bound c ps h found = ap (map name_error) found ∙ by_flag c.strict h
    where
      by_flag : (b : Bool) → not b ≡ false
          → map name_error (all_reserved ps) ≡ (if b then map name_error (all_reserved ps) else [])
      by_flag true h = refl
      by_flag false h = cc

module _ {S : Type 0} {model : Model S} where
  -- the place of a refusal, with its ends in order
  pub refused-at : {b c : Buffer S} {e : Error} (s at : Span) (k : SyntaxError) → at ≡ in_order s
      → Refused model b (λ here. record { span = at; kind = k }) e c
      → Refused model b (λ here. record { span = in_order s; kind = k }) e c
  refused-at {b} {c} {e} s at k is h =
      subst (λ (v : Span). Refused model b (λ here. record { span = v; kind = k }) e c) is h

-- ---- by what was found

module _ {S : Type 0} (model : Model S) where
  pub found-judged : {T : Type 0} {v : Verdict} {now : List Fault} {o : Option Span} (b c : Buffer S)
      (r : Result T Error) → Found [] v now o → JudgesBy model (record { faults = now; refused = o }) b r c
      → JudgesBy model v b r c
  found-judged {v = v} {now} {o} b c r x h =
      let found : Verdict = record { faults = now; refused = o } in
      let same : found ≡ v = rw (x.faults, x.refused) refl in
      subst (λ w. JudgesBy model w b r c) same h

  -- and then of the names that parameters bind
  pub judged-params : {v : Verdict} {names : List Error} {b c d : Buffer S}
      → (refusal_of v.refused ≡ None) × NotesAll model (errors_of v.faults) b c → NotesStrict model names c d
      → NotesParams model v names b d
  judged-params {c = c} h k = record { none = h.0; noted = c; notes = h.1; strict = k }
