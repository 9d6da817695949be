-- Faults that are recorded one after another.
use Rattle.std.proofs.Common.{◌≡◌, ℕ, suc, ◌+◌, ◌<◌, ◌≤◌, Bool, true, false, not, List, [], ◌∷◌, ◌++◌, length, drop, get_or, Option, Some, None, refl, sym, ap, subst, ◌∙◌, append_assoc, drop-cons, add-one}
use Rattle.std.proofs.{Math.ListN.drop_of_length-le, lemmas.List.append-nil}
use Rattle.swc_context.specs.{Spans.in_order, declared.error.Error.Error, declared.error.SyntaxError.TheVariants.AssignProperty, declared.span.Span.Span}
use Rattle.swc_input.specs.Buffer.{Read, ReadSome, Lives, Known, Looked, current, state_of}
use Rattle.swc_input.specs.Laws.{Read-then, Read-late, Read-same, Known-after, Known-Future, Future-current}
use Rattle.swc_input.specs.Recording.{is_silent, is_fit, is_some, error_in, error_here, error_list, error_token, token_if, Recorded}
use Rattle.swc_input.specs.{Plain.plain_token, Source.Model, Source.Laws, declared.buffer.Buffer.Buffer, declared.token.Token.Token, declared.token.Token.Token as token, declared.token.TokenAndSpan.TokenAndSpan, Recordings.RecordsAll}
use Rattle.swc_ecma_parser.specs.Faults.{cover_faults, Appends, begins_fit}

fit_error : (t : Token) → not (is_some (error_in t)) ≡ true → error_in t ≡ None
fit_error (token.Error x) fit = absurd cc
fit_error t fit = refl

fit_plain : (t : Token) → not (is_some (error_in (plain_token t))) ≡ true → error_in t ≡ None
fit_plain (token.Error x) fit = absurd cc
fit_plain t fit = refl

fit_here : (o : Option TokenAndSpan) → is_fit o ≡ true → error_here o ≡ None
fit_here None fit = refl
fit_here (Some t) fit = fit_error t.token fit

no_token : (o : Option TokenAndSpan) → error_here o ≡ None → error_token o ≡ []
no_token None h = refl
no_token (Some t) h = ap (λ x. token_if x t) h

module _ {S : Type 0} {model : Model S} (laws : Laws model) where
  pub loud-later : {b c : Buffer S} {xs : List TokenAndSpan} → Read model b xs c → is_silent (state_of model b) ≡ false
      → is_silent (state_of model c) ≡ false
  loud-later {b} {c} r l = let syntax = (laws.gave b.iter c.iter r.took.given r.took.gave).syntax in
      rw (r.context, syntax) l

  pub appends-none : (b : Buffer S) → Appends model [] b b
  appends-none b = record { read = Read-same laws b; errors = sym (append-nil _); waiting = refl }

  -- one fault was recorded where no error token is current, and further ones after it
  module _ (b c d : Buffer S) (e : Error) (es : List Error) (r : Recorded model b e c)
      (none : error_here (current r.here) ≡ None) where
    nothing_read : Read model b [] c
    nothing_read =
        let P : List TokenAndSpan → Type 0 = λ ts. Read model b ts c in
        subst P (no_token (current r.here) none) (Read-late laws b r.here c
        (error_token (current r.here)) r.looked.look.read r.read)

    appended : (state_of model r.here).errors ≡ (state_of model b).errors
        → (state_of model r.here).waiting ≡ (state_of model b).waiting
        → Appends model es c d → Appends model (e ∷ es) b d
    appended errors waiting a = record {
      read = Read-late laws b c d [] nothing_read a.read;
      errors =
          a.errors
          ∙ ap (λ v. v ++ es) (r.errors ∙ ap (λ v. (state_of model r.here).errors ++ (error_list v ++ e ∷ [])) none
          ∙ ap (λ v. v ++ e ∷ []) errors)
          ∙ append_assoc (state_of model b).errors (e ∷ []) es;
      waiting = a.waiting ∙ r.waiting ∙ waiting;
    }

  -- where a token is current that holds no error
  looked_same : (o : Option TokenAndSpan) (b h : Buffer S) → current b ≡ o → is_fit o ≡ true → Looked model b h → h ≡ b
  looked_same None b h at fit l = absurd cc
  looked_same (Some t) b h at fit l = l.same t at

  pub appends-fit : (b c d : Buffer S) (e : Error) (es : List Error) → Recorded model b e c → is_fit (current b) ≡ true
      → Appends model es c d → Appends model (e ∷ es) b d
  appends-fit b c d e es r fit a =
      let same = looked_same (current b) b r.here refl fit r.looked in
      appended b c d e es r (ap (λ h. error_here (current h)) same ∙ fit_here (current b) fit)
      (ap (λ h. (state_of model h).errors) same) (ap (λ h. (state_of model h).waiting) same) a

  -- over a listed source whose first token to come holds no error
  fit_listed : (o : Option TokenAndSpan) (h : Buffer S) (ts : List TokenAndSpan) → current h ≡ o → Known model h ts
      → begins_fit ts ≡ true → error_here o ≡ None
  fit_listed None h ts at k fit = refl
  fit_listed (Some t) h ts at k fit =
      let first = Future-current model h t ts at (Known-Future laws h ts k) in
      fit_plain t.token (sym (ap begins_fit first.1) ∙ fit)

  known_later : {b c : Buffer S} {ts : List TokenAndSpan} → Read model b [] c → Known model b ts → Known model c ts
  known_later {b} {c} {ts} r k =
      let after = Known-after laws b c [] ts r.took k in
      let P : List TokenAndSpan → Type 0 = λ us. Known model c us in
      subst P (sym after.2) after.1

  pub appends-listed : (es : List Error) (b d : Buffer S) (ts : List TokenAndSpan) → RecordsAll model es b d
      → Known model b ts
      → begins_fit ts ≡ true → Appends model es b d
  appends-listed [] b d ts h k fit = let P : Buffer S → Type 0 = λ x. Appends model [] b x in
      subst P (sym h) (appends-none b)
  appends-listed (e ∷ es) b d ts h k fit =
      let c = h.0 in let r : Recorded model b e c = h.1 in
      let none = fit_listed (current r.here) r.here ts refl (known_later r.looked.look.read k) fit in
      let quiet = r.looked.look.quiet k.more k.known in
      appended b c d e es r none quiet.0 quiet.1
      (appends-listed es c d ts h.2 (known_later (nothing_read b c d e es r none) k) fit)

-- ---- among several faults

module _ {S : Type 0} (model : Model S) where
  -- Between b and c some of all faults were recorded: once the rest of them is, all are.
  pub record Midway (all rest : List Error) (b c : Buffer S) : Type 0 where
    pub silent : is_silent (state_of model b) ≡ true → c ≡ b
    pub loud : is_silent (state_of model b) ≡ false → is_silent (state_of model c) ≡ false
    pub read : ReadSome model b c
    pub lives : Lives model b c
    pub kept : is_fit (current b) ≡ true → current c ≡ current b
    pub recorded : is_silent (state_of model b) ≡ false → (d : Buffer S) → RecordsAll model rest c d
        → RecordsAll model all b d
    pub appends : is_silent (state_of model b) ≡ false → is_fit (current b) ≡ true → (d : Buffer S)
        → Appends model rest c d → Appends model all b d

-- of the faults at places, none is left after the last; before it that of the next place, and then the others
pub none-left : (ss : List Span) (i : ℕ) → length ss ≤ i → cover_faults (drop i ss) ≡ []
none-left ss i le = ap cover_faults (drop_of_length-le ss le)

pub more-left : (ss : List Span) (i : ℕ) (d s : Span) → i < length ss → s ≡ in_order (get_or ss i d)
    → cover_faults (drop i ss) ≡ record { span = s; kind = AssignProperty } ∷ cover_faults (drop (i + 1) ss)
more-left ss i d s lt at =
    rw add-one
    (ap cover_faults (drop-cons ss i d lt)
    ∙ ap (λ v. record { span = v; kind = AssignProperty } ∷ cover_faults (drop (suc i) ss)) (sym at))

module _ {S : Type 0} {model : Model S} (laws : Laws model) where
  -- the source didn't fail where nothing was done, nor where a fault was recorded
  living : {c d : Buffer S} {e : Error} (silent : Bool) → is_silent (state_of model c) ≡ silent
      → (is_silent (state_of model c) ≡ true → d ≡ c) → (is_silent (state_of model c) ≡ false → Recorded model c e d)
      → Lives model c d
  living {c} true is same now = let P : Buffer S → Type 0 = λ x. Lives model c x in subst P (sym (same is)) (λ f. f)
  living false is same now = (now is).lives

  pub midway-first : (es : List Error) (b : Buffer S) → Midway model es es b b
  midway-first es b = record {
    silent = λ s. refl;
    loud = λ l. l;
    read = ([], Read-same laws b);
    lives = λ f. f;
    kept = λ f. refl;
    recorded = λ l d h. h;
    appends = λ l f d a. a;
  }

  module _ {all rest : List Error} {b c : Buffer S} where
    -- one more was recorded, where anything is
    pub midway-more : {d : Buffer S} (e : Error) (left : List Error) → left ≡ e ∷ rest → Midway model all left b c
        → (is_silent (state_of model c) ≡ true → d ≡ c) → (is_silent (state_of model c) ≡ false → Recorded model c e d)
        → ReadSome model c d → (is_fit (current c) ≡ true → current d ≡ current c) → Midway model all rest b d
    midway-more {d} e left is m same now read kept = record {
      silent = λ s. let was = m.silent s in same (ap (λ x. is_silent (state_of model x)) was ∙ s) ∙ was;
      loud = λ l. loud-later laws read.1 (m.loud l);
      read = (m.read.0 ++ read.0, Read-then laws b c d m.read.0 read.0 m.read.1 read.1);
      lives = λ f. m.lives (living (is_silent (state_of model c)) refl same now f);
      kept = λ f. let was = m.kept f in kept (ap is_fit was ∙ f) ∙ was;
      recorded = λ l x h.
          let P : List Error → Type 0 = λ es. RecordsAll model es c x in
          m.recorded l x (subst P (sym is) (d, now (m.loud l), h));
      appends = λ l f x a.
          let P : List Error → Type 0 = λ es. Appends model es c x in
          m.appends l f x (subst P (sym is) (appends-fit laws c d x e rest (now (m.loud l))
          (ap is_fit (m.kept f) ∙ f) a));
    }

    -- none is left
    module _ (m : Midway model all rest b c) (none : rest ≡ []) where
      pub all-recorded : is_silent (state_of model b) ≡ false → RecordsAll model all b c
      all-recorded l =
          let P : List Error → Type 0 = λ es. RecordsAll model es c c in
          m.recorded l c (subst P (sym none) refl)

      pub all-appended : is_silent (state_of model b) ≡ false → is_fit (current b) ≡ true → Appends model all b c
      all-appended l f =
          let P : List Error → Type 0 = λ es. Appends model es c c in
          m.appends l f c (subst P (sym none) (appends-none laws c))

      pub all-listed : is_silent (state_of model b) ≡ false → (ts : List TokenAndSpan) → Known model b ts
          → begins_fit ts ≡ true
          → Appends model all b c
      all-listed l ts k fit = appends-listed laws all b c ts (all-recorded l) k fit

    -- a refusal, which is none where nothing is recorded
    pub read-on : {d : Buffer S} (m : Midway model all rest b c) (xs : List TokenAndSpan) → Read model c xs d
        → Read model b (m.read.0 ++ xs) d
    read-on {d} m xs r = Read-then laws b c d m.read.0 xs m.read.1 r
