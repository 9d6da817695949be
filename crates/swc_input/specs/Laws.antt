-- How calls of a buffer follow one another, and what may come after them.
use Rattle.std.specs.Prelude.{◌≡◌, ◌≢◌, true, List, [], ◌∷◌, ◌++◌, Option, Some, None, IsSome}
use Rattle.std.proofs.Common.{refl, ap, sym, ◌∙◌, append_assoc, arith, subst}
use Rattle.std.proofs.{lemmas.List.append-nil, lemmas.List.Elements.All-append, lemmas.List.Elements.All-nil}
use Rattle.swc_context.specs.declared.error.Error.{Error}
use Rattle.swc_input.specs.Source.{Model, Laws, Keeps, IsFault, given_one}
use Rattle.swc_input.specs.Buffer.{held, Took, Read, Lives, Served, Looked, Future, Known}
use Rattle.swc_input.specs.Recording.{Recorded, Refused, error_token}
use Rattle.swc_input.specs.{declared.buffer.Buffer.Buffer, declared.token.TokenAndSpan.TokenAndSpan, Plain.plain}

pub keeps_same : (es fs : List Error) → fs ≡ es → Keeps es fs
keeps_same es fs h = record { more = []; added = h ∙ sym (append-nil es); faults = All-nil IsFault }

pub Keeps-then : (es fs gs : List Error) → Keeps es fs → Keeps fs gs → Keeps es gs
Keeps-then es fs gs h k = record {
  more = h.more ++ k.more;
  added = k.added ∙ ap (λ l. l ++ k.more) h.added ∙ append_assoc es h.more k.more;
  faults = All-append IsFault h.more k.more h.faults k.faults;
}

-- held at b and then given are xs and then held at c; held at c and then given are ys and then held at d
balance-then : {A : Type 0} (b g xs c h ys d : List A) → b ++ g ≡ xs ++ c → c ++ h ≡ ys ++ d
    → b ++ (g ++ h) ≡ (xs ++ ys) ++ d
balance-then b g xs c h ys d p q =
    sym (append_assoc b g h) ∙ ap (λ l. l ++ h) p ∙ append_assoc xs c h ∙ ap (λ l. xs ++ l) q ∙ sym
    (append_assoc xs ys d)

rest_nil : {A : Type 0} (xs ys : List A) → xs ++ ys ≡ [] → ys ≡ []
rest_nil [] ys h = h
rest_nil (x ∷ xs) ys h = cc

pub held_some : {S : Type 0} (b : Buffer S) → IsSome b.cur → held b ≢ []
held_some b some h = one_held b.cur (given_one b.next) h some
  where
    one_held : (o : Option TokenAndSpan) (l : List TokenAndSpan) → given_one o ++ l ≡ [] → IsSome o → ⊥
    one_held None l h some = cc
    one_held (Some t) l h some = cc

held_none : {S : Type 0} (b : Buffer S) → b.cur ≡ None → b.next ≡ None → held b ≡ []
held_none b h i = ap (λ o. given_one o ++ given_one b.next) h ∙ ap given_one i

module _ {S : Type 0} {model : Model S} (laws : Laws model) where
  -- a source that has failed gives nothing: what is held after a call was held before
  pub held-before : {b c : Buffer S} {xs : List TokenAndSpan} → Took model b xs c → (model.state b.iter).failed ≡ true
      → held c ≢ [] → held b ≢ []
  held-before {b} {c} {xs} p f some none =
      let given = ((laws.gave b.iter c.iter p.given p.gave).failed f).0 in
      some (rest_nil xs (held c) (sym p.balance ∙ ap (λ l. held b ++ l) given ∙ append-nil (held b) ∙ none))

  -- so a look that finds a token was served
  pub Looked-served : {b c : Buffer S} → Looked model b c → IsSome c.cur → Served model b c
  Looked-served {b} {c} l some = record {
    before = λ f. let g = l.lives some f in
        (g, held-before l.look.read.took g (held_some c some));
  }

  -- what is held after a look has a current token
  pub Looked-some : {b c : Buffer S} → Looked model b c → held c ≢ [] → IsSome c.cur
  Looked-some {b} {c} l some = elim c.cur as (λ o. c.cur ≡ o → IsSome o) [
    | None ↦ (λ e. absurd (some (held_none c e (l.end e).0)))
    | Some t ↦ (λ e. refl)
  ] refl

  pub Looked-lives : {b c d : Buffer S} → Looked model b c → Looked model c d → IsSome d.cur → Lives model b d
  Looked-lives {b} {c} {d} p q some f =
      let g = (Looked-served q some).before f in
      elim c.cur as (λ o. c.cur ≡ o → (model.state b.iter).failed ≡ true) [
        | None ↦ (λ e. absurd (g.1 (held_none c e (p.end e).0)))
        | Some t ↦ (λ e. p.lives (subst IsSome (sym e) refl) g.0)
      ] refl

  pub Took-then : (b c d : Buffer S) (xs ys : List TokenAndSpan) → Took model b xs c → Took model c ys d
      → Took model b (xs ++ ys) d
  Took-then b c d xs ys p q = record {
    given = p.given ++ q.given;
    gave = laws.joins b.iter c.iter d.iter p.given q.given p.gave q.gave;
    balance = balance-then (held b) p.given xs (held c) q.given ys (held d) p.balance q.balance;
  }

  pub Read-then : (b c d : Buffer S) (xs ys : List TokenAndSpan) → Read model b xs c → Read model c ys d
      → Read model b (xs ++ ys) d
  Read-then b c d xs ys p q = record {
    took = Took-then b c d xs ys p.took q.took;
    context = q.context ∙ p.context;
    errors = Keeps-then (model.state b.iter).errors (model.state c.iter).errors
        (model.state d.iter).errors p.errors q.errors;
    waiting = Keeps-then (model.state b.iter).waiting (model.state c.iter).waiting
        (model.state d.iter).waiting p.waiting q.waiting;
    lower = let l = p.lower in let m = q.lower in omega arith;
  }

  -- a call that consumed nothing, after one that consumed xs, and before it
  pub Read-still : (b c d : Buffer S) (xs : List TokenAndSpan) → Read model b xs c → Read model c [] d
      → Read model b xs d
  Read-still b c d xs p q = let P : List TokenAndSpan → Type 0 = λ l. Read model b l d in
      subst P (append-nil xs) (Read-then b c d xs [] p q)

  pub Read-late : (b c d : Buffer S) (xs : List TokenAndSpan) → Read model b [] c → Read model c xs d
      → Read model b xs d
  Read-late b c d xs p q = Read-then b c d [] xs p q

  -- no call consumed nothing
  pub Read-same : (b : Buffer S) → Read model b [] b
  Read-same b = record {
    took = record { given = []; gave = laws.none b.iter; balance = append-nil (held b) };
    context = refl;
    errors = keeps_same _ _ refl;
    waiting = keeps_same _ _ refl;
    lower = omega arith;
  }

  -- with a fault that was recorded, and with a refusal, the tokens of some list were consumed: an error token, or none
  pub Recorded-read : (b c : Buffer S) (e : Error) → Recorded model b e c → (xs : List TokenAndSpan) × Read model b xs c
  Recorded-read b c e r = (
    error_token r.here.cur,
    Read-late b r.here c
        (error_token r.here.cur) r.looked.look.read r.read,
  )

  pub Refused-read : (b c : Buffer S) (e : Buffer S → Error) (f : Error) → Refused model b e f c
      → (xs : List TokenAndSpan) × Read model b xs c
  Refused-read b c e f r = (
    error_token r.here.cur,
    Read-late b r.here c
        (error_token r.here.cur) r.looked.look.read r.read,
  )

  -- what may come after a call may, after what the call consumed, come before it
  pub Future-before : (b c : Buffer S) (xs rest : List TokenAndSpan) → Took model b xs c → Future model c rest
      → Future model b (xs ++ rest)
  Future-before b c xs rest p f = let g = laws.gave b.iter c.iter p.given p.gave in record {
    more = p.given ++ f.more;
    begins = ap (λ l. xs ++ l) f.begins ∙ sym (append_assoc xs (held c) f.more) ∙ ap (λ l. l ++ f.more)
        (sym p.balance) ∙ append_assoc (held b) p.given f.more;
    over = λ e. ap (λ l. l ++ f.more) (g.ended e) ∙ f.over (g.stays e);
    known = λ m h. let k = g.known m h in ap (λ l. p.given ++ l) (f.known k.0 k.1) ∙ sym k.2;
  }

  -- over a listed source, what is still to come before a call is what the call consumed and what is still to come after
  -- it
  pub Known-after : (b c : Buffer S) (xs rest : List TokenAndSpan) →
      Took model b xs c → Known model b rest → (r : List TokenAndSpan) × (Known model c r) × (rest ≡ xs ++ r)
  Known-after b c xs rest p f = let g = laws.gave b.iter c.iter p.given p.gave in let k = g.known f.more f.known in (
    held c ++ k.0,
    record { more = k.0; begins = refl; known = k.1 },
    f.begins ∙ ap (λ l. held b ++ l) k.2 ∙ sym (append_assoc (held b) p.given k.0) ∙ ap
        (λ l. l ++ k.0) p.balance ∙ append_assoc xs (held c) k.0,
  )

  -- something may come
  pub Future-some : (b : Buffer S) → (rest : List TokenAndSpan) × (Future model b rest)
  Future-some b = elim (model.state b.iter).known as (λ k. (model.state b.iter).known ≡ k
      → (rest : List TokenAndSpan) × (Future model b rest)) [
        | None ↦ (λ h. (held b ++ [], record { more = []; begins = refl; over = λ e. refl; known = λ m i. cc }))
        | Some n ↦ (λ h. (
          held b ++ n,
          record {
            more = n;
            begins = refl;
            over = λ e. (laws.lawful b.iter).over n h e;
            known = λ m i. cc;
          },
        ))
      ] refl

  -- over a listed source, what will come may
  pub Known-Future : (b : Buffer S) (rest : List TokenAndSpan) → Known model b rest → Future model b rest
  Known-Future b rest k = record {
    more = k.more;
    begins = k.begins;
    over = λ e. (laws.lawful b.iter).over k.more k.known e;
    known = λ m h. cc;
  }

module _ {S : Type 0} (model : Model S) where
  -- what may come begins with the current token
  pub Future-current : (b : Buffer S) (t : TokenAndSpan) (rest : List TokenAndSpan) → b.cur ≡ Some t
      → Future model b rest → (r : List TokenAndSpan) × (rest ≡ plain t ∷ r)
  Future-current b t rest h f = (
    given_one b.next ++ f.more,
    f.begins ∙ ap (λ o. (given_one o ++ given_one b.next) ++ f.more) h,
  )

  -- at the end nothing may come
  pub Future-end : (b : Buffer S) (rest : List TokenAndSpan) → b.cur ≡ None → b.next ≡ None
      → (model.state b.iter).ended ≡ true → Future model b rest → rest ≡ []
  Future-end b rest h i e f = f.begins ∙ ap (λ o. (given_one o ++ given_one b.next) ++ f.more) h ∙ ap
      (λ o. given_one o ++ f.more) i ∙ f.over e
