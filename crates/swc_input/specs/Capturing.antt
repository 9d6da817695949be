-- `Capturing` as a source, by the laws of the source within it.
use Rattle.std.specs.Prelude.{◌≡◌, Bool, true, false, List, [], ◌++◌, ◌∷◌, Option, None, map}
use Rattle.std.proofs.Common.{refl, ap, sym, ◌∙◌, append_assoc, subst}
use Rattle.std.proofs.lemmas.List.{append-nil}
use Rattle.swc_context.specs.declared.context.TokenContexts.{TokenContexts}
use Rattle.swc_input.specs.Source.{Source, Model, Hint, Laws, IsLawful, Gave, Unmoved, given_one}
use Rattle.swc_input.specs.{declared.capturing.Capturing.Capturing, declared.token.TokenAndSpan.TokenAndSpan, Kept.kept, Kept.kept_on, Plain.plain}

-- the source within; the tokens that are kept; whether a token was lost, since there was no memory to keep it
abbrev pub within : {S : Type 0} → Capturing S → S
within s = s.inner

abbrev pub tokens_kept : {S : Type 0} → Capturing S → List TokenAndSpan
tokens_kept s = s.kept.items

abbrev pub has_lost : {S : Type 0} → Capturing S → Bool
has_lost s = s.lost

-- with another stack of contexts in the source within
abbrev pub with_contexts : {S : Type 0} → (S → TokenContexts → S) → Capturing S → TokenContexts → Capturing S
with_contexts change s contexts = record s { inner = change s.inner contexts }

abbrev pub either_failed : Bool → Bool → Bool
either_failed true b = true
either_failed false b = b

-- the state, by that of the source within: it isn't listed, since it may fail at any token
abbrev pub capturing_state : Bool → Source → Source
capturing_state lost s = record s { failed = either_failed lost s.failed; known = None }

-- Between s and t the tokens xs were given, by any calls of a source. The source within gave them, and after them the
-- token that was lost, if one was. Those that were kept at s, and then xs, are kept at t.
pub record Captures {S : Type 0} (model : Model S) (s : Capturing S) (xs : List TokenAndSpan)
    (t : Capturing S) : Type 0 where
  pub unkept : Option TokenAndSpan
  pub gave : model.gives (within s) (xs ++ given_one unkept) (within t)
  pub kept : map plain (tokens_kept t) ≡ kept_on (map plain (tokens_kept s)) xs
  pub none_lost : has_lost t ≡ false → unkept ≡ None
  -- once a token was lost nothing is given any more, nor asked of the source within
  pub over : has_lost s ≡ true → (xs ≡ []) × (unkept ≡ None) × (has_lost t ≡ true)

-- a hint is handed on, and what is kept stays
pub record Passes {S : Type 0} (model : Model S) (s : Capturing S) (h : Hint) (t : Capturing S) : Type 0 where
  pub told : model.told (within s) h (within t)
  pub kept : tokens_kept t ≡ tokens_kept s
  pub lost : has_lost t ≡ has_lost s

abbrev pub capturing_model : {S : Type 0} → Model S → Model (Capturing S)
capturing_model model = record {
  state = λ s. capturing_state (has_lost s) (model.state (within s));
  gives =
      Captures model;
  told = Passes model;
}

kept_on-append : (ts xs ys : List TokenAndSpan) → kept_on ts (xs ++ ys) ≡ kept_on (kept_on ts xs) ys
kept_on-append ts [] ys = refl
kept_on-append ts (x ∷ xs) ys = kept_on-append (kept ts x) xs ys

first_empty : {A : Type 0} (xs ys : List A) → xs ++ ys ≡ [] → xs ≡ []
first_empty [] ys h = refl
first_empty (x ∷ xs) ys h = cc

module _ {S : Type 0} {model : Model S} (laws : Laws model) where
  capturing_lawful : (s : Capturing S) → IsLawful (capturing_state (has_lost s) (model.state (within s)))
  capturing_lawful s = record {
    none_waits = (laws.lawful (within s)).none_waits;
    over = λ m h e. cc;
  }

  -- a call that gave nothing and kept nothing
  pub captures_still : (s t : Capturing S) → model.gives (within s) [] (within t) → tokens_kept t ≡ tokens_kept s
      → has_lost t ≡ has_lost s → Captures model s [] t
  captures_still s t gave kept lost = record {
    unkept = None;
    gave = gave;
    kept = ap (map plain) kept;
    none_lost = λ h. refl;
    over = λ h. (refl, refl, lost ∙ h);
  }

  capturing_none : (s : Capturing S) → Captures model s [] s
  capturing_none s = captures_still s s (laws.none (within s)) refl refl

  capturing_joins : (s t u : Capturing S) (xs ys : List TokenAndSpan) → Captures model s xs t → Captures model t ys u
      → Captures model s (xs ++ ys) u
  capturing_joins s t u xs ys p q = elim (has_lost t) as (λ b. has_lost t ≡ b → Captures model s (xs ++ ys) u) [
    | false ↦ (λ e.
        let Gives : List TokenAndSpan → Type 0 = λ l. model.gives (within s) l (within t) in
        let gave = subst Gives (ap (λ o. xs ++ given_one o) (p.none_lost e) ∙ append-nil xs) p.gave in
        let Given : List TokenAndSpan → Type 0 = λ l. model.gives (within s) l (within u) in
        record {
          unkept = q.unkept;
          gave = subst Given (sym (append_assoc xs ys (given_one q.unkept)))
              (laws.joins (within s) (within t) (within u) xs (ys ++ given_one q.unkept) gave q.gave);
          kept = q.kept ∙ ap (λ l. kept_on l ys) p.kept ∙ sym (kept_on-append (map plain (tokens_kept s)) xs ys);
          none_lost = q.none_lost;
          over = λ h. let f : true ≡ false = sym (p.over h).2 ∙ e in cc;
        })
    | true ↦ (λ e.
        let o = q.over e in
        let Given : List TokenAndSpan → Type 0 = λ l. model.gives (within s) l (within u) in
        let none : ys ++ given_one q.unkept ≡ [] = ap (λ l. l ++ given_one q.unkept) o.0 ∙ ap given_one o.1 in
        let same : (xs ++ given_one p.unkept) ++ (ys ++ given_one q.unkept) ≡ (xs ++ ys) ++ given_one p.unkept =
        ap (λ l. (xs ++ given_one p.unkept) ++ l) none ∙ append-nil (xs ++ given_one p.unkept) ∙ sym
        (ap (λ l. l ++ given_one p.unkept) (ap (λ l. xs ++ l) o.0 ∙ append-nil xs)) in
        record {
          unkept = p.unkept;
          gave = subst Given same (laws.joins (within s) (within t) (within u) (xs ++ given_one p.unkept)
              (ys ++ given_one q.unkept) p.gave q.gave);
          kept = q.kept ∙ ap (λ l. kept_on l ys) p.kept ∙ sym (kept_on-append (map plain (tokens_kept s)) xs ys);
          none_lost = λ h. let f : true ≡ false = sym o.2 ∙ h in cc;
          over = λ h. let k = p.over h in (ap (λ l. l ++ ys) k.0 ∙ o.0, k.1, o.2);
        })
  ] refl

  -- after it ran out of memory, of its own or of the source within, nothing comes
  failed_gives : (s t : Capturing S) (xs : List TokenAndSpan) (b : Bool) → has_lost s ≡ b → Captures model s xs t
      → either_failed b (model.state (within s)).failed ≡ true →
      (xs ≡ []) × (either_failed (has_lost t) (model.state (within t)).failed ≡ true)
  failed_gives s t xs true e c h = let o = c.over e in
      (o.0, ap (λ b. either_failed b (model.state (within t)).failed) o.2)
  failed_gives s t xs false e c h =
      let g = (laws.gave (within s) (within t) (xs ++ given_one c.unkept) c.gave).failed h in
      (first_empty xs (given_one c.unkept) g.0, fails (has_lost t) (model.state (within t)).failed g.1)
    where
      fails : (b f : Bool) → f ≡ true → either_failed b f ≡ true
      fails true f h = refl
      fails false f h = h

  capturing_gave : (s t : Capturing S) (xs : List TokenAndSpan) → Captures model s xs t →
      Gave (capturing_state (has_lost s) (model.state (within s))) xs
      (capturing_state (has_lost t) (model.state (within t)))
  capturing_gave s t xs c = let g = laws.gave (within s) (within t) (xs ++ given_one c.unkept) c.gave in record {
    syntax = g.syntax;
    target = g.target;
    ended = λ e. first_empty xs (given_one c.unkept) (g.ended e);
    stays = g.stays;
    failed = failed_gives s t xs (has_lost s) refl c;
    known = λ m h. cc;
    unknown = λ h. refl;
  }

  pub capturing_laws : Laws (capturing_model model)
  capturing_laws = record {
    lawful = capturing_lawful;
    none = capturing_none;
    joins = capturing_joins;
    gave =
        capturing_gave;
  }

  -- a lexer's stack of contexts is no part of the state
  pub capturing_unmoved : (change : S → TokenContexts → S)
      → ((s : S) (contexts : TokenContexts) → Unmoved model s (change s contexts)) →
      (s : Capturing S) (contexts : TokenContexts) → Unmoved (capturing_model model) s (with_contexts change s contexts)
  capturing_unmoved change unmoved s contexts = let u = unmoved (within s) contexts in record {
    gave = captures_still s (with_contexts change s contexts) u.gave refl refl;
    state = ap (capturing_state (has_lost s)) u.state;
  }
