-- What is taken as tokens is taken without the slashes at which regular expressions were found too, and the same is
-- kept of it.
use Rattle.std.proofs.Common.{◌≡◌, ◌≤◌, Bool, true, false, ◌&&◌, List, [], ◌∷◌, ◌++◌, Option, Some, None, refl, sym, ap, ◌∙◌}
use Rattle.std.proofs.lemmas.Bool.{eqb-true, leb-true}
use Rattle.std.specs.Prelude.{nat_eq, nat_le}
use Rattle.swc_context.specs.{declared.operator.AssignOp.AssignOp as assign, declared.operator.BinOpToken.BinOpToken as operator, declared.span.BytePos.BytePos}
use Rattle.swc_input.specs.Kept.{ends_behind, in_front, cleared, kept}
use Rattle.swc_input.specs.{declared.token.Token.Token, declared.token.Token.Token as token, declared.token.TokenAndSpan.TokenAndSpan}
use Rattle.swc_bodies.specs.Laws.{taken-end, taken-next, taken-none, read, value_or, rest_or}
use Rattle.swc_bodies.specs.Slashes.{is_slash, is_regex, agree, is_pair, is_found_at, unless_found, without_slashes, Replays, ReplayHook}
use Rattle.swc_bodies.specs.Taking.{sign_of, on_line, sign_at, after, body, taken_on, taken, function_first, class_first, block_first, token_forms}
use Rattle.swc_bodies.specs.{declared.place.Sign.Sign as sign, declared.place.Place.Place, declared.place.Place.Place as place, Body.Body, Readings.no_forms}

pub both : (a b : Bool) → (a && b) ≡ true → (a ≡ true) × (b ≡ true)
both true true h = (refl, refl)
both true false h = cc
both false b h = cc

same-pos : (a b : BytePos) → nat_eq a.0 b.0 ≡ true → a ≡ b
same-pos a b h = ap (λ n. record { 0 = n }) (eqb-true a.0 b.0 h)

-- what a pair of tokens is
pub record Pair (a b : TokenAndSpan) : Type 0 where
  pub slash : is_slash a.token ≡ true
  pub regex : is_regex b.token ≡ true
  pub start : a.span.lo ≡ b.span.lo
  pub whole : b.span.lo.0 ≤ b.span.hi.0
  pub late : ends_behind b.span.lo a ≡ true
  pub mark : a.had_line_break ≡ b.had_line_break

agreed : (a b : Bool) → agree a b ≡ true → a ≡ b
agreed true true h = refl
agreed true false h = cc
agreed false true h = cc
agreed false false h = refl

pub pair : (a b : TokenAndSpan) → is_pair a b ≡ true → Pair a b
pair a b h =
    let (x, y) = both (is_slash a.token && is_regex b.token) _ h in
    let (i, j) = both (is_slash a.token) (is_regex b.token) x in
    let (k, l) = both (nat_eq a.span.lo.0 b.span.lo.0 && nat_le b.span.lo.0 b.span.hi.0) _ y in
    let (m, n) = both (nat_eq a.span.lo.0 b.span.lo.0) (nat_le b.span.lo.0 b.span.hi.0) k in
    let (o, p) = both (ends_behind b.span.lo a) (agree a.had_line_break b.had_line_break) l in
    record {
      slash = i;
      regex = j;
      start = same-pos a.span.lo b.span.lo m;
      whole = leb-true b.span.lo.0 b.span.hi.0 n;
      late = o;
      mark = agreed a.had_line_break b.had_line_break p;
    }

no-slash : (t : Token) → is_regex t ≡ true → is_slash t ≡ false
no-slash (token.Regex exp flags) h = refl
no-slash t h = cc

no-pair : (a b : TokenAndSpan) → is_slash a.token ≡ false → is_pair a b ≡ false
no-pair a b h = rw h refl

pub no-slash-stays : (a : TokenAndSpan) (ts : List TokenAndSpan) → is_slash a.token ≡ false → is_found_at a ts ≡ false
no-slash-stays a [] h = refl
no-slash-stays a (b ∷ ts) h = no-pair a b h

-- what stays, and what is left out
pub stays : (a : TokenAndSpan) (ts : List TokenAndSpan) → is_found_at a ts ≡ false
    → without_slashes (a ∷ ts) ≡ a ∷ without_slashes ts
stays a ts h = ap (λ b. unless_found b a (without_slashes ts)) h

pub left-out : (a : TokenAndSpan) (ts : List TokenAndSpan) → is_found_at a ts ≡ true
    → without_slashes (a ∷ ts) ≡ without_slashes ts
left-out a ts h = ap (λ b. unless_found b a (without_slashes ts)) h

pub regex-stays : (a : TokenAndSpan) (ts : List TokenAndSpan) → is_regex a.token ≡ true
    → without_slashes (a ∷ ts) ≡ a ∷ without_slashes ts
regex-stays a ts h = stays a ts (no-slash-stays a ts (no-slash a.token h))

-- dropping once more changes nothing
again-front : (late : Bool) (at : BytePos) (t : TokenAndSpan) (ts : List TokenAndSpan) → ends_behind at t ≡ late
    → cleared at ts ≡ ts → cleared at (in_front late t ts) ≡ in_front late t ts
again-front true at t [] e h = refl
again-front true at t (u ∷ us) e h = ap (in_front (ends_behind at t) t) h ∙ ap (λ l. in_front l t (u ∷ us)) e
again-front false at t [] e h = ap (λ l. in_front l t []) e
again-front false at t (u ∷ us) e h = ap (in_front (ends_behind at t) t) h ∙ ap (λ l. in_front l t (u ∷ us)) e

cleared-again : (at : BytePos) (ts : List TokenAndSpan) → cleared at (cleared at ts) ≡ cleared at ts
cleared-again at [] = refl
cleared-again at (t ∷ ts) = again-front (ends_behind at t) at t (cleared at ts) refl (cleared-again at ts)

late-goes : (at : BytePos) (ts : List TokenAndSpan) (t : TokenAndSpan) → ends_behind at t ≡ true
    → cleared at (ts ++ t ∷ []) ≡ cleared at ts
late-goes at [] t h = ap (λ l. in_front l t []) h
late-goes at (x ∷ ts) t h = ap (in_front (ends_behind at x) x) (late-goes at ts t h)

-- after a slash, a regular expression found at it is kept as if the slash hadn't been there
pub kept-pair : (ks : List TokenAndSpan) (a b : TokenAndSpan) → is_pair a b ≡ true → kept (kept ks a) b ≡ kept ks b
kept-pair ks a b h =
    let p = pair a b h in
    ap (λ l. l ++ b ∷ []) (
    late-goes b.span.lo (cleared a.span.lo ks) a p.late
    ∙ ap (λ v. cleared b.span.lo (cleared v ks)) p.start
    ∙ cleared-again b.span.lo ks
    )

-- to a body, a slash or a regular expression is a token like others
slash-other : (t : Token) (b : Bool) → is_slash t ≡ true → on_line b (sign_of t) ≡ sign.Other
slash-other (token.BinOp operator.Div) true h = refl
slash-other (token.BinOp operator.Div) false h = refl
slash-other (token.AssignOp assign.DivAssign) true h = refl
slash-other (token.AssignOp assign.DivAssign) false h = refl
slash-other t b h = cc

regex-other : (t : Token) (b : Bool) → is_regex t ≡ true → on_line b (sign_of t) ≡ sign.Other
regex-other (token.Regex exp flags) true h = refl
regex-other (token.Regex exp flags) false h = refl
regex-other t b h = cc

same-place : (p q : Place) → after p sign.Other ≡ Some q → q ≡ p
same-place place.Async q h = cc
same-place (place.Head depth) q h = cc
same-place (place.Inside depth) q h = cc
same-place place.End q h = cc

module _ (from : BytePos) where
  -- from after the end nothing is taken
  at-end : (ts ks : List TokenAndSpan) (to : BytePos) (v : Body) (rest : List TokenAndSpan)
      → taken_on from ts place.End ks to ≡ Some (v, rest)
      → taken_on from (without_slashes ts) place.End ks to ≡ Some (v, without_slashes rest)
  at-end ts ks to v rest h =
      let e : read (body from ks to) ts ≡ read v rest = sym (taken-end from ts ks to) ∙ h in
      taken-end from (without_slashes ts) ks to
      ∙ ap (λ b. read b (without_slashes ts)) (ap (value_or v) e)
      ∙ ap (λ l. read v (without_slashes l)) (ap (rest_or rest) e)

  -- past a slash and the regular expression found at it
  past-pair : (t u : TokenAndSpan) (us : List TokenAndSpan) (p q : Place) (ks : List TokenAndSpan) (to : BytePos)
      → is_pair t u ≡ true → after p (sign_at t) ≡ Some q → (after p (sign_at u) ≡ Some p)
      × (taken_on from (t ∷ u ∷ us) p ks to ≡ taken_on from us p (kept ks u) u.span.hi)
  past-pair t u us p q ks to h a =
      let w = pair t u h in
      let s = slash-other t.token t.had_line_break w.slash in
      let r = regex-other u.token u.had_line_break w.regex in
      let a' : after p sign.Other ≡ Some q = sym (ap (after p) s) ∙ a in
      let same = same-place p q a' in
      let stay : after p sign.Other ≡ Some p = a' ∙ ap (λ v. Some v) same in
      let now : after p (sign_at t) ≡ Some p = ap (after p) s ∙ stay in
      let then : after p (sign_at u) ≡ Some p = ap (after p) r ∙ stay in (
        then,
        taken-next from t (u ∷ us) p p ks to now
            ∙ taken-next from u us p p (kept ks t) t.span.hi then
            ∙ ap (λ l. taken_on from us p l u.span.hi) (kept-pair ks t u h),
      )

  mutual
    taken-without : (ts : List TokenAndSpan) (p : Place) (ks : List TokenAndSpan) (to : BytePos) (v : Body)
        (rest : List TokenAndSpan) → taken_on from ts p ks to ≡ Some (v, rest)
        → taken_on from (without_slashes ts) p ks to ≡ Some (v, without_slashes rest)
    taken-without ts place.End ks to v rest h = at-end ts ks to v rest h
    taken-without [] p ks to v rest h = cc
    taken-without (t ∷ []) p ks to v rest h = elim (after p (sign_at t))
        as (λ o. after p (sign_at t) ≡ o → taken_on from (t ∷ []) p ks to ≡ Some (v, without_slashes rest)) [
          | None ↦ (λ e. let none = taken-none from (t ∷ []) p ks to refl e in cc)
          | Some q ↦ (λ e.
              let n = taken-next from t [] p q ks to e in
              n ∙ taken-without [] q (kept ks t) t.span.hi v rest (sym n ∙ h))
        ] refl
    taken-without (t ∷ u ∷ us) p ks to v rest h = elim (after p (sign_at t))
        as (λ o. after p (sign_at t) ≡ o
        → taken_on from (without_slashes (t ∷ u ∷ us)) p ks to ≡ Some (v, without_slashes rest)) [
          | None ↦ (λ e. let none = taken-none from (t ∷ u ∷ us) p ks to refl e in cc)
          | Some q ↦ (λ e. elim (is_pair t u)
              as (λ b. is_pair t u ≡ b
              → taken_on from (without_slashes (t ∷ u ∷ us)) p ks to ≡ Some (v, without_slashes rest)) [
                | true ↦ (λ k.
                    let (a, n) = past-pair t u us p q ks to k e in
                    ap (λ l. taken_on from l p ks to)
                    (left-out t (u ∷ us) k ∙ regex-stays u us (pair t u k).regex)
                    ∙ taken-next from u (without_slashes us) p p ks to a
                    ∙ taken-without us p (kept ks u) u.span.hi v rest (sym n ∙ h))
                | false ↦ (λ k.
                    let n = taken-next from t (u ∷ us) p q ks to e in
                    ap (λ l. taken_on from l p ks to) (stays t (u ∷ us) k)
                    ∙ taken-next from t (without_slashes (u ∷ us)) p q ks to e
                    ∙ taken-without (u ∷ us) q (kept ks t) t.span.hi v rest (sym n ∙ h))
              ] refl)
        ] refl

-- no body begins with a slash
abbrev Plain : (Token → Option Place) → Type 0
Plain first = (t : Token) (p : Place) → first t ≡ Some p → is_slash t ≡ false

taken-replays : (first : Token → Option Place) → Plain first → Replays (taken first)
taken-replays first plain c [] v rest h = cc
taken-replays first plain c (t ∷ ts) v rest h = elim (first t.token)
    as (λ o. first t.token ≡ o → taken first c (without_slashes (t ∷ ts)) ≡ Some (v, without_slashes rest)) [
      | None ↦ (λ e. let none = rw (e, taken) at h in cc)
      | Some p ↦ (λ e.
          let k = stays t ts (no-slash-stays t ts (plain t.token p e)) in
          ap (taken first c) k
          ∙ rw (e, taken) (taken-without t.span.lo ts p (t ∷ []) t.span.hi v rest (rw (e, taken) at h)))
    ] refl

plain-function : Plain function_first
plain-function (token.BinOp operator.Div) p h = cc
plain-function (token.AssignOp assign.DivAssign) p h = cc
plain-function t p h = refl

plain-class : Plain class_first
plain-class (token.BinOp operator.Div) p h = cc
plain-class (token.AssignOp assign.DivAssign) p h = cc
plain-class t p h = refl

plain-block : Plain block_first
plain-block (token.BinOp operator.Div) p h = cc
plain-block (token.AssignOp assign.DivAssign) p h = cc
plain-block t p h = refl

-- bodies that are taken as tokens replay
pub token_forms_replay : ReplayHook token_forms
token_forms_replay = record {
  fun = taken-replays function_first plain-function;
  class = taken-replays class_first plain-class;
  block = taken-replays block_first plain-block;
}

-- and so does what reads nothing
pub no_forms_replay : {F C K : Type 0} → ReplayHook {F = F} {C = C} {K = K} no_forms
no_forms_replay = record {
  fun = λ c ts v rest h. cc;
  class = λ c ts v rest h. cc;
  block = λ c ts v rest h. cc;
}
