-- The laws of bodies that are taken as tokens.
use Rattle.std.proofs.Common.{◌≡◌, Bool, true, false, not, ◌&&◌, List, [], ◌∷◌, ◌++◌, Option, Some, None, refl, sym, ap, ◌∙◌, subst}
use Rattle.swc_context.specs.{declared.context.Context.Context, declared.span.BytePos.BytePos, declared.word.Keyword.Keyword as keyword, declared.word.Word.Word as word, Spans.from_to}
use Rattle.swc_input.specs.{declared.token.Token.Token, declared.token.Token.Token as token, declared.token.TokenAndSpan.TokenAndSpan, Plain.plain, Plain.plain_token, Kept.kept}
use Rattle.swc_bodies.specs.Readings.{is_function, is_async, is_class, is_brace, begins_function, begins, last_of, ReadsOwn, IsReading, LawfulHook}
use Rattle.swc_bodies.specs.Taking.{sign_of, on_line, sign_at, behind_async, after, is_end, next, body, taken_on, taken, place_if, or_async, function_first, class_first, block_first, token_forms}
use Rattle.swc_bodies.specs.{declared.place.Sign.Sign, declared.place.Place.Place, declared.place.Place.Place as place, Body.Body}

-- what a token is to a body doesn't depend on where boxes lie
pub plain-sign : (t : Token) → sign_of (plain_token t) ≡ sign_of t
plain-sign (token.Template raw cooked) = refl
plain-sign (token.Error e) = refl
plain-sign t = refl

pub plain-sign-at : (t : TokenAndSpan) → sign_at (plain t) ≡ sign_at t
plain-sign-at t = ap (on_line t.had_line_break) (plain-sign t.token)

-- after the body nothing is taken
going : (p : Place) (s : Sign) (q : Place) → after p s ≡ Some q → is_end p ≡ false
going place.End s q h = cc
going p s q h = refl

pub taken-end : (from : BytePos) (ts ks : List TokenAndSpan) (to : BytePos)
    → taken_on from ts place.End ks to ≡ Some (body from ks to, ts)
taken-end from [] ks to = refl
taken-end from (t ∷ ts) ks to = refl

pub taken-next : (from : BytePos) (t : TokenAndSpan) (ts : List TokenAndSpan) (p q : Place) (ks : List TokenAndSpan)
    (to : BytePos) →
    after p (sign_at t) ≡ Some q → taken_on from (t ∷ ts) p ks to ≡ taken_on from ts q (kept ks t) t.span.hi
taken-next from t ts p q ks to h = let e = going p (sign_at t) q h in rw (e, h, taken_on) refl

pub taken-none : (from : BytePos) (ts : List TokenAndSpan) (p : Place) (ks : List TokenAndSpan) (to : BytePos) →
    is_end p ≡ false → next p ts ≡ None → taken_on from ts p ks to ≡ None
taken-none from [] p ks to e h = rw (e, taken_on) refl
taken-none from (t ∷ ts) p ks to e h = rw (e, h, taken_on) refl

-- where the last of the tokens ends, or at the position where there is none
abbrev last_end : BytePos → List TokenAndSpan → BytePos
last_end to [] = to
last_end to (t ∷ ts) = last_end t.span.hi ts

last_end-of : (t : TokenAndSpan) (ts : List TokenAndSpan) → last_end t.span.hi ts ≡ (last_of t ts).span.hi
last_end-of t [] = refl
last_end-of t (u ∷ us) = last_end-of u us

-- what is read from a place on is read of its own tokens alone
record OwnOn (from : BytePos) (ts : List TokenAndSpan) (p : Place) (ks : List TokenAndSpan) (to : BytePos) (v : Body)
    (rest : List TokenAndSpan) : Type 0 where
  own : List TokenAndSpan
  list : ts ≡ own ++ rest
  alone : (other : List TokenAndSpan) → taken_on from (own ++ other) p ks to ≡ Some (v, other)
  span : v.span ≡ from_to from (last_end to own)

-- what a reading gives, and its parts
abbrev pub read : Body → List TokenAndSpan → Option (Body × List TokenAndSpan)
read v rest = Some (v, rest)

abbrev pub value_or : Body → Option (Body × List TokenAndSpan) → Body
value_or v None = v
value_or v (Some r) = r.0

abbrev pub rest_or : List TokenAndSpan → Option (Body × List TokenAndSpan) → List TokenAndSpan
rest_or ts None = ts
rest_or ts (Some r) = r.1

own-end : (from : BytePos) (ts ks : List TokenAndSpan) (to : BytePos) (v : Body) (rest : List TokenAndSpan) →
    (body from ks to ≡ v) → (ts ≡ rest) → OwnOn from ts place.End ks to v rest
own-end from ts ks to v rest same left = record {
  own = [];
  list = left;
  alone = λ other. taken-end from other ks to ∙ ap (λ b. read b other) same;
  span = ap (λ b. b.span) (sym same);
}

own-next : (from : BytePos) (t : TokenAndSpan) (ts : List TokenAndSpan) (p q : Place) (ks : List TokenAndSpan)
    (to : BytePos) (v : Body) (rest : List TokenAndSpan) →
    after p (sign_at t) ≡ Some q → OwnOn from ts q (kept ks t) t.span.hi v rest → OwnOn from (t ∷ ts) p ks to v rest
own-next from t ts p q ks to v rest h o = record {
  own = t ∷ o.own;
  list = ap (λ l. t ∷ l) o.list;
  alone = λ other. taken-next from t (o.own ++ other) p q ks to h ∙ o.alone other;
  span = o.span;
}

own-on : (from : BytePos) (ts : List TokenAndSpan) (p : Place) (ks : List TokenAndSpan) (to : BytePos) (v : Body)
    (rest : List TokenAndSpan) →
    taken_on from ts p ks to ≡ Some (v, rest) → OwnOn from ts p ks to v rest
own-on from ts place.End ks to v rest h =
    let e : read (body from ks to) ts ≡ read v rest = sym (taken-end from ts ks to) ∙ h in
    own-end from ts ks to v rest (ap (value_or v) e) (ap (rest_or rest) e)
own-on from [] p ks to v rest h = cc
own-on from (t ∷ ts) p ks to v rest h = elim (after p (sign_at t)) as (λ o. after p (sign_at t) ≡ o
    → OwnOn from (t ∷ ts) p ks to v rest) [
      | None ↦ (λ e. let none = taken-none from (t ∷ ts) p ks to refl e in cc)
      | Some q ↦ (λ e. own-next from t ts p q ks to v rest e
          (own-on from ts q (kept ks t) t.span.hi v rest (sym (taken-next from t ts p q ks to e) ∙ h)))
    ] refl

-- the tokens that a body takes from its first on are such as it begins with
abbrev Opens : (Token → Option Place) → (List TokenAndSpan → Bool) → Type 0
Opens first starts = (t : TokenAndSpan) (own : List TokenAndSpan) (p : Place) (v : Body) → first t.token ≡ Some p →
    taken_on t.span.lo (own ++ []) p (t ∷ []) t.span.hi ≡ Some (v, []) → starts (t ∷ own) ≡ true

owns-from : (first : Token → Option Place) (starts : List TokenAndSpan → Bool) (c : Context) (t : TokenAndSpan)
    (ts : List TokenAndSpan) (p : Place) (v : Body) (rest : List TokenAndSpan) →
    Opens first starts → first t.token ≡ Some p → OwnOn t.span.lo ts p (t ∷ []) t.span.hi v rest
    → ReadsOwn (λ b. b.span) starts (taken first) c (t ∷ ts) v rest
owns-from first starts c t ts p v rest opens h o = record {
  own = t ∷ o.own;
  list = ap (λ l. t ∷ l) o.list;
  begins = opens t o.own p v h (o.alone []);
  alone = λ other. rw (h, taken) (o.alone other);
  span = o.span ∙ ap (from_to t.span.lo) (last_end-of t o.own);
}

owns-all : (first : Token → Option Place) (starts : List TokenAndSpan → Bool) → Opens first starts →
    (c : Context) (ts : List TokenAndSpan) (v : Body) (rest : List TokenAndSpan) → taken first c ts ≡ Some (v, rest)
    → ReadsOwn (λ b. b.span) starts (taken first) c ts v rest
owns-all first starts opens c [] v rest h = cc
owns-all first starts opens c (t ∷ ts) v rest h = elim
    (first t.token) as (λ o. first t.token ≡ o → ReadsOwn (λ b. b.span) starts (taken first) c (t ∷ ts) v rest) [
      | None ↦ (λ e. let none = rw (e, taken) at h in cc)
      | Some p ↦ (λ e. owns-from first starts c t ts p v rest opens e
          (own-on t.span.lo ts p (t ∷ []) t.span.hi v rest (rw (e, taken) at h)))
    ] refl

taken-reading : (first : Token → Option Place) (starts : List TokenAndSpan → Bool) → Opens first starts
    → IsReading (λ b. b.span) starts (taken first)
taken-reading first starts opens = record { owns = owns-all first starts opens; viewed = λ c ts. refl }

place_if-true : (p q : Place) (b : Bool) → place_if p b ≡ Some q → b ≡ true
place_if-true p q true h = refl
place_if-true p q false h = cc

-- what begins a class, and a block
opens-by : (f : Token → Bool) (p : Place) → Opens (λ t. place_if p (f t)) (begins f)
opens-by f p t own q v h alone = place_if-true p q (f t.token) h

wanted : (t : Token) (b : Bool) → (is_function t && not b) ≡ false → behind_async (on_line b (sign_of t)) ≡ None
wanted (token.Word (word.Keyword keyword.Function)) true h = refl
wanted (token.Word (word.Keyword keyword.Function)) false h = cc
wanted t true h = refl
wanted t false h = refl

place_if-same : (p q : Place) (b : Bool) → place_if p b ≡ Some q → q ≡ p
place_if-same p q true h = cc
place_if-same p q false h = cc

async-first : (b : Bool) (t : Token) (p : Place) → b ≡ false → or_async b t ≡ Some p
    → (is_async t ≡ true) × (p ≡ place.Async)
async-first true t p e h = cc
async-first false t p e h = (place_if-true place.Async p (is_async t) h, place_if-same place.Async p (is_async t) h)

wanted-here : (from : BytePos) (u : TokenAndSpan) (us ks : List TokenAndSpan) (to : BytePos) (v : Body)
    (rest : List TokenAndSpan) →
    taken_on from (u ∷ us) place.Async ks to ≡ Some (v, rest) → (is_function u.token && not u.had_line_break) ≡ true
wanted-here from u us ks to v rest h = elim (is_function u.token && not u.had_line_break)
    as (λ b. (is_function u.token && not u.had_line_break) ≡ b → (is_function u.token && not u.had_line_break) ≡ true) [
      | true ↦ (λ e. e)
      | false ↦ (λ e. let none = taken-none from (u ∷ us) place.Async ks to refl (wanted u.token u.had_line_break e) in
          cc)
    ] refl

opens-function : Opens function_first begins_function
opens-function t [] p v h alone = elim (is_function t.token) as (λ b. is_function t.token ≡ b
    → begins_function (t ∷ []) ≡ true) [
      | true ↦ (λ e. rw e refl)
      | false ↦ (λ e.
          let a = async-first (is_function t.token) t.token p e h in
          let none = subst (λ q. taken_on t.span.lo [] q (t ∷ []) t.span.hi ≡ Some (v, [])) a.1 alone in absurd cc)
    ] refl
opens-function t (u ∷ us) p v h alone = elim (is_function t.token) as (λ b. is_function t.token ≡ b
    → begins_function (t ∷ u ∷ us) ≡ true) [
      | true ↦ (λ e. rw e refl)
      | false ↦ (λ e.
          let a = async-first (is_function t.token) t.token p e h in
          let there = subst (λ q. taken_on t.span.lo (u ∷ us ++ []) q (t ∷ []) t.span.hi ≡ Some (v, [])) a.1 alone in
          rw (e, a.0, wanted-here t.span.lo u (us ++ []) (t ∷ []) t.span.hi v [] there) refl)
    ] refl

-- the laws of the hook
pub token_forms_read : LawfulHook (λ (b : Body). b.span) (λ (b : Body). b.span) (λ (b : Body). b.span) token_forms
token_forms_read = record {
  fun = taken-reading function_first begins_function opens-function;
  class = taken-reading class_first (begins is_class) (opens-by is_class (place.Head 0));
  block = taken-reading block_first (begins is_brace) (opens-by is_brace (place.Inside 0));
}
