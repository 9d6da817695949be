-- How a body is taken from a buffer, a step at a time.
use Rattle.std.proofs.Common.{◌≡◌, ◌≢◌, ◌⊎◌, ◌<◌, ◌≤◌, inl, inr, true, false, List, [], ◌∷◌, ◌++◌, Option, Some, None, Ok, Err, length, map, refl, sym, ap, ◌∙◌, subst, arith, length-append, append_assoc}
use Rattle.swc_context.specs.{declared.context.Context.Context, declared.error.Error.Error, declared.error.SyntaxError.SyntaxError, declared.error.SyntaxError.SyntaxError as kind, declared.error.Wanted.Wanted as wanted, declared.span.BytePos.BytePos, declared.word.Keyword.Keyword as keyword, declared.word.Word.Word as word}
use Rattle.swc_input.specs.Source.{Model, Laws, given_one}
use Rattle.swc_input.specs.Buffer.{Read, Looked, Known, Future, current, source, last_position, to_come}
use Rattle.swc_input.specs.Recording.{Refused, unfit, no_memory}
use Rattle.swc_input.specs.Laws.{Read-then, Read-late, Read-same, Refused-read, Known-after, Future-current, Future-end, Known-Future}
use Rattle.swc_input.specs.{declared.buffer.Buffer.Buffer, declared.token.Token.Token, declared.token.Token.Token as token, declared.token.TokenAndSpan.TokenAndSpan, Plain.plain, Plain.plain_token, Kinds.at_token, Kept.kept}
use Rattle.swc_input.proofs.Refusals.{Refused-kind, Refused-failed, unfit-kind}
use Rattle.swc_input.proofs.Kept.{plain-kept}
use Rattle.swc_bodies.specs.Readings.{Hooked, Faithful, is_class, is_brace}
use Rattle.swc_bodies.specs.Taking.{sign_at, after, is_end, next, at_current, body, taken_on, begun, taken, class_first, block_first}
use Rattle.swc_bodies.specs.Steps.{Quiet, GoesOn, Stops, wanting, wanted_memory, refused_token}
use Rattle.swc_bodies.specs.Laws.{plain-sign-at, taken-end, taken-next, taken-none, read, value_or, rest_or}
use Rattle.swc_bodies.specs.{declared.place.Place.Place, declared.place.Place.Place as place, Body.Body}

-- the refusal of a place at which no more brackets can be counted
pub stops-full : {S : Type 0} {model : Model S} → Laws model → (b : Buffer S) (p : Place) (e : Error)
    → e ≡ no_memory (last_position b) → Stops model b p e b
stops-full laws b p e h = record {
  read = ([], Read-same laws b);
  quiet = λ m known. (refl, refl);
  own = λ i. cc;
  answer = wanted_memory h;
  cause = inl (ap (λ x. x.kind) h);
}

module _ {S : Type 0} {model : Model S} (laws : Laws model) where
  pub quiet-same : (b c : Buffer S) → source c ≡ source b → Quiet model b c
  quiet-same b c same = λ m known. (ap (λ s. (model.state s).errors) same, ap (λ s. (model.state s).waiting) same)

  quiet-then : (b c d : Buffer S) (xs : List TokenAndSpan) → Read model b xs c → Quiet model b c → Quiet model c d
      → Quiet model b d
  quiet-then b c d xs read p q = λ m known.
      let later = (laws.gave b.iter c.iter read.took.given read.took.gave).known m known in
      let first = p m known in
      let second = q later.0 later.1 in
      (second.0 ∙ first.0, second.1 ∙ first.1)

  -- no token comes that may be at the place, where the current one may not
  none-next : (h : Buffer S) (p : Place) (ts : List TokenAndSpan) (o : Option TokenAndSpan) → current h ≡ o
      → at_current p o ≡ None → Future model h ts →
      (o ≡ None → ts ≡ []) → next p ts ≡ None
  none-next h p ts None at barred future end = ap (next p) (end refl)
  none-next h p ts (Some t) at barred future end =
      let f = Future-current model h t ts at future in
      ap (next p) f.1 ∙ ap (after p) (plain-sign-at t) ∙ barred

  at-end : (b h : Buffer S) (ts : List TokenAndSpan) → Looked model b h → Known model h ts
      → (current h ≡ None → (model.state (source h)).failed ≡ false) → current h ≡ None → ts ≡ []
  at-end b h ts l k runs none = let end = l.end none in
      Future-end model h ts none end.0 (end.1 (runs none)) (Known-Future laws h ts k)

  known-none : (b h : Buffer S) (p : Place) (ts : List TokenAndSpan) → Looked model b h
      → at_current p (current h) ≡ None → (current h ≡ None → (model.state (source h)).failed ≡ false) →
      Known model b ts → next p ts ≡ None
  known-none b h p ts l barred runs known =
      let k = Known-after laws b h [] ts l.look.read.took known in
      ap (next p) k.2 ∙ none-next h p k.0 (current h) refl barred (Known-Future laws h k.0 k.1)
      (at-end b h k.0 l k.1 runs)

  -- why the current token is refused: the source has failed, or no token comes that may be at the place
  why-stopped : (b h c : Buffer S) (p : Place) (e : Buffer S → Error) (r : Error) → Looked model b h
      → at_current p (current h) ≡ None → Refused model h e r c →
      (r.kind ≡ kind.OutOfMemory) ⊎ ((ts : List TokenAndSpan) → Known model b ts → next p ts ≡ None)
  why-stopped b h c p e r l barred x = elim (current h) as (λ o. current h ≡ o
      → (r.kind ≡ kind.OutOfMemory) ⊎ ((ts : List TokenAndSpan) → Known model b ts → next p ts ≡ None)) [
        | Some t ↦ (λ at. inr (λ ts known. known-none b h p ts l barred (λ none. let n : Some t ≡ None = sym at ∙ none
            in cc) known))
        | None ↦ (λ at. elim (model.state (source h)).failed as (λ f. (model.state (source h)).failed ≡ f
            → (r.kind ≡ kind.OutOfMemory) ⊎ ((ts : List TokenAndSpan) → Known model b ts → next p ts ≡ None)) [
              | false ↦ (λ runs. inr (λ ts known. known-none b h p ts l barred (λ none. runs) known))
              | true ↦ (λ failed. inl (Refused-failed model laws b h c e r l at failed x))
            ] refl)
      ] refl

  wanted-own : (k : SyntaxError) → wanting k ≡ Some wanted.LBrace → k ≢ kind.ParserFailed
  wanted-own kind.ParserFailed brace i = cc
  wanted-own k brace i = cc

  -- the refusal of the current token
  pub stops-here : (b h c : Buffer S) (p : Place) (k : SyntaxError) (r : Error) → wanting k ≡ Some wanted.LBrace
      → Looked model b h → at_current p (current h) ≡ None →
      Refused model h (λ here. unfit (current here) (last_position here) k) r c → Stops model b p r c
  stops-here b h c p k r brace l barred x =
      let own : k ≢ kind.ParserFailed = λ i. wanted-own k brace i in
      let d = Refused-read laws h c (λ here. unfit (current here) (last_position here) k) r x in record {
        read = (d.0, Read-late laws b h c d.0 l.look.read d.1);
        quiet = quiet-then b h c [] l.look.read l.look.quiet
            (quiet-then h x.here c [] x.looked.look.read x.looked.look.quiet (quiet-same x.here c x.same));
        own = Refused-kind model h c (λ here. unfit (current here) (last_position here) k) r
            (λ here. unfit-kind (current here) (last_position here) k kind.ParserFailed (λ i. cc) own) x;
        answer = refused_token h k brace x;
        cause = why-stopped b h c p (λ here. unfit (current here) (last_position here) k) r l barred x;
      }

-- What was taken so far, from b to i: a body that began at the position, which is at the place p now, where these
-- tokens are kept.
pub record SoFar {S : Type 0} (model : Model S) (b : Buffer S) (first : Place) (from : BytePos) (i : Buffer S)
    (p : Place) (items : List TokenAndSpan) : Type 0 where
  pub all : List TokenAndSpan
  pub some : 1 ≤ length all
  pub read : Read model b all i
  pub less : to_come model i < to_come model b
  pub quiet : Quiet model b i
  pub reads : (begins : Token → Option Place) → begun begins (given_one (current b)) ≡ Some first
      → (c : Context) (other : List TokenAndSpan) →
      taken begins c (all ++ other) ≡ taken_on from other p (map plain items) (last_position i)

module _ {S : Type 0} {model : Model S} (laws : Laws model) where
  -- the first token was taken and kept
  pub started : (b : Buffer S) (first : Place) (from : BytePos) (t : TokenAndSpan) (c : Buffer S)
      (items : List TokenAndSpan) →
      current b ≡ Some t → from ≡ t.span.lo → Read model b (plain t ∷ []) c → to_come model c < to_come model b
      → source c ≡ source b → last_position c ≡ t.span.hi → items ≡ kept [] t →
      SoFar model b first from c first items
  started b first from t c items at lo read less same last is = record {
    all = plain t ∷ [];
    some = omega arith;
    read = read;
    less = less;
    quiet = quiet-same laws b c same;
    reads = λ begins begun-so ctx other.
        let here : begins (plain_token t.token) ≡ Some first =
        sym (ap (λ o. begun begins (given_one o)) at) ∙ begun-so in
        rw (here, taken) (rw (lo, last, is) refl);
  }

  -- one token more was taken and kept
  pub stepped : (b : Buffer S) (first : Place) (from : BytePos) (i : Buffer S) (p : Place) (items : List TokenAndSpan)
      (q : Place) (j : Buffer S) (t : TokenAndSpan) (k : Buffer S) (more : List TokenAndSpan) →
      SoFar model b first from i p items → GoesOn model i p q j → current j ≡ Some t → Read model j (plain t ∷ []) k
      → source k ≡ source j → last_position k ≡ t.span.hi → more ≡ kept items t →
      SoFar model b first from k q more
  stepped b first from i p items q j t k more s g at read same last is = record {
    all = s.all ++ plain t ∷ [];
    some = let a = s.some in let l = length-append s.all (plain t ∷ []) in omega arith;
    read = Read-then laws b i k s.all (plain t ∷ []) s.read
        (Read-late laws i j k (plain t ∷ []) g.looked.look.read read);
    less = let a = s.less in let l = g.looked.look.read.lower in let m = read.lower in omega arith;
    quiet = quiet-then laws b i k s.all s.read s.quiet
        (quiet-then laws i j k [] g.looked.look.read g.looked.look.quiet (quiet-same laws j k same));
    reads = λ begins begun-so ctx other.
        let next : after p (sign_at (plain t)) ≡ Some q =
        ap (after p) (plain-sign-at t) ∙ sym (ap (at_current p) at) ∙ g.next in
        let items-are : map plain more ≡ kept (map plain items) (plain t) = ap (map plain) is ∙ plain-kept items t in
        ap (taken begins ctx) (append_assoc s.all (plain t ∷ []) other) ∙ s.reads begins begun-so ctx (plain t ∷ other)
        ∙ taken-next from (plain t) other p q (map plain items) (last_position i) next
        ∙ ap (λ l. taken_on from other q l t.span.hi) (sym items-are) ∙ ap (taken_on from other q (map plain more))
        (sym last);
  }

  -- what was taken before a refusal was taken with it
  refused-hooked : (reads : Context → List TokenAndSpan → Option (Body × List TokenAndSpan)) (b : Buffer S)
      (first : Place) (from : BytePos) (i : Buffer S) (p : Place) (items : List TokenAndSpan) (xs : List TokenAndSpan)
      (e : Error) (c : Buffer S) →
      SoFar model b first from i p items → Read model i xs c → e.kind ≢ kind.ParserFailed →
      Hooked model reads b (Err e) c
  refused-hooked reads b first from i p items xs e c s read own = record {
    taken = s.all ++ xs;
    some = let a = s.some in let l = length-append s.all xs in omega arith;
    read = Read-then laws b i c s.all xs s.read read;
    less = let a = s.less in let l = read.lower in omega arith;
    clean = λ loud same. tt;
    refused = own;
  }

  pub stopped-hooked : (reads : Context → List TokenAndSpan → Option (Body × List TokenAndSpan)) (b : Buffer S)
      (first : Place) (from : BytePos) (i : Buffer S) (p : Place) (items : List TokenAndSpan) (e : Error)
      (c : Buffer S) →
      SoFar model b first from i p items → Stops model i p e c → Hooked model reads b (Err e) c
  stopped-hooked reads b first from i p items e c s x =
      refused-hooked reads b first from i p items x.read.0 e c s x.read.1 x.own

  -- a refusal records nothing either
  pub stopped-quiet : (b : Buffer S) (first : Place) (from : BytePos) (i : Buffer S) (p : Place)
      (items : List TokenAndSpan) (e : Error) (c : Buffer S) →
      SoFar model b first from i p items → Stops model i p e c → Quiet model b c
  stopped-quiet b first from i p items e c s x = quiet-then laws b i c s.all s.read s.quiet x.quiet

  pub unkept-quiet : (b : Buffer S) (first : Place) (from : BytePos) (i : Buffer S) (p : Place)
      (items : List TokenAndSpan) (q : Place) (j k : Buffer S) →
      SoFar model b first from i p items → GoesOn model i p q j → source k ≡ source j → Quiet model b k
  unkept-quiet b first from i p items q j k s g same =
      quiet-then laws b i k s.all s.read s.quiet (quiet-then laws i j k [] g.looked.look.read g.looked.look.quiet
      (quiet-same laws j k same))

  -- a token was taken, and there was no memory to keep it
  pub unkept-hooked : (reads : Context → List TokenAndSpan → Option (Body × List TokenAndSpan)) (b : Buffer S)
      (first : Place) (from : BytePos) (i : Buffer S) (p : Place) (items : List TokenAndSpan) (q : Place) (j : Buffer S)
      (xs : List TokenAndSpan) (e : Error) (k : Buffer S) →
      SoFar model b first from i p items → GoesOn model i p q j → Read model j xs k → e ≡ no_memory (last_position k)
      → Hooked model reads b (Err e) k
  unkept-hooked reads b first from i p items q j xs e k s g read memory =
      refused-hooked reads b first from i p items xs e k s (Read-late laws i j k xs g.looked.look.read read) (λ h. cc)

  -- what is still to come of a listed source is what was taken, and what comes after it
  left : (b : Buffer S) (first : Place) (from : BytePos) (i : Buffer S) (p : Place) (items : List TokenAndSpan)
      (begins : Token → Option Place) →
      begun begins (given_one (current b)) ≡ Some first → SoFar model b first from i p items
      → (c : Context) (ts : List TokenAndSpan) → Known model b ts →
      (r : List TokenAndSpan) × (Known model i r) × (taken begins c ts ≡ taken_on from r p (map plain items)
      (last_position i))
  left b first from i p items begins so s c ts known =
      let k = Known-after laws b i s.all ts s.read.took known in
      (k.0, k.1, ap (taken begins c) k.2 ∙ s.reads begins so c k.0)

  pub stopped-faithful : (b : Buffer S) (first : Place) (from : BytePos) (i : Buffer S) (p : Place)
      (items : List TokenAndSpan) (e : Error) (c : Buffer S) (begins : Token → Option Place) →
      begun begins (given_one (current b)) ≡ Some first → is_end p ≡ false → SoFar model b first from i p items
      → Stops model i p e c → Faithful model (taken begins) b (Err e) c
  stopped-faithful b first from i p items e c begins so going s x = λ loud ts v rest known reads. elim x.cause [
    | inl memory ↦ memory
    | inr none ↦
        (let l = left b first from i p items begins so s (model.state (source b)).context ts known in
        let nothing = taken-none from l.0 p (map plain items) (last_position i) going (none l.0 l.1) in
        let k = sym reads ∙ l.2 ∙ nothing in cc)
  ]

  -- the body was taken
  pub done-hooked : (b : Buffer S) (first : Place) (from : BytePos) (i : Buffer S) (p : Place)
      (items : List TokenAndSpan) (v : Body) (begins : Token → Option Place) →
      begun begins (given_one (current b)) ≡ Some first → p ≡ place.End
      → v ≡ body from (map plain items) (last_position i) → SoFar model b first from i p items
      → Hooked model (taken begins) b (Ok v) i
  done-hooked b first from i p items v begins so end is s = record {
    taken = s.all;
    some = s.some;
    read = s.read;
    less = s.less;
    clean = λ loud same rest future.
        s.reads begins so (model.state (source b)).context rest ∙ ap
        (λ q. taken_on from rest q (map plain items) (last_position i)) end
        ∙ taken-end from rest (map plain items) (last_position i) ∙ ap (λ w. read w rest) (sym is);
    refused = tt;
  }

  pub done-faithful : (b : Buffer S) (first : Place) (from : BytePos) (i : Buffer S) (p : Place)
      (items : List TokenAndSpan) (v : Body) (begins : Token → Option Place) →
      begun begins (given_one (current b)) ≡ Some first → p ≡ place.End
      → v ≡ body from (map plain items) (last_position i) → SoFar model b first from i p items
      → Faithful model (taken begins) b (Ok v) i
  done-faithful b first from i p items v begins so end is s = λ loud ts w rest known reads.
      let l = left b first from i p items begins so s (model.state (source b)).context ts known in
      let there : read w rest ≡ read v l.0 =
      sym reads ∙ l.2 ∙ ap (λ q. taken_on from l.0 q (map plain items) (last_position i)) end
      ∙ taken-end from l.0 (map plain items) (last_position i) ∙ ap (λ x. read x l.0) (sym is) in (
        sym (ap (value_or w) there),
        subst (Known model i) (sym (ap (rest_or rest) there)) l.1,
        (s.quiet _ known.known).0,
      )

pub ended : (p : Place) → is_end p ≡ true → p ≡ place.End
ended place.End h = refl
ended p h = cc

-- with which token a body begins doesn't depend on where boxes lie
class-first : (t : Token) → is_class t ≡ true → class_first (plain_token t) ≡ Some (place.Head 0)
class-first (token.Word (word.Keyword keyword.Class)) h = refl
class-first t h = cc

pub begun-class : (o : Option TokenAndSpan) → at_token is_class o ≡ true
    → begun class_first (given_one o) ≡ Some (place.Head 0)
begun-class None h = cc
begun-class (Some t) h = class-first t.token h

block-first : (t : Token) → is_brace t ≡ true → block_first (plain_token t) ≡ Some (place.Inside 0)
block-first token.LBrace h = refl
block-first t h = cc

pub begun-block : (o : Option TokenAndSpan) → at_token is_brace o ≡ true
    → begun block_first (given_one o) ≡ Some (place.Inside 0)
begun-block None h = cc
begun-block (Some t) h = block-first t.token h
