-- The law of replay.
use Rattle.std.specs.Prelude.{◌≡◌, Bool, true, false, not, ◌&&◌, ◌||◌, List, [], ◌∷◌, Option, Some, None}
use Rattle.std.proofs.Common.{refl, sym, ap, subst, ◌∙◌}
use Rattle.swc_context.specs.{declared.operator.AssignOp.AssignOp as assign, declared.operator.BinOpToken.BinOpToken as sign, Spans.from_to, declared.span.Span.Span}
use Rattle.swc_input.specs.{declared.token.Token.Token, declared.token.Token.Token as token, declared.token.TokenAndSpan.TokenAndSpan}
use Rattle.swc_ast.specs.Tree.{Tree, span_of}
use Rattle.swc_ast.specs.Trees.{to, at_place, regex_e}
use Rattle.swc_bodies.specs.Readings.{Hook, LawfulHook, whole_span, is_brace, is_function}
use Rattle.swc_bodies.specs.Slashes.{is_slash, is_regex, is_pair, is_found_at, without_slashes, ReplayHook}
use Rattle.swc_bodies.specs.Replaying.{pair, stays, left-out, regex-stays}
use Rattle.swc_grammar.specs.Rule.{Rule, gives, never, take, check, peek, peek_two, read, hear, sees, sees_two, given, ◌>>=◌}
use Rattle.swc_grammar.specs.Symbols.{Symbol, Primary, Answer, Body, function, class, block, Value, reading_of, Side}
use Rattle.swc_grammar.specs.Grammar.{Production, await-expr, regex-alone, regex-slash}
use Rattle.swc_grammar.specs.Tokens.{is_await, is_star, ends_operand, ends_await, begins_yielded, goes_on_yield, is_lparen, is_slash as is_slash_here}
use Rattle.swc_grammar.specs.Arrows.{is_arrow, is_sign, is_bindable, before_of, goes_on_async, of_arrow}
use Rattle.swc_grammar.specs.Reads.{Hears, Reads, by, Follows, gave, took, held, calm, calm-two, part, heard}
use Rattle.swc_grammar.specs.{Scope.Scope, Parts.regex_of, Parts.flags_ok}
use Rattle.swc_bodies.proofs.Slashes.{kept-is}
use Rattle.swc_laws.specs.Replay.{is_joining, Joined, JoinedSide, Replay}
use Rattle.swc_grammar.proofs.{Bodies.hears, Bodies.hears-place, Induct.follows-given, Firsts.given-held, Answers.inj, Answers.only}

-- Of a slash, and the regular expression found at it, a test that the slash doesn't pass isn't passed by the other.
abbrev Dull : (TokenAndSpan → Bool) → Type 0
Dull p = (a b : TokenAndSpan) → is_pair a b ≡ true → p a ≡ false → p b ≡ false

-- no test of a sort of tokens is passed by a regular expression
abbrev Never : (Token → Bool) → Type 0
Never f = (t : Token) → is_regex t ≡ true → f t ≡ false

never-brace : Never is_brace
never-brace (token.Regex exp flags) h = refl
never-brace t h = cc

never-await : Never is_await
never-await (token.Regex exp flags) h = refl
never-await t h = cc

never-star : Never is_star
never-star (token.Regex exp flags) h = refl
never-star t h = cc

never-sign : Never is_sign
never-sign (token.Regex exp flags) h = refl
never-sign t h = cc

dull-sort : (f : Token → Bool) → Never f → Dull (λ t. f t.token)
dull-sort f n a b h k = n b.token (pair a b h).regex

dull-sign : (x : Bool) → Dull (λ t. x && is_sign t.token)
dull-sign true a b h k = never-sign b.token (pair a b h).regex
dull-sign false a b h k = refl

right : (u v : Bool) → (u || v) ≡ false → v ≡ false
right true v h = cc
right false v h = h

-- after `await` and `yield` both count alike, as they have the same mark
same-ends : (t u : Token) (m n : Bool) → is_slash t ≡ true → is_regex u ≡ true → m ≡ n
    → (n || ends_operand u) ≡ (m || ends_operand t)
same-ends (token.BinOp sign.Div) (token.Regex exp flags) m n h k e = ap (λ v. v || false) (sym e)
same-ends (token.AssignOp assign.DivAssign) (token.Regex exp flags) m n h k e = ap (λ v. v || false) (sym e)
same-ends t u m n h k e = cc

same-goes : (t u : Token) (m n : Bool) → is_slash t ≡ true → is_regex u ≡ true → m ≡ n
    → (not n && begins_yielded u) ≡ (not m && begins_yielded t)
same-goes (token.BinOp sign.Div) (token.Regex exp flags) m n h k e = ap (λ v. not v && true) (sym e)
same-goes (token.AssignOp assign.DivAssign) (token.Regex exp flags) m n h k e = ap (λ v. not v && true) (sym e)
same-goes t u m n h k e = cc

dull-ends : (x : Bool) → Dull (λ t. is_star t.token || (x && ends_await t))
dull-ends x a b h k =
    let p = pair a b h in
    let e : ends_await b ≡ ends_await a = same-ends a.token b.token _ _ p.slash p.regex p.mark in
    rw (never-star b.token p.regex, e) (right (is_star a.token) (x && ends_await a) k)

dull-not-ends : Dull (λ t. is_star t.token || not (ends_await t))
dull-not-ends a b h k =
    let p = pair a b h in
    let e : ends_await b ≡ ends_await a = same-ends a.token b.token _ _ p.slash p.regex p.mark in
    rw (never-star b.token p.regex, e) (right (is_star a.token) (not (ends_await a)) k)

dull-goes : Dull goes_on_yield
dull-goes a b h k =
    let p = pair a b h in same-goes a.token b.token _ _ p.slash p.regex p.mark ∙ k

dull-not-goes : Dull (λ t. is_star t.token || not (goes_on_yield t))
dull-not-goes a b h k =
    let p = pair a b h in
    let e : goes_on_yield b ≡ goes_on_yield a = same-goes a.token b.token _ _ p.slash p.regex p.mark in
    rw (never-star b.token p.regex, e) (right (is_star a.token) (not (goes_on_yield a)) k)

-- and after `async`
no-async : (c : Scope) (t : Token) (m : Bool) → is_regex t ≡ true
    → (not m && (is_function t || (c.head && (is_lparen t || (is_bindable c t && not (before_of c t)))))) ≡ false
no-async c (token.Regex exp flags) m h = never (not m) c.head
  where
    never : (x y : Bool)
        → (x && (false || (y && (false || (false && not (before_of c (token.Regex exp flags))))))) ≡ false
    never true true = refl
    never true false = refl
    never false y = refl
no-async c t m h = cc

dull-async : (c : Scope) → Dull (goes_on_async c)
dull-async c a b h k = no-async c b.token b.had_line_break (pair a b h).regex

dull-break : Dull (λ t. t.had_line_break)
dull-break a b h k = sym (pair a b h).mark ∙ k

dull-break-where : (x : Bool) → Dull (λ t. x && t.had_line_break)
dull-break-where true a b h k = sym (pair a b h).mark ∙ k
dull-break-where false a b h k = refl

-- and two tokens that come next
abbrev DullTwo : (TokenAndSpan → TokenAndSpan → Bool) → Type 0
DullTwo p = (xs : List TokenAndSpan) → sees_two p xs ≡ false → sees_two p (without_slashes xs) ≡ false

first-regex : (c : Scope) (t : TokenAndSpan) (us : List TokenAndSpan) → is_regex t.token ≡ true
    → sees_two (of_arrow c) (t ∷ us) ≡ false
first-regex c t [] h = refl
first-regex c t (u ∷ us) h = no-word c t.token t.had_line_break u.token h
  where
    no-word : (c : Scope) (t : Token) (m : Bool) (u : Token) → is_regex t ≡ true
        → (c.head && (not m && ((is_bindable c t && before_of c t) && is_arrow u))) ≡ false
    no-word c (token.Regex exp flags) m u h = never c.head (not m)
      where
        never : (x y : Bool) → (x && (y && false)) ≡ false
        never true true = refl
        never true false = refl
        never false y = refl
    no-word c t m u h = cc

never-arrow : (t : Token) → is_regex t ≡ true → is_arrow t ≡ false
never-arrow (token.Regex exp flags) h = refl
never-arrow t h = cc

no-arrow : (c : Scope) (t u : TokenAndSpan) → is_arrow u.token ≡ false → of_arrow c t u ≡ false
no-arrow c t u h = rw h (never c.head (not t.had_line_break) (is_bindable c t.token && before_of c t.token))
  where
    never : (x y z : Bool) → (x && (y && (z && false))) ≡ false
    never true true true = refl
    never true true false = refl
    never true false z = refl
    never false y z = refl

dull-of : (c : Scope) → DullTwo (of_arrow c)
dull-of c [] h = refl
dull-of c (t ∷ []) h = refl
dull-of c (t ∷ u ∷ us) h = elim (is_pair t u)
    as (λ b. is_pair t u ≡ b → sees_two (of_arrow c) (without_slashes (t ∷ u ∷ us)) ≡ false) [
      | true ↦ (λ e.
          let r = (pair t u e).regex in
          ap (sees_two (of_arrow c)) (left-out t (u ∷ us) e ∙ regex-stays u us r) ∙ first-regex c u
          (without_slashes us) r)
      | false ↦ (λ e. ap (sees_two (of_arrow c)) (stays t (u ∷ us) e) ∙ second us h)
    ] refl
  where
    second : (us : List TokenAndSpan) → of_arrow c t u ≡ false
        → sees_two (of_arrow c) (t ∷ without_slashes (u ∷ us)) ≡ false
    second [] k = k
    second (v ∷ vs) k = elim (is_pair u v)
        as (λ b. is_pair u v ≡ b → sees_two (of_arrow c) (t ∷ without_slashes (u ∷ v ∷ vs)) ≡ false) [
          | true ↦ (λ e.
              let r = (pair u v e).regex in
              ap (λ l. sees_two (of_arrow c) (t ∷ l)) (left-out u (v ∷ vs) e ∙ regex-stays v vs r)
              ∙ no-arrow c t v (never-arrow v.token r))
          | false ↦ (λ e. ap (λ l. sees_two (of_arrow c) (t ∷ l)) (stays u (v ∷ vs) e) ∙ k)
        ] refl

-- a place stays, from its own start on
own-place : (s s' : Span) → s.lo ≡ s'.lo → to s s' ≡ s'
own-place s s' e = ap (λ v. from_to v s'.hi) e

module _ {F C K : Type 0} where
  -- all tests of the token that comes next are such
  abbrev Quiet : {A : Type 0} → Rule Symbol (Answer F C K) Body (Value F C K) A → Type 0
  Quiet (gives a) = Unit {0}
  Quiet never = Unit {0}
  Quiet (take f) = (a : TokenAndSpan) → Quiet (f a)
  Quiet (check b r) = Quiet r
  Quiet (peek p r) = Dull p × Quiet r
  Quiet (peek_two p r) = DullTwo p × Quiet r
  Quiet (read s c f) = (e : Answer F C K s) → Quiet (f e)
  Quiet (hear b c f) = (v : Value F C K b) (s : Span) → Quiet (f v s)

  quiet-given : {A B : Type 0} (o : Option A) (k : A → Rule Symbol (Answer F C K) Body (Value F C K) B)
      → ((x : A) → Quiet (k x)) → Quiet (given o >>= k)
  quiet-given None k f = tt
  quiet-given (Some x) k f = f x

  quiet : {s : Symbol} {c : Scope} {r : Side F C K s} → Production s c r → Quiet r
  quiet (await-expr {c = c}) = search (dull-ends (not c.context.in_async))
  quiet p = search (
    dull-break-where,
    dull-sort is_await never-await,
    dull-sort is_brace never-brace,
    dull-sign,
    dull-not-ends,
    dull-goes,
    dull-not-goes,
    dull-async,
    dull-break,
    dull-of,
    quiet-given,
  )

  regex-is : (t : Token) (s : Span) (e : Tree F C K) → regex_of t s ≡ Some e → is_regex t ≡ true
  regex-is (token.Regex exp flags) s e h = refl
  regex-is t s e h = cc

  regex-placed : (t : Token) (s s' : Span) (e : Tree F C K) → regex_of t s' ≡ Some e → s.lo ≡ s'.lo
      → at_place (to s (span_of e)) e ≡ e
  regex-placed (token.Regex exp flags) s s' e h k =
      let same : regex_e s' exp flags ≡ e = inj (regex_e s' exp flags) e (only (flags_ok flags) h).1 in
      subst (λ v. at_place (to s (span_of v)) v ≡ v) same (ap (λ v. regex_e v exp flags) (own-place s s' k))
  regex-placed t s s' e h k = cc

  ended : {hook : Hook F C K} {s : Symbol} {v t : Answer F C K s} {xs ys : List TokenAndSpan}
      → Follows hook s (gives v) xs ys t → (xs ≡ ys) × (v ≡ t)
  ended gave = (refl, refl)

-- what isn't seen next isn't without the slashes either
calm-again : (p : TokenAndSpan → Bool) (xs : List TokenAndSpan) → Dull p → sees p xs ≡ false
    → sees p (without_slashes xs) ≡ false
calm-again p [] q h = refl
calm-again p (t ∷ []) q h = h
calm-again p (t ∷ u ∷ us) q h = elim (is_pair t u)
    as (λ b. is_pair t u ≡ b → sees p (without_slashes (t ∷ u ∷ us)) ≡ false) [
      | true ↦ (λ e. ap (sees p) (left-out t (u ∷ us) e ∙ regex-stays u us (pair t u e).regex) ∙ q t u e h)
      | false ↦ (λ e. ap (sees p) (stays t (u ∷ us) e) ∙ h)
    ] refl

and-not : (a : Bool) → (a && not false) ≡ false → a ≡ false
and-not true h = cc
and-not false h = refl

module _ {F C K : Type 0} {fun_at : F → Span} {class_at : C → Span} {block_at : K → Span} (hook : Hook F C K)
    (laws : LawfulHook fun_at class_at block_at hook) (replays : ReplayHook hook) where
  replayed : (b : Body) (c : Scope) (ts : List TokenAndSpan) (v : Value F C K b) (rest : List TokenAndSpan)
      → reading_of hook b c.context ts ≡ Some (v, rest)
      → reading_of hook b c.context (without_slashes ts) ≡ Some (v, without_slashes rest)
  replayed function c ts v rest h = replays.fun c.context ts v rest h
  replayed class c ts v rest h = replays.class c.context ts v rest h
  replayed block c ts v rest h = replays.block c.context ts v rest h

  -- what was heard is heard again, at the same place
  heard-again : (b : Body) (c : Scope) (xs : List TokenAndSpan) (v : Value F C K b) (ms : List TokenAndSpan)
      (h : Hears hook b c xs v ms)
      → (k : Hears hook b c (without_slashes xs) v (without_slashes ms)) × (whole_span h.own ≡ whole_span k.own)
  heard-again b c xs v ms h =
      let e : reading_of hook b c.context xs ≡ Some (v, ms) =
      ap (reading_of hook b c.context) h.list ∙ h.alone ms in
      let k = hears hook laws b c (without_slashes xs) v (without_slashes ms) (replayed b c xs v ms e) in (
        k,
        sym (hears-place hook laws b c xs v ms h)
            ∙ hears-place hook laws b c (without_slashes xs) v (without_slashes ms) k,
      )

  -- a regular expression after its slash, or alone
  found-again : (c : Scope) (a b : TokenAndSpan) (us : List TokenAndSpan) (x : Tree F C K)
      → is_slash_here a.token ≡ true
      → regex_of b.token b.span ≡ Some x
      → Reads hook Primary c (without_slashes (a ∷ b ∷ us)) (without_slashes us) (at_place (to a.span (span_of x)) x)
  found-again c a b us x h e = elim (is_pair a b)
      as (λ w. is_pair a b ≡ w → Reads hook Primary c (without_slashes (a ∷ b ∷ us)) (without_slashes us)
      (at_place (to a.span (span_of x)) x)) [
        | true ↦ (λ w.
            let p = pair a b w in
            let l = left-out a (b ∷ us) w ∙ regex-stays b us p.regex in
            let d : Reads hook Primary c (b ∷ without_slashes us) (without_slashes us) x =
            by regex-alone (took (follows-given (regex_of b.token b.span) _ x e gave)) in
            rw (l, regex-placed b.token a.span b.span x e p.start) d)
        | false ↦ (λ w.
            let l = stays a (b ∷ us) w ∙ ap (λ v. a ∷ v) (regex-stays b us (regex-is b.token b.span x e)) in
            rw l (by regex-slash (took (held h (took (follows-given (regex_of b.token b.span) _ x e gave))))))
      ] refl

  joining : {s : Symbol} {c : Scope} {r : Side F C K s} {xs ys : List TokenAndSpan} {t : Answer F C K s}
      (p : Production s c r) → is_joining p ≡ true → Follows hook s r xs ys t
      → Reads hook s c (without_slashes xs) (without_slashes ys) t
  joining {c = c} {ys = ys} {t = t} regex-slash e (took {a = a} (held h (took {a = b} {xs = us} d))) =
      let (x, k, g) = given-held (regex_of b.token b.span) _ d in
      let (same, it) = ended g in
      subst (λ v. Reads hook Primary c (without_slashes (a ∷ b ∷ us)) (without_slashes ys) v) it
      (subst (λ v. Reads hook Primary c (without_slashes (a ∷ b ∷ us)) (without_slashes v)
      (at_place (to a.span (span_of x)) x)) same (found-again c a b us x h k))
  joining p e d = cc

  mutual
    -- a reading without the slashes
    pub again : {s : Symbol} {c : Scope} {xs ys : List TokenAndSpan} {t : Answer F C K s} (d : Reads hook s c xs ys t)
        → Joined d → Reads hook s c (without_slashes xs) (without_slashes ys) t
    again {s = s} {c = c} {xs = xs} {ys = ys} {t = t} (by p d) j = elim (is_joining p)
        as (λ b. is_joining p ≡ b → JoinedSide b d → Reads hook s c (without_slashes xs) (without_slashes ys) t) [
          | true ↦ (λ e i. joining p e d)
          | false ↦ (λ e i. by p (again-side d i (quiet p)))
        ] refl j

    again-side : {s : Symbol} {r : Side F C K s} {xs ys : List TokenAndSpan} {t : Answer F C K s}
        (d : Follows hook s r xs ys t) → JoinedSide false d → Quiet r
        → Follows hook s r (without_slashes xs) (without_slashes ys) t
    again-side gave j q = gave
    again-side {s = s} {ys = ys} {t = t} (took {f = f} {a = a} {xs = us} d) j q =
        subst (λ l. Follows hook s (take f) l (without_slashes ys) t)
        (sym (stays a us (and-not (is_found_at a us) j.0))) (took (again-side d j.1 (q a)))
    again-side (held h d) j q = held h (again-side d j q)
    again-side {xs = xs} (calm {p = p} h d) j q = calm (calm-again p xs q.0 h) (again-side d j q.1)
    again-side {xs = xs} (calm-two h d) j q = calm-two (q.0 xs h) (again-side d j q.1)
    again-side (part {e = x} e d) j q = part (again e j.0) (again-side d j.1 (q x))
    again-side {s = s} {xs = xs} {ys = ys} {t = t} (heard {b = b} {c = c} {f = f} {v = v} {ms = ms} h d) j q =
        let (k, e) = heard-again b c xs v ms h in
        heard k (subst (λ w. Follows hook s (f v w) (without_slashes ms) (without_slashes ys) t) e
        (again-side d j (q v (whole_span h.own))))

  -- the law
  pub replay : (s : Symbol) → Replay hook s
  replay s c xs t d o j = subst (λ l. Reads hook s c l [] t) (sym (kept-is xs o)) (again d j)
