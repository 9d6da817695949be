-- Operators: prefixes, `await`, updates, and climbing over the levels of binary operators.
use Rattle.std.specs.Prelude.{◌≡◌, ℕ, suc, ◌≤◌, ◌<◌, min, Bool, true, false, not, ◌||◌, List, [], ◌∷◌, ◌&&◌, if◌then◌else◌, Some, None, nat_lt, Option}
use Rattle.std.proofs.Common.{refl, ap, ◌∙◌, arith, sym as sym_path, subst}
use Rattle.std.proofs.lemmas.Bool.{le-leb, lt-leb, lt-ltb}
use Rattle.swc_context.specs.{Operators.precedence_of, declared.operator.BinaryOp.BinaryOp, declared.operator.BinaryOp.BinaryOp as binary, declared.operator.UnaryOp.UnaryOp, declared.operator.BinOpToken.BinOpToken as sign, declared.span.Span.Span, declared.word.Keyword.Keyword as keyword, declared.word.Word.Word as word}
use Rattle.swc_input.specs.{declared.token.Token.Token, declared.token.Token.Token as token, declared.token.TokenAndSpan.TokenAndSpan, Kinds.at_token, Kinds.is_hash}
use Rattle.swc_ast.specs.Tree.{Tree, span_of}
use Rattle.swc_ast.specs.Trees.{to, bin_e, nullish_ok, logical_ok, exp_ok, is_unary, min_right, private_e}
use Rattle.swc_bodies.specs.Readings.{Hook}
use Rattle.swc_grammar.specs.Rule.{sees, take, check, gives, given, read, ◌>>=◌}
use Rattle.swc_grammar.specs.Tokens.{tk, binary_of, prefix_of, is_power, is_star, is_update, is_await, ends_await, is_in}
use Rattle.swc_grammar.specs.Symbols.{Level, Unary, Lhs, Side, Base, Primary}
use Rattle.swc_grammar.specs.Parts.{prefix_here, update_here, any_name, private_ok}
use Rattle.swc_grammar.specs.Grammar.{Production, unary-left, unary-op, update-postfix, update-prefix, await-expr, await-ident}
use Rattle.swc_grammar.specs.Reads.{Follows, took, held, calm, part}
use Rattle.swc_grammar.specs.Clean.{first, sym, climb, no_link, prefix_at, updates, no_update_at, ends_unary, no_arrow, ends_await_at, unary_by, Stop, Choice, pick, chosen, step, run, begins_private, exec, plan}
use Rattle.swc_grammar.specs.{Scope.Scope, Scope.inner, Firsts.begins_left, Firsts.begins_operand, Names.Spelling}
use Rattle.swc_grammar.proofs.Induct.{ran-took, ran-held, ran-part}
use Rattle.swc_grammar.proofs.Firsts.{given-held, begins, placed-op, update-first}
use Rattle.swc_grammar.proofs.Levels.{bound-some, bound-above, min-right-same}
use Rattle.swc_grammar.proofs.Complete.Bools.{if-on, if-off, is-false, neither, is-true}
use Rattle.swc_grammar.proofs.Complete.Sides.{gave-ran, Claim, Ready, ready-given, last, picks, settle, Ran, forget, side-reads}
use Rattle.swc_grammar.proofs.{Answers.both, Only.hash-is, Only.power-is, Good.Good, Good.good, Knot.knot}

no-prefix-first : (c : Scope) (xs : List TokenAndSpan) → at_token (begins_left c) (first xs) ≡ true
    → (prefix_at (first xs) ≡ None) × (at_token is_update (first xs) ≡ false)
no-prefix-first c [] h = (refl, refl)
no-prefix-first c (a ∷ us) h = by-token a.token h
  where
    by-token : (t : Token) → begins_left c t ≡ true → (prefix_of t ≡ None) × (is_update t ≡ false)
    by-token (token.Word (word.Keyword keyword.Delete)) h = absurd cc
    by-token (token.Word (word.Keyword keyword.Void)) h = absurd cc
    by-token (token.Word (word.Keyword keyword.TypeOf)) h = absurd cc
    by-token (token.BinOp sign.Add) h = absurd cc
    by-token (token.BinOp sign.Sub) h = absurd cc
    by-token token.Tilde h = absurd cc
    by-token token.Bang h = absurd cc
    by-token token.PlusPlus h = absurd cc
    by-token token.MinusMinus h = absurd cc
    by-token t h = (refl, refl)

-- a prefix operator is neither `++` nor `--` nor `await`, and `await` is neither `++` nor `--`
prefix-apart : (t : Token) (op : UnaryOp) → prefix_of t ≡ Some op → (is_update t ≡ false) × (is_await t ≡ false)
prefix-apart token.PlusPlus op h = absurd cc
prefix-apart token.MinusMinus op h = absurd cc
prefix-apart (token.Word (word.Keyword keyword.Await)) op h = absurd cc
prefix-apart t op h = (refl, refl)

await-apart : (t : Token) → is_await t ≡ true → is_update t ≡ false
await-apart (token.Word w) h = refl
await-apart t h = absurd cc

-- a test of what comes first, on the list
pub first-sees : (p : Token → Bool) (xs : List TokenAndSpan) → sees (λ t. p t.token) xs ≡ false
    → at_token p (first xs) ≡ false
first-sees p [] h = refl
first-sees p (t ∷ ts) h = h

-- what is after `await` and `yield`
await-goes-on : (c : Scope) (us : List TokenAndSpan)
    → sees (λ t. is_star t.token || (not c.context.in_async && ends_await t)) us ≡ false
    → at_token (begins_operand c) (first us) ≡ true
    → (at_token is_star (first us) ≡ false) × ((not c.context.in_async && ends_await_at (first us)) ≡ false)
await-goes-on c [] w h = absurd cc
await-goes-on c (t ∷ ts) w h = neither (is_star t.token) (not c.context.in_async && ends_await t) w

await-ends : (us : List TokenAndSpan) → sees (λ t. is_star t.token || not (ends_await t)) us ≡ false
    → (at_token is_star (first us) ≡ false) × (ends_await_at (first us) ≡ true)
await-ends [] w = (refl, refl)
await-ends (t ∷ ts) w =
    let (x, y) = neither (is_star t.token) (not (ends_await t)) w in (x, is-true (ends_await t) y)

-- operators
pub operator-ends : (c : Scope) (a : TokenAndSpan) (us : List TokenAndSpan) (op : BinaryOp)
    → binary_of c.context a.token ≡ Some op → ends_unary (a ∷ us) ≡ true
operator-ends c a us op h = by-token a.token a.had_line_break a.span h
  where
    by-token : (t : Token) (b : Bool) (s : Span) → binary_of c.context t ≡ Some op → ends_unary (tk t b s ∷ us) ≡ true
    by-token token.BackQuote b s h = absurd cc
    by-token token.QuestionMark b s h = absurd cc
    by-token token.Dot b s h = absurd cc
    by-token token.LBracket b s h = absurd cc
    by-token token.LParen b s h = absurd cc
    by-token token.PlusPlus b s h = absurd cc
    by-token token.MinusMinus b s h = absurd cc
    by-token token.Arrow b s h = absurd cc
    by-token t b s h = refl

pub power-op : (c : Scope) (a : TokenAndSpan) → is_power a.token ≡ true → binary_of c.context a.token ≡ Some binary.Exp
power-op c a h = rw (power-is a.token h) refl

-- no left-hand side goes on with `++` or `--`
pub update-link : (a : TokenAndSpan) (us : List TokenAndSpan) → is_update a.token ≡ true
    → (no_link true (a ∷ us) && no_arrow (a ∷ us)) ≡ true
update-link a us h = by-token a.token a.had_line_break a.span h
  where
    by-token : (t : Token) (b : Bool) (s : Span) → is_update t ≡ true
        → (no_link true (tk t b s ∷ us) && no_arrow (tk t b s ∷ us)) ≡ true
    by-token token.PlusPlus b s h = refl
    by-token token.MinusMinus b s h = refl
    by-token t b s h = absurd cc

-- the operator `in`, where it is one
pub in-word : (c : Scope) (t : Token) → c.context.include_in_expr ≡ true → is_in t ≡ true
    → binary_of c.context t ≡ Some binary.In
in-word c (token.Word (word.Keyword keyword.In)) i h = rw i refl
in-word c t i h = absurd cc

module _ {F C K : Type 0} (hook : Hook F C K) where
  pub climb-takes : (op : BinaryOp) (m : ℕ) (c : Scope) (t : TokenAndSpan) (l r : Tree F C K) (ms ys : List TokenAndSpan)
      → binary_of c.context t.token ≡ Some op → m < precedence_of op → exp_ok op l ≡ true → nullish_ok op l r ≡ true
      → logical_ok op l ≡ true → run hook (sym (Level (suc (min_right op)))) (inner c) ms ≡ Some (r, ys)
      → run hook (climb l m) c (t ∷ ms) ≡ run hook (climb (bin_e (to (span_of l) (span_of r)) op l r) m) c ys
  climb-takes op m c t l r ms ys o lt x n g e =
      knot hook (climb l m) c (t ∷ ms)
      ∙ rw (o, lt-leb (precedence_of op) m lt, x, e, n, g)
      (last hook None (climb (bin_e (to (span_of l) (span_of r)) op l r) m) c ys refl)

  -- Where the syntax is pedantic `#` begins no operand by itself.
  abbrev name_alone : Scope → Span → Spelling → Side F C K Primary
  name_alone c s n = check (not c.syntax.pedantic) (gives (private_e (to s n.at) n.text))

  name-refused : (c : Scope) (s : Span) (vs : List TokenAndSpan) (o : Option Spelling) → c.syntax.pedantic ≡ true
      → exec hook (run hook) None (plan (given o >>= name_alone c s)) vs ≡ None
  name-refused c s vs None h = refl
  name-refused c s vs (Some n) h = rw h refl

  pub private-refused : (c : Scope) (a : TokenAndSpan) (us : List TokenAndSpan) → c.syntax.pedantic ≡ true
      → is_hash a.token ≡ true → run hook (sym Unary) c (a ∷ us) ≡ None
  private-refused c a us h i =
      subst (λ v. run hook (sym Unary) c (tk v a.had_line_break a.span ∷ us) ≡ None) (sym_path (hash-is a.token i))
      (knot hook (sym Unary) c xs ∙ rw by-side refl)
    where
      xs : List TokenAndSpan
      xs = tk token.Hash a.had_line_break a.span ∷ us

      behind : (vs : List TokenAndSpan)
          → exec hook (run hook) None (plan (take (λ b. given (any_name c b.token b.span) >>= name_alone c a.span))) vs
          ≡ None
      behind [] = refl
      behind (b ∷ vs) = name-refused c a.span vs (any_name c b.token b.span) h

      by-primary : run hook (sym Primary) c xs ≡ None
      by-primary = knot hook (sym Primary) c xs ∙ behind us

      by-base : run hook (sym (Base true)) c xs ≡ None
      by-base = knot hook (sym (Base true)) c xs ∙ rw by-primary refl

      by-side : run hook (sym (Lhs true)) c xs ≡ None
      by-side = knot hook (sym (Lhs true)) c xs ∙ rw by-base refl

  private-off : (f : Bool) (c : Scope) (xs : List TokenAndSpan) (r : Tree F C K × List TokenAndSpan)
      → run hook (sym Unary) c xs ≡ Some r → begins_private f c xs ≡ false
  private-off f c [] r e = refl
  private-off f c (a ∷ us) r e = by-case (begins_private f c (a ∷ us)) refl
    where
      by-case : (b : Bool) → begins_private f c (a ∷ us) ≡ b → b ≡ false
      by-case false h = refl
      by-case true h =
          let (z, y) = both (is_hash a.token) _ h in
          let (v, q) = both f _ y in
          let (x, w) = both c.syntax.pedantic _ q in
          let k : None ≡ Some r = sym_path (private-refused c a us x z) ∙ e in
          absurd cc

  pub operand-climbs : (m : ℕ) (c : Scope) (xs ys : List TokenAndSpan) (t : Tree F C K) → m ≤ 10
      → run hook (sym Unary) c xs ≡ Some (t, ys)
      → run hook (sym (Level (suc m))) c xs ≡ run hook (climb t m) (inner c) ys
  operand-climbs m c xs ys t le e =
      knot hook (sym (Level (suc m))) c xs
      ∙ rw (private-off (nat_lt m 7) c xs (t, ys) e, le-leb m 10 le, e)
      (last hook (Some 12) (climb t m) (inner c) ys refl)

  -- `++` and `--` before an operand, `await`, and prefix operators
  await-picks : (c : Scope) (a : TokenAndSpan) (us : List TokenAndSpan) (x : Choice F C K Unary c)
      → is_await a.token ≡ true → at_token is_star (first us) ≡ false
      → (if not c.context.in_async && ends_await_at (first us) then pick await-ident else pick await-expr) ≡ x
      → step (sym Unary) c (a ∷ us) ≡ chosen x
  await-picks c a us x h s e =
      if-off (is_update a.token) _ _ (await-apart a.token h) ∙ if-on (is_await a.token) _ _ h
      ∙ ap chosen (if-off (at_token is_star (first us)) _ _ s ∙ e)

  abbrev pub is_signed : {c : Scope} {r : Side F C K Unary} → Production Unary c r → Bool
  is_signed unary-left = false
  is_signed update-postfix = false
  is_signed p = true

  pub picked-unary : {c : Scope} {r : Side F C K Unary} {xs ys : List TokenAndSpan} {t : Tree F C K}
      (p : Production Unary c r) → is_signed p ≡ true
      → Follows hook Unary r xs ys t → step (sym Unary) c xs ≡ chosen (pick p)
  picked-unary update-prefix y (took {a = a} d) =
      let (x, h, k) = given-held (update_here a.token a.span) _ d in
      if-on (is_update a.token) _ _ (update-first a.token a.span x h)
  picked-unary {c = c} await-expr y (took {a = a} {xs = us} (held h (held k (calm w (part e d))))) =
      let (x, n) = await-goes-on c us w (begins e) in await-picks c a us _ h x (if-off _ _ _ n)
  picked-unary {c = c} await-ident y (took {a = a} {xs = us} (held h (held k (calm w d)))) =
      let (x, n) = await-ends us w in
      let (g, o) = neither c.context.in_async c.context.module (is-false (c.context.in_async || c.context.module) k) in
      await-picks c a us _ h x (if-on (not c.context.in_async && ends_await_at (first us)) _ _ (rw (g, n) refl))
  picked-unary {c = c} unary-op y (took {a = a} {xs = us} d) =
      let (x, h, k) = given-held (prefix_here a.token a.span) _ d in
      let op = placed-op (prefix_of a.token) a.span x.0 x.1 h in
      let (u, w) = prefix-apart a.token x.0 op in
      if-off (is_update a.token) _ _ u ∙ if-off (is_await a.token) _ _ w ∙ ap (λ v. unary_by c v) op
  picked-unary p y d = absurd cc

  ready-unary : {c : Scope} {r : Side F C K Unary} (ys : List TokenAndSpan) → Stop Unary c ys
      → (p : Production Unary c r) → is_signed p ≡ true → Ready (Some 11) ys r
  ready-unary ys stop update-prefix y =
      λ a. ready-given _ _ (update_here a.token a.span) _ (λ x h. (refl, λ e. (λ n. stop, λ n. tt)))
  ready-unary ys stop await-expr y = λ a h k. (refl, λ e. (stop, tt))
  ready-unary ys stop await-ident y = λ a h k. tt
  ready-unary ys stop unary-op y =
      λ a. ready-given _ _ (prefix_here a.token a.span) _ (λ x h. (refl, λ e. (λ n. stop, λ n. tt)))
  ready-unary ys stop p y = absurd cc

  pub left-free : (op : BinaryOp) (l : Tree F C K) → precedence_of op ≤ 10 → exp_ok op l ≡ true
  left-free binary.Exp l h = absurd (omega arith)
  left-free op l h = refl

  pub op-reads : (n : ℕ) (op : BinaryOp) (c : Scope) (a : TokenAndSpan) (l r : Tree F C K)
      (xs ms ys : List TokenAndSpan) → suc n ≤ 10
      → binary_of c.context a.token ≡ Some op → precedence_of op ≡ suc n → nullish_ok op l r ≡ true
      → logical_ok op l ≡ true → Good F C K (Level (suc (suc n))) r
      → Claim hook (Level (suc n)) c xs (a ∷ ms) l → Claim hook (Level (suc (suc n))) (inner c) ms ys r
      → Claim hook (Level (suc n)) c xs ys (bin_e (to (span_of l) (span_of r)) op l r)
  op-reads n op c a l r xs ms ys top o p k g w left right = λ le end b m lt.
      let right-at : min_right op ≡ suc n = min-right-same op (omega arith) ∙ p in
      let e : run hook (sym (Level (suc (min_right op)))) (inner c) ms ≡ Some (r, ys) =
      rw right-at (settle hook (Level (suc (suc n))) (inner c) ms ys r w right
      (top, end, bound-above c (min (suc n) 10) (suc n) ys (omega arith) b)) in
      left le (operator-ends c a ms op o) (bound-some c (min (suc n) 10) (a ∷ ms) op o (omega arith)) m lt
      ∙ climb-takes op m (inner c) a l r ms ys o (omega arith) (left-free op l (omega arith)) k g e

  pub private-reads : (c : Scope) (a b : TokenAndSpan) (us ys : List TokenAndSpan) (n : Spelling) {t : Tree F C K}
      → is_hash a.token ≡ true → any_name c b.token b.span ≡ Some n → private_ok c a.span n.at ≡ true
      → Ran hook (Level 7) (take (λ g. check (is_in g.token) (read (Level 8) (inner c) (λ r.
      gives (bin_e (to (to a.span n.at) (span_of r)) binary.In (private_e (to a.span n.at) n.text) r))))) us ys t
      → Claim hook (Level 7) c (a ∷ (b ∷ us)) ys t
  private-reads c a b us ys n h o x (ran-took {a = g} {xs = vs} (ran-held i (ran-part {e = r} {ms = ms} dr right d))) =
      gave-ran hook (λ u ws. Claim hook (Level 7) c (a ∷ (b ∷ (g ∷ vs))) ws u) d
      (λ le end q m lt.
      let (x1, x2) = both c.syntax.pedantic _ x in
      let (x3, x4) = both c.context.include_in_expr _ x2 in
      let e = settle hook (Level 8) (inner c) vs ms r (good dr) right (omega arith, end, q) in
      let is : begins_private (nat_lt m 7) c (a ∷ (b ∷ (g ∷ vs))) ≡ true =
      rw (h, lt-ltb m 7 (omega arith), x1, i) refl in
      knot hook (sym (Level (suc m))) c (a ∷ (b ∷ (g ∷ vs)))
      ∙ ap (λ v. exec hook (run hook) (Some 12) v (a ∷ (b ∷ (g ∷ vs))))
      (if-on (begins_private (nat_lt m 7) c (a ∷ (b ∷ (g ∷ vs)))) _ _ is)
      ∙ rw (h, o, x) (last hook None (climb (private_e (to a.span n.at) n.text) m) (inner c) (g ∷ vs) refl)
      ∙ climb-takes binary.In m (inner c) g (private_e (to a.span n.at) n.text) r vs ms (in-word c g.token x3 i)
      (omega arith) refl refl refl e)

  pub exp-reads : (c : Scope) (a : TokenAndSpan) (l r : Tree F C K) (xs ms ys : List TokenAndSpan)
      → is_power a.token ≡ true → not (is_unary l) ≡ true → Good F C K (Level 11) r
      → Claim hook Unary c xs (a ∷ ms) l → Claim hook (Level 11) (inner c) ms ys r
      → Claim hook (Level 11) c xs ys (bin_e (to (span_of l) (span_of r)) binary.Exp l r)
  exp-reads c a l r xs ms ys y x w left right = λ le end b m lt.
      operand-climbs m c xs (a ∷ ms) l (omega arith) (left (operator-ends c a ms binary.Exp (power-op c a y)))
      ∙ climb-takes binary.Exp m (inner c) a l r ms ys (power-op c a y) (omega arith) x refl refl
      (settle hook (Level 11) (inner c) ms ys r w right (omega arith, end, b))

  pub signed : {c : Scope} {r : Side F C K Unary} {xs ys : List TokenAndSpan} {t : Tree F C K}
      (p : Production Unary c r) → is_signed p ≡ true → Ran hook Unary r xs ys t → Claim hook Unary c xs ys t
  signed {c = c} {xs = xs} {ys = ys} p y d = λ stop.
      picks hook Unary c xs p (pick p) (picked-unary p y (forget hook d)) refl
      (side-reads hook (Some 11) d (ready-unary ys stop p y))

  -- a left-hand side as an operand, and what `++` or `--` are after
  pub operand-reads : (c : Scope) (xs ms : List TokenAndSpan) (l : Tree F C K)
      → at_token (begins_left c) (first xs) ≡ true → sees (λ t. is_await t.token) xs ≡ false
      → run hook (sym (Lhs true)) c xs ≡ Some (l, ms) → run hook (sym Unary) c xs ≡ run hook (updates l) (inner c) ms
  operand-reads c xs ms l h w e =
      let (p, u) = no-prefix-first c xs h in
      knot hook (sym Unary) c xs ∙ rw (u, first-sees is_await xs w, p, e)
      (last hook (Some 11) (updates l) (inner c) ms refl)

  pub updates-end : (c : Scope) (l : Tree F C K) (ms : List TokenAndSpan) → no_update_at (first ms) ≡ true
      → run hook (updates l) c ms ≡ Some (l, ms)
  updates-end c l ms h = knot hook (updates l) c ms ∙ rw h refl
