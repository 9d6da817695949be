-- What the clean parser reads, the grammar derives, over a lawful hook. A choice picks a production, and so does a
-- link, so this is said once for all choices and once for all links; only the operators, which are read by precedence
-- and not by level, have a proof of their own.
use Rattle.std.specs.Prelude.{◌≡◌, ℕ, zero, suc, ◌≤◌, Bool, true, false, not, ◌&&◌, if◌then◌else◌, List, [], ◌∷◌, Option, Some, None, IsTrue, nat_eq, nat_le, nat_lt}
use Rattle.std.proofs.Common.{refl, sym as sym_path, subst, ap, ◌∙◌, arith}
use Rattle.std.proofs.lemmas.Bool.{leb-true, leb-false, lt-ltb, eq-eqb, ltb-true}
use Rattle.swc_context.specs.{Operators.precedence_of, Operators.operator_of, declared.operator.BinOpToken.BinOpToken, declared.operator.BinOpToken.BinOpToken as sign, declared.operator.BinaryOp.BinaryOp, declared.operator.BinaryOp.BinaryOp as binary, declared.span.Span.Span, declared.word.Keyword.Keyword as keyword, declared.word.Word.Word as word, declared.operator.UnaryOp.UnaryOp, declared.context.Context.Context}
use Rattle.swc_input.specs.{declared.token.Token.Token, declared.token.Token.Token as token, declared.token.TokenAndSpan.TokenAndSpan, Kinds.at_token, Kinds.is_hash}
use Rattle.swc_ast.specs.Tree.{Tree, Trees, nil, cons, span_of}
use Rattle.swc_ast.specs.Trees.{new_e, bare_new_e, is_chain, items_of, exprs_e, seq_of, is_operation, covers_ok, to, bin_e, nullish_ok, logical_ok, exp_ok, min_right, left_ok, paren_ok, listed, private_e}
use Rattle.swc_bodies.specs.Readings.{whole_span, Hook, LawfulHook, is_async as is_async_word}
use Rattle.swc_grammar.specs.Scope.{Scope, with_head, at_head, inner}
use Rattle.swc_grammar.specs.Rule.{gives, never, take, check, peek, read, hear, sees, given, ◌>>=◌, peek_two, sees_two}
use Rattle.swc_grammar.specs.Tokens.{with_in, binary_of, is_power, is_lparen, is_new, is_update, is_await, is_question, is_assign, is_comma, is_equals, is_in, binary_where}
use Rattle.swc_grammar.specs.Parts.{operator_here, any_name, private_ok}
use Rattle.swc_grammar.specs.Symbols.{Symbol, Expr, Exprs, Assign, Level, Unary, Lhs, Left, Arguments, Args, ArgsTail, Primary, Literal, Template, Parts, Base, ArrowParams, ArrowBody, Elements, ElementsTail, Item, Props, PropsTail, Prop, Key, AfterKey, Shell, Answer, Body, Value, reading_of, Side, Pat, Element, Rest, PatElements, PatElementsTail, PatProps, PatPropsTail, PatProp, Params, ParamsTail}
use Rattle.swc_grammar.specs.Grammar.{exp-unary, exp-op, level-up, bin-op, lhs-left, left-base, new-bare, left-new, unary-left, update-postfix, update-prefix, unary-op, assign-level, cond-expr, assign-expr, exprs-one, exprs-more, seq-expr, assign-pattern, covered-params, async-call, element-pat, element-default, pat-rest, arrow-async-name, arrow-async-params, arrow-name, arrow-params, base-primary, paren-expr, private-in}
use Rattle.swc_grammar.specs.Reads.{Hears, Reads, by, Follows, gave, took, held, calm, part, heard, calm-two}
use Rattle.swc_grammar.specs.Clean.{first, Call, sym, links, climb, Ans, Plan, plan, Runs, rank_of, rank, allowed, exec, constructs, Link, no_more, more, linked, link, base, constructed, constructed_with, defaults, default_tail, pat, pat_elements, pat_tail, pat_props, asyncs, async_head, pat_props_tail, pat_prop, params, params_tail, async_params_tail, async_arrow_tail, begins_new, lhs, call_args, args, args_tail, tpl, parts, behind_base, parens, updates, assigns, seqs, second, begins_yield, no_update_at, no_error, prefix_at, update_tail, cond_tail, assign_tail, exprs_next, exprs_tail, yield_by, await_by, unary_by, operator_at, Bound, Choice, none, pick, chosen, expr, assign, unary, arrow_params_tail, primary, literal, elements, elements_tail, item, props, props_tail, prop, key, after_key, shell, begins_async_name, begins_async_list, arrow_tail, paren_tail, turn, turned, step, run_at, measure, run, listed_head, begins_arrow, arrow_block, assigned, pattern_tail, writes_tail, pick_apart, begins_private, private_operand}
use Rattle.swc_grammar.specs.Cover.{is_pattern, as_params, arrow_params_ok}
use Rattle.swc_grammar.specs.{Arrows.is_arrow, Arrows.async_name, Names.Spelling}
use Rattle.swc_grammar.proofs.Answers.{then-ok, only, unless, hear-ok, choose, inj, both}
use Rattle.swc_grammar.proofs.Levels.{lift, min-right-same, below-exp, right-low, bound-none, bound-some, bound-above}
use Rattle.swc_grammar.proofs.{Binds.bind, Binds.apart-read, Bodies.before-is, Bodies.hears, Firsts.given-held, Firsts.async-token, Induct.follows-given, Only.lparen-is}

-- What is on the left of the operators above the precedence m: an operand by itself; a node, after which no operator is
-- read that its own level has to take, and no `**`; or `#` and a name before an `in` that takes them.
pub data OnLeft {F C K : Type 0} (hook : Hook F C K) (c : Scope) (m : ℕ) (xs ts : List TokenAndSpan)
    (l : Tree F C K) : Type 0 where
  alone : Reads hook Unary c xs ts l → OnLeft hook c m xs ts l
  node : (h : ℕ) → suc m ≤ h → h ≤ 11 → Reads hook (Level h) c xs ts l → Bound c h ts → Bound c 10 ts
      → OnLeft hook c m xs ts l
  named : suc m ≤ 7 → operator_at c.context (first ts) ≡ Some binary.In
      → ((t : TokenAndSpan) (us ys : List TokenAndSpan) (r : Tree F C K) → ts ≡ t ∷ us
      → Reads hook (Level 8) (inner c) us ys r
      → Reads hook (Level 7) c xs ys (bin_e (to (span_of l) (span_of r)) binary.In l r)) → OnLeft hook c m xs ts l

-- What is read as a left-hand side: one with links, or `new` without arguments, after which none are.
pub data Sided {F C K : Type 0} (hook : Hook F C K) (b : Bool) (c : Scope) (xs ts : List TokenAndSpan)
    (l : Tree F C K) : Type 0 where
  linked-side : Reads hook (Left b) c xs ts l → Sided hook b c xs ts l
  bare-side : at_token is_lparen (first ts) ≡ false → Reads hook (Lhs b) c xs ts l → Sided hook b c xs ts l

pub side-read : {F C K : Type 0} (hook : Hook F C K) {b : Bool} {c : Scope} {xs ts : List TokenAndSpan}
    {l : Tree F C K} → Sided hook b c xs ts l → Reads hook (Lhs b) c xs ts l
side-read hook (linked-side d) = by lhs-left (part d gave)
side-read hook (bare-side n d) = d

-- what the answers of calls mean
abbrev pub Means : {F C K : Type 0} (hook : Hook F C K) (k : Call F C K)
    → Scope → List TokenAndSpan → Ans F C K k × List TokenAndSpan → Type 0
Means hook (sym (Level zero)) c ts r = Reads hook (Level zero) c ts r.1 r.0
Means hook (sym (Level (suc m))) c ts r = Reads hook (Level (suc m)) c ts r.1 r.0 × Bound c m r.1
Means hook (sym (Lhs b)) c ts r = Sided hook b c ts r.1 r.0
Means hook (sym s) c ts r = Reads hook s c ts r.1 r.0
Means hook (constructs b s l) c ts r =
    (i : Bool) (a : TokenAndSpan) (xs : List TokenAndSpan) → is_new a.token ≡ true → a.span ≡ s
    → not (is_chain l) ≡ true → Sided hook false (inner c) xs ts l → Sided hook b (with_head i c) (a ∷ xs) r.1 r.0
Means hook (links b l) c ts r =
    (i : Bool) (xs : List TokenAndSpan) → Reads hook (Left b) (with_head i c) xs ts l
    → Reads hook (Left b) (with_head i c) xs r.1 r.0
Means hook (updates l) c ts r =
    (i : Bool) (xs : List TokenAndSpan) → at_token is_await (first xs) ≡ false
    → Reads hook (Lhs true) (with_head i c) xs ts l → Reads hook Unary (with_head i c) xs r.1 r.0
Means hook (assigns e) c ts r =
    (xs : List TokenAndSpan) → Reads hook (Level 1) (at_head c) xs ts e → Reads hook Assign c xs r.1 r.0
Means {F = F} {C = C} {K = K} hook (seqs es) c ts r =
    (xs : List TokenAndSpan) (t : Tree F C K) → items_of t ≡ es → Reads hook Exprs c xs ts t
    → Reads hook Expr c xs r.1 r.0
Means hook (parens s es) c ts r =
    (a : TokenAndSpan) (xs : List TokenAndSpan) → is_lparen a.token ≡ true → a.span ≡ s
    → Reads hook (Args false) (with_in c) xs ts es → Reads hook Assign c (a ∷ xs) r.1 r.0
Means hook (asyncs n es) c ts r =
    (a b : TokenAndSpan) (xs : List TokenAndSpan) → async_name c a.token a.span ≡ Some n
    → not b.had_line_break ≡ true → is_lparen b.token ≡ true
    → Reads hook (Args false) (with_in c) xs ts es → Reads hook Assign c (a ∷ (b ∷ xs)) r.1 r.0
Means hook (defaults p) c ts r = (xs : List TokenAndSpan) → Reads hook Pat c xs ts p → Reads hook Element c xs r.1 r.0
Means hook (climb l m) c ts r =
    m ≤ 10 → (i : Bool) (xs : List TokenAndSpan) → OnLeft hook (with_head i c) m xs ts l
    → Reads hook (Level (suc m)) (with_head i c) xs r.1 r.0 × Bound c m r.1

reads-of : {F C K : Type 0} (hook : Hook F C K) (s : Symbol) (c : Scope) (ts : List TokenAndSpan)
    (r : Answer F C K s × List TokenAndSpan) → Means hook (sym s) c ts r → Reads hook s c ts r.1 r.0
reads-of hook (Level zero) c ts r m = m
reads-of hook (Level (suc k)) c ts r m = m.0
reads-of hook (Lhs b) c ts r m = side-read hook m
reads-of hook s c ts r m = m

-- a test of what comes first, on the list
sees-first : (p : Token → Bool) (xs : List TokenAndSpan) → at_token p (first xs) ≡ false
    → sees (λ t. p t.token) xs ≡ false
sees-first p [] h = refl
sees-first p (t ∷ ts) h = h

-- What is read as a level, and is no operation, is read as an operand.
bin-is : {F C K : Type 0} {hook : Hook F C K} {k : ℕ} {c : Scope} {xs ys : List TokenAndSpan} {t : Tree F C K}
    (op : BinaryOp) (l : Tree F C K)
    → Follows hook (Level k) (check (nat_eq (precedence_of op) k) (read (Level (suc k)) c (λ r.
    check (nullish_ok op l r) (check (logical_ok op l) (gives (bin_e (to (span_of l) (span_of r)) op l r)))))) xs ys t
    → is_operation t ≡ true
bin-is op l (held p (part d (held n (held g gave)))) = refl

-- what is read from `#`, a name and `in` is a node of `in`
private-is : {F C K : Type 0} {hook : Hook F C K} {b : Bool} {c : Scope} (s : Span) {l : Tree F C K}
    {xs ys : List TokenAndSpan} {t : Tree F C K}
    → Follows hook (Level 7) (check b (take (λ a. check (is_in a.token) (read (Level 8) c (λ r.
    gives (bin_e (to s (span_of r)) binary.In l r)))))) xs ys t → is_operation t ≡ true
private-is s (held x (took (held i (part d gave)))) = refl

level-unary : {F C K : Type 0} {hook : Hook F C K} {k : ℕ} {c : Scope} {xs ys : List TokenAndSpan} {t : Tree F C K}
    → Reads hook (Level k) c xs ys t → is_operation t ≡ false → Reads hook Unary c xs ys t
level-unary (by exp-unary (part d gave)) n = d
level-unary (by exp-op (part d (took (held h (held x (part r gave)))))) n = absurd cc
level-unary (by (level-up b) (part d gave)) n = level-unary d n
level-unary {c = c} (by private-in (took {a = a} (held h (took {a = b} f)))) n =
    let (m, o, g) = given-held (any_name c b.token b.span) _ f in
    let y = private-is (to a.span m.at) g in
    absurd cc
level-unary {c = c} (by (bin-op b) (part {e = l} d (took {a = a} f))) n =
    let (op, o, g) = given-held (operator_here c a.token a.span) _ f in
    let y = bin-is op l g in
    absurd cc

-- the token of `**`
in-no-exp : (b : Bool) → (if b then Some binary.In else None) ≡ Some binary.Exp → ⊥
in-no-exp true h = cc
in-no-exp false h = cc

power-sign : (b : BinOpToken) → Some (operator_of b) ≡ Some binary.Exp → is_power (token.BinOp b) ≡ true
power-sign sign.Exp h = refl
power-sign b h = absurd cc

power-token : (c : Scope) (t : Token) → binary_of c.context t ≡ Some binary.Exp → is_power t ≡ true
power-token c (token.Word (word.Keyword keyword.In)) h = absurd (in-no-exp c.context.include_in_expr h)
power-token c (token.BinOp b) h = power-sign b h
power-token c t h = absurd cc

-- the operator `in`, where it is one
in-operator : (c : Context) (us : List TokenAndSpan) → c.include_in_expr ≡ true → at_token is_in (first us) ≡ true
    → operator_at c (first us) ≡ Some binary.In
in-operator c [] i h = absurd cc
in-operator c (t ∷ us) i h = by-token t.token h
  where
    by-token : (t : Token) → is_in t ≡ true → binary_where c.include_in_expr t ≡ Some binary.In
    by-token (token.Word (word.Keyword keyword.In)) h = rw i refl
    by-token t h = absurd cc

inj_op : (a b : BinaryOp) → Some a ≡ Some b → a ≡ b
inj_op a b h = ap (λ o. some_or o b) h
  where
    some_or : Option BinaryOp → BinaryOp → BinaryOp
    some_or None d = d
    some_or (Some x) d = x

not-in : {A : Type 0} → Some binary.Exp ≡ Some binary.In → A
not-in h = absurd cc

module _ {F C K : Type 0} (hook : Hook F C K)
    (hear-sound : (b : Body) (c : Scope) (ts : List TokenAndSpan) (v : Value F C K b) (us : List TokenAndSpan)
    → reading_of hook b c.context ts ≡ Some (v, us) → Hears hook b c ts v us)
    (p : Runs F C K)
    (ih : (k : Call F C K) (c : Scope) (ts : List TokenAndSpan) (r : Ans F C K k × List TokenAndSpan)
    → p k c ts ≡ Some r → Means hook k c ts r) where
  -- a right-hand side that is run is followed
  side-sound : {s : Symbol} (g : Option ℕ) (x : Side F C K s) (ts : List TokenAndSpan)
      (r : Answer F C K s × List TokenAndSpan) → exec hook p g (plan x) ts ≡ Some r → Follows hook s x ts r.1 r.0
  side-sound {s = s} g (gives a) ts r h = subst (λ v. Follows hook s (gives a) ts v.1 v.0) (inj (a, ts) r h) gave
  side-sound g never ts r h = cc
  side-sound g (take f) [] r h = cc
  side-sound g (take f) (t ∷ ts) r h = took (side-sound None (f t) ts r h)
  side-sound g (check b x) ts r h = let (y, h1) = only b h in held y (side-sound g x ts r h1)
  side-sound g (peek q x) ts r h = let (y, h1) = unless (sees q ts) h in calm y (side-sound g x ts r h1)
  side-sound g (peek_two q x) ts r h = let (y, h1) = unless (sees_two q ts) h in calm-two y (side-sound g x ts r h1)
  side-sound g (read s c f) ts r h =
      let (y, h1) = only (allowed g (rank_of s)) h in
      let (q, a, b) = then-ok (p (sym s) c ts) (λ e us. exec hook p g (plan (f e)) us) h1 in
      part (reads-of hook s c ts q (ih (sym s) c ts q a)) (side-sound g (f q.0) q.1 r b)
  side-sound {s = s} g (hear b c f) ts r h =
      let (q, a, lt, k) =
      hear-ok (reading_of hook b c.context ts) ts (λ v at us. exec hook p None (plan (f v at)) us) h in
      let w = hear-sound b c ts q.0 q.1 a in
      let same = ap whole_span (before-is w.own ts q.1 w.list) in
      heard w (subst (λ at. Follows hook s (f q.0 at) q.1 r.1 r.0) same (side-sound None (f q.0 _) q.1 r k))

  choice-sound : {s : Symbol} {c : Scope} (g : Option ℕ) (x : Choice F C K s c) (ts : List TokenAndSpan)
      (r : Answer F C K s × List TokenAndSpan) → exec hook p g (chosen x) ts ≡ Some r → Reads hook s c ts r.1 r.0
  choice-sound g none ts r h = cc
  choice-sound g (pick {r = x} q) ts r h = by q (side-sound g x ts r h)
  choice-sound g (pick_apart {r = x} q) ts r h = by q (side-sound g x ts r (apart-read hook p g (plan x) ts r h).0)

  -- a call that is last, and one with something after it
  last-sound : (g : Option ℕ) (k : Call F C K) (c : Scope) (ts : List TokenAndSpan)
      (r : Ans F C K k × List TokenAndSpan) → exec hook p g (read k c (λ v. gives v)) ts ≡ Some r → Means hook k c ts r
  last-sound g k c ts r h =
      let (y, h1) = only (allowed g (rank k)) h in
      let (q, a, b) = then-ok (p k c ts) (λ e us. exec hook p g (gives e) us) h1 in
      subst (λ v. Means hook k c ts v) (inj q r b) (ih k c ts q a)

  call-sound : {B : Type 0} (g : Option ℕ) (k : Call F C K) (c : Scope) (f : Ans F C K k → Plan F C K B)
      (ts : List TokenAndSpan)
      (r : B × List TokenAndSpan) → exec hook p g (read k c f) ts ≡ Some r
      → (q : Ans F C K k × List TokenAndSpan) × Means hook k c ts q × (exec hook p g (f q.0) q.1 ≡ Some r)
  call-sound g k c f ts r h =
      let (y, h1) = only (allowed g (rank k)) h in
      let (q, a, b) = then-ok (p k c ts) (λ e us. exec hook p g (f e) us) h1 in
      (q, ih k c ts q a, b)

  is-false : (b : Bool) → not b ≡ true → b ≡ false
  is-false true h = absurd cc
  is-false false h = refl

  -- After a left-hand side `++` or `--`; after operators the rest of a conditional, or of an assignment; after
  -- expressions a comma and one more.
  updates-sound : (c : Scope) (i : Bool) (l : Tree F C K) (xs ts : List TokenAndSpan)
      (r : Tree F C K × List TokenAndSpan)
      → at_token is_await (first xs) ≡ false → Reads hook (Lhs true) (with_head i c) xs ts l
      → exec hook p (Some 1) (step (updates l) c ts) ts ≡ Some r → Reads hook Unary (with_head i c) xs r.1 r.0
  updates-sound c i l xs ts r n d h = choose (no_update_at (first ts)) _ _
      (λ v. exec hook p (Some 1) v ts ≡ Some r) h
      (λ z k. subst (λ v. Reads hook Unary (with_head i c) xs v.1 v.0) (inj (l, ts) r k)
      (by unary-left (calm (sees-first is_await xs n) (part d gave))))
      (λ z k. by update-postfix
      (calm (sees-first is_await xs n) (part d (side-sound (Some 1) (update_tail c l) ts r k))))

  writes-sound : (c : Scope) (e : Tree F C K) (xs ts : List TokenAndSpan) (r : Tree F C K × List TokenAndSpan)
      → Reads hook Unary (at_head c) xs ts e → exec hook p (Some 1) (plan (writes_tail c e)) ts ≡ Some r
      → Reads hook Assign c xs r.1 r.0
  writes-sound c e xs ts r d h = choose (is_pattern e) _ _ (λ v. exec hook p (Some 1) (plan v) ts ≡ Some r) h
      (λ z k. by assign-pattern (part d (side-sound (Some 1) (pattern_tail c e) ts r k)))
      (λ z k. by assign-expr (part d (side-sound (Some 1) (assign_tail c e) ts r k)))

  defaults-sound : (c : Scope) (e : Tree F C K) (xs ts : List TokenAndSpan) (r : Tree F C K × List TokenAndSpan)
      → Reads hook Pat c xs ts e → exec hook p (Some 1) (step (defaults e) c ts) ts ≡ Some r
      → Reads hook Element c xs r.1 r.0
  defaults-sound c e xs ts r d h = choose (at_token is_equals (first ts)) _ _
      (λ v. exec hook p (Some 1) v ts ≡ Some r) h
      (λ z k. by element-default (part d (side-sound (Some 1) (default_tail c e) ts r k)))
      (λ z k. subst (λ v. Reads hook Element c xs v.1 v.0) (inj (e, ts) r k) (by element-pat (part d gave)))

  assigns-sound : (c : Scope) (e : Tree F C K) (xs ts : List TokenAndSpan) (r : Tree F C K × List TokenAndSpan)
      → Reads hook (Level 1) (at_head c) xs ts e → exec hook p (Some 1) (step (assigns e) c ts) ts ≡ Some r
      → Reads hook Assign c xs r.1 r.0
  assigns-sound c e xs ts r d h = choose (at_token is_question (first ts)) _ _
      (λ v. exec hook p (Some 1) v ts ≡ Some r) h
      (λ z k. by cond-expr (part d (side-sound (Some 1) (cond_tail c e) ts r k)))
      (λ z k. choose (at_token is_assign (first ts) && not (is_operation e)) _ _
      (λ v. exec hook p (Some 1) v ts ≡ Some r) k
      (λ y j. let (w, n) = both (at_token is_assign (first ts)) (not (is_operation e)) y in
      writes-sound c e xs ts r (level-unary d (is-false (is_operation e) n)) j)
      (λ y j. subst (λ v. Reads hook Assign c xs v.1 v.0) (inj (e, ts) r j) (by assign-level (part d gave))))

  seqs-sound : (c : Scope) (es : Trees F C K) (t : Tree F C K) (xs ts : List TokenAndSpan)
      (r : Tree F C K × List TokenAndSpan) → items_of t ≡ es → Reads hook Exprs c xs ts t
      → exec hook p (Some 1) (step (seqs es) c ts) ts ≡ Some r → Reads hook Expr c xs r.1 r.0
  seqs-sound c es t xs ts r i d h = choose (at_token is_comma (first ts)) _ _
      (λ v. exec hook p (Some 1) v ts ≡ Some r) h
      (λ z k. one-more ts d k)
      (λ z k. subst (λ v. Reads hook Expr c xs v.1 v.0) (inj (seq_of es, ts) r k)
      (subst (λ v. Reads hook Expr c xs ts (seq_of v)) i (by seq-expr (part d gave))))
    where
      one-more : (us : List TokenAndSpan) → Reads hook Exprs c xs us t
          → exec hook p (Some 1) (exprs_tail c es) us ≡ Some r → Reads hook Expr c xs r.1 r.0
      one-more [] d k = cc
      one-more (a ∷ us) d k =
          let behind : Tree F C K → Plan F C K (Tree F C K) = λ x. read (seqs (items_of x)) c (λ v. gives v) in
          let (u, w, j) =
          then-ok (exec hook p None (plan (exprs_next c es a)) us) (λ x vs. exec hook p None (behind x) vs)
          (sym_path (bind hook p (plan (exprs_next c es a)) behind us) ∙ k) in
          let more = side-sound None (exprs_next c es a) us u w in
          last-sound None (seqs (items_of u.0)) c u.1 r j xs u.0 refl
          (by exprs-more (part d (took (subst (λ v. Follows hook Exprs (exprs_next c v a) us u.1 u.0)
          (sym_path i) more))))

  -- an expression, an assignment expression, and a unary one, from their first token on
  expr-sound : (c : Scope) (ts : List TokenAndSpan) (r : Tree F C K × List TokenAndSpan)
      → exec hook p (Some 15) (expr c) ts ≡ Some r → Reads hook Expr c ts r.1 r.0
  expr-sound c ts r h =
      let (q, e, k) =
      call-sound (Some 15) (sym Assign) c (λ e. read (seqs (cons e nil)) c (λ v. gives v)) ts r h in
      last-sound (Some 15) (seqs (cons q.0 nil)) c q.1 r k ts (exprs_e (cons q.0 nil)) refl (by exprs-one (part e gave))

  -- a list in parentheses, and what is after it
  params-held : (c : Scope) (a : TokenAndSpan) (es : Tree F C K) (ps : Trees F C K) (xs ts : List TokenAndSpan)
      {ys : List TokenAndSpan} {t : Tree F C K} → is_lparen a.token ≡ true → as_params es ≡ Some ps
      → Reads hook (Args false) (with_in c) xs ts es → Follows hook Assign (check (arrow_params_ok c.context ps)
      (arrow_tail c (listed None (to a.span (span_of es)) ps))) ts ys t → Reads hook Assign c (a ∷ xs) ys t
  params-held c a es ps xs ts y e d (held j w) =
      by arrow-params (part (by covered-params
      (took (held y (part d (follows-given (as_params es) _ ps e (held j gave)))))) w)

  -- a primary expression at the head, and what is after it
  behind-sound : (c : Scope) (l0 : Tree F C K) (xs ts : List TokenAndSpan) (r : Tree F C K × List TokenAndSpan)
      → at_token is_await (first xs) ≡ false → Reads hook Primary (at_head c) xs ts l0
      → exec hook p (Some 2) (behind_base c l0) ts ≡ Some r → Reads hook Assign c xs r.1 r.0
  behind-sound c l0 xs ts r y d h =
      let e = inner c in
      let (q, m, h2) = call-sound (Some 2) (links true l0) e (λ l. read (updates l) e (λ u. read (climb u 0) e
      (λ k. read (assigns k) c (λ v. gives v)))) ts r h in
      let (u, n, h3) =
      call-sound (Some 2) (updates q.0) e (λ u. read (climb u 0) e (λ k. read (assigns k) c (λ v. gives v))) q.1 r h2 in
      let (k, o, h4) = call-sound (Some 2) (climb u.0 0) e (λ k. read (assigns k) c (λ v. gives v)) u.1 r h3 in
      let base : Reads hook (Left true) (at_head c) xs ts l0 =
      by left-base (part (by base-primary (part d gave)) gave) in
      let w = n true xs y (by lhs-left (part (m true xs base) gave)) in
      let (x, b) = o (omega arith) true xs (alone w) in
      last-sound (Some 2) (assigns k.0) c k.1 r h4 xs x

  paren-no-await : (t : Token) → is_lparen t ≡ true → is_await t ≡ false
  paren-no-await t h = rw (lparen-is t h) refl

  paren-sound : (c : Scope) (a : TokenAndSpan) (es : Tree F C K) (xs ts : List TokenAndSpan)
      (r : Tree F C K × List TokenAndSpan) → is_lparen a.token ≡ true → Reads hook (Args false) (with_in c) xs ts es
      → exec hook p (Some 2) (paren_tail c a.span es) ts ≡ Some r → Reads hook Assign c (a ∷ xs) r.1 r.0
  paren-sound c a es xs ts r y d h =
      let (ok, h1) = only (paren_ok c.syntax.pedantic es) h in
      behind-sound c _ (a ∷ xs) ts r (paren-no-await a.token y)
      (by paren-expr (took (held y (part d (held ok gave))))) h1

  parens-sound : (c : Scope) (a : TokenAndSpan) (es : Tree F C K) (xs ts : List TokenAndSpan)
      (r : Tree F C K × List TokenAndSpan) → is_lparen a.token ≡ true → Reads hook (Args false) (with_in c) xs ts es
      → exec hook p (Some 2) (step (parens a.span es) c ts) ts ≡ Some r → Reads hook Assign c (a ∷ xs) r.1 r.0
  parens-sound c a es xs ts r y d h = choose (at_token is_arrow (first ts)) _ _
      (λ v. exec hook p (Some 2) v ts ≡ Some r) h
      (λ z k. let (ps, e, g) = given-held (as_params es) _
      (side-sound (Some 2) (arrow_params_tail c a.span es) ts r k) in
      params-held c a es ps xs ts y e d g)
      (λ z k. paren-sound c a es xs ts r y d k)

  listed-sound : (c : Scope) (ts : List TokenAndSpan) (r : Tree F C K × List TokenAndSpan)
      → at_token is_lparen (first ts) ≡ true → exec hook p (Some 14) (listed_head c) ts ≡ Some r
      → Reads hook Assign c ts r.1 r.0
  listed-sound c [] r z h = cc
  listed-sound c (t ∷ us) r z h =
      let (q, e, k) =
      call-sound None (sym (Args false)) (with_in c) (λ es. read (parens t.span es) c (λ v. gives v)) us r h in
      last-sound None (parens t.span q.0) c q.1 r k t us z refl e

  -- the same after `async`
  async-params-held : (c : Scope) (n : Spelling) (a b : TokenAndSpan) (es : Tree F C K) (ps : Trees F C K)
      (xs ts : List TokenAndSpan)
      {ys : List TokenAndSpan} {t : Tree F C K} → async_name c a.token a.span ≡ Some n → not b.had_line_break ≡ true
      → is_lparen b.token ≡ true → as_params es ≡ Some ps → Reads hook (Args false) (with_in c) xs ts es
      → Follows hook Assign (check (arrow_params_ok c.context ps) (async_arrow_tail c n (listed None n.at ps))) ts ys t
      → Reads hook Assign c (a ∷ (b ∷ xs)) ys t
  async-params-held c n a b es ps xs ts i l y e d (held j w) =
      by arrow-async-params (took (follows-given (async_name c a.token a.span) _ n i (calm (is-false b.had_line_break l)
      (part (by covered-params (took (held y (part d (follows-given (as_params es) _ ps e (held j gave)))))) w))))

  async-no-await : (t : Token) → is_async_word t ≡ true → is_await t ≡ false
  async-no-await (token.Word (word.Ident w)) h = refl
  async-no-await t h = absurd cc

  asyncs-sound : (c : Scope) (n : Spelling) (a b : TokenAndSpan) (es : Tree F C K) (xs ts : List TokenAndSpan)
      (r : Tree F C K × List TokenAndSpan) → async_name c a.token a.span ≡ Some n → not b.had_line_break ≡ true
      → is_lparen b.token ≡ true → Reads hook (Args false) (with_in c) xs ts es
      → exec hook p (Some 2) (step (asyncs n es) c ts) ts ≡ Some r → Reads hook Assign c (a ∷ (b ∷ xs)) r.1 r.0
  asyncs-sound c n a b es xs ts r i l y d h = choose (at_token is_arrow (first ts)) _ _
      (λ v. exec hook p (Some 2) v ts ≡ Some r) h
      (λ z k. let (ps, e, g) = given-held (as_params es) _ (side-sound (Some 2) (async_params_tail c n es) ts r k) in
      async-params-held c n a b es ps xs ts i l y e d g)
      (λ z k. let (ok, h1) = only (covers_ok c.syntax.pedantic es) k in
      behind-sound c _ (a ∷ (b ∷ xs)) ts r (async-no-await a.token (async-token c a.token a.span n i))
      (by async-call (took (follows-given (async_name c a.token a.span) _ n i (held refl (took (held l (held y
      (part d (held ok gave)))))))))
      h1)

  given-exec : {A B : Type 0} (g : Option ℕ) (o : Option A) (k : A → Plan F C K B) (ts : List TokenAndSpan)
      {r : B × List TokenAndSpan} → exec hook p g (given o >>= k) ts ≡ Some r
      → (x : A) × (o ≡ Some x) × (exec hook p g (k x) ts ≡ Some r)
  given-exec g None k ts h = cc
  given-exec g (Some x) k ts h = (x, refl, h)

  async-sound : (c : Scope) (ts : List TokenAndSpan) (r : Tree F C K × List TokenAndSpan)
      → exec hook p (Some 14) (async_head c) ts ≡ Some r → Reads hook Assign c ts r.1 r.0
  async-sound c [] r h = cc
  async-sound c (a ∷ []) r h = let (n, i, k) = given-exec None (async_name c a.token a.span) _ [] h in cc
  async-sound c (a ∷ (b ∷ us)) r h =
      let (n, i, k) = given-exec None (async_name c a.token a.span) _ (b ∷ us) h in
      let (l, k1) = only (not b.had_line_break) k in
      let (y, k2) = only (is_lparen b.token) k1 in
      let (q, e, k3) =
      call-sound None (sym (Args false)) (with_in c) (λ es. read (asyncs n es) c (λ v. gives v)) us r k2 in
      last-sound None (asyncs n q.0) c q.1 r k3 a b us i l y e

  assign-sound : (c : Scope) (ts : List TokenAndSpan) (r : Tree F C K × List TokenAndSpan)
      → exec hook p (Some 14) (assign c ts) ts ≡ Some r → Reads hook Assign c ts r.1 r.0
  assign-sound c ts r h = choose (begins_yield c ts) _ _ (λ v. exec hook p (Some 14) v ts ≡ Some r) h
      (λ z k. choice-sound (Some 14) (yield_by c (second ts)) ts r k)
      (λ z k. choose (begins_arrow c ts) _ _ (λ v. exec hook p (Some 14) v ts ≡ Some r) k
      (λ y j. choice-sound (Some 14) (pick (arrow-name {c = c})) ts r j)
      (λ y j. choose (at_token is_lparen (first ts)) _ _ (λ v. exec hook p (Some 14) v ts ≡ Some r) j
      (λ x i. listed-sound c ts r x i)
      (λ x i. choose (begins_async_name c ts) _ _ (λ v. exec hook p (Some 14) v ts ≡ Some r) i
      (λ w g. choice-sound (Some 14) (pick (arrow-async-name {c = c})) ts r g)
      (λ w g. choose (begins_async_list ts) _ _ (λ v. exec hook p (Some 14) v ts ≡ Some r) g
      (λ q f. async-sound c ts r f)
      (λ q f. other-sound f)))))
    where
      other-sound : exec hook p (Some 14) (if at_token no_error (first ts) then assigned c else never) ts ≡ Some r
          → Reads hook Assign c ts r.1 r.0
      other-sound k = choose (at_token no_error (first ts)) _ _ (λ v. exec hook p (Some 14) v ts ≡ Some r) k
          (λ y j.
          let (q, e, i) =
          call-sound (Some 14) (sym (Level 1)) (at_head c) (λ e. read (assigns e) c (λ v. gives v)) ts r j in
          last-sound (Some 14) (assigns q.0) c q.1 r i ts e.0)
          (λ y j. absurd cc)

  unary-sound : (c : Scope) (ts : List TokenAndSpan) (r : Tree F C K × List TokenAndSpan)
      → exec hook p (Some 11) (unary c ts) ts ≡ Some r → Reads hook Unary c ts r.1 r.0
  unary-sound c ts r h = choose (at_token is_update (first ts)) _ _ (λ v. exec hook p (Some 11) v ts ≡ Some r) h
      (λ z k. choice-sound (Some 11) (pick (update-prefix {c = c})) ts r k)
      (λ z k. choose (at_token is_await (first ts)) _ _ (λ v. exec hook p (Some 11) v ts ≡ Some r) k
      (λ y j. choice-sound (Some 11) (await_by c (second ts)) ts r j)
      (λ y j. by-op (prefix_at (first ts)) y j))
    where
      by-op : (o : Option UnaryOp) → at_token is_await (first ts) ≡ false
          → exec hook p (Some 11) (unary_by c o) ts ≡ Some r → Reads hook Unary c ts r.1 r.0
      by-op (Some op) y j = choice-sound (Some 11) (pick (unary-op {c = c})) ts r j
      by-op None y j =
          let (q, e, k) =
          call-sound (Some 11) (sym (Lhs true)) c (λ l. read (updates l) (inner c) (λ v. gives v)) ts r j in
          last-sound (Some 11) (updates q.0) (inner c) q.1 r k c.head ts y (side-read hook e)

  -- a link, and what is after it
  link-sound : {b : Bool} {c : Scope} (i : Bool) (g : Option ℕ) (x : Link F C K b c) (l : Tree F C K)
      (xs ts : List TokenAndSpan) (r : Tree F C K × List TokenAndSpan)
      → Reads hook (Left b) (with_head i c) xs ts l → exec hook p g (linked x l) ts ≡ Some r
      → Reads hook (Left b) (with_head i c) xs r.1 r.0
  link-sound {b = b} {c = c} i g no_more l xs ts r d h =
      subst (λ v. Reads hook (Left b) (with_head i c) xs v.1 v.0) (inj (l, ts) r h) d
  link-sound i g (more q) l xs [] r d h = cc
  link-sound {b = b} {c = c} i g (more {f = f} q) l xs (t ∷ ts) r d h =
      let (u, a, k) = then-ok (exec hook p None (plan (f l t)) ts) _ (sym_path (bind hook p (plan (f l t)) _ ts) ∙ h) in
      last-sound None (links b u.0) c u.1 r k i xs (by (q i) (part d (took (side-sound None (f l t) ts u a))))

  -- what a left-hand side begins with, and its links
  base-sound : (b : Bool) (c : Scope) (ts : List TokenAndSpan) (r : Tree F C K × List TokenAndSpan)
      → exec hook p (Some 10) (read (sym (Base b)) c (λ e. read (links b e) (inner c) (λ v. gives v))) ts ≡ Some r
      → Reads hook (Left b) c ts r.1 r.0
  base-sound b c ts r h =
      let (q, e, k) = call-sound (Some 10) (sym (Base b)) c (λ e. read (links b e) (inner c) (λ v. gives v)) ts r h in
      last-sound (Some 10) (links b q.0) (inner c) q.1 r k c.head ts (by left-base (part e gave))

  -- after `new` and what it constructs
  constructs-sound : (g : Option ℕ) (b : Bool) (c : Scope) (i : Bool) (a : TokenAndSpan) (s : Span) (l : Tree F C K)
      (xs ts : List TokenAndSpan) (r : Tree F C K × List TokenAndSpan) → is_new a.token ≡ true → a.span ≡ s
      → not (is_chain l) ≡ true → Sided hook false (inner c) xs ts l
      → exec hook p g (step (constructs b s l) c ts) ts ≡ Some r → Sided hook b (with_head i c) (a ∷ xs) r.1 r.0
  constructs-sound g b c i a s l xs ts r y at n d h = choose (at_token is_lparen (first ts)) _ _
      (λ v. exec hook p g v ts ≡ Some r) h
      (λ z k. with-args ts z d k)
      (λ z k. without z k)
    where
      without : at_token is_lparen (first ts) ≡ false
          → exec hook p g (gives (bare_new_e (to s (span_of l)) l)) ts ≡ Some r
          → Sided hook b (with_head i c) (a ∷ xs) r.1 r.0
      without z k =
          subst (λ v. Sided hook b (with_head i c) (a ∷ xs) v.1 v.0) (inj (bare_new_e (to s (span_of l)) l, ts) r k)
          (subst (λ v. Sided hook b (with_head i c) (a ∷ xs) ts (bare_new_e (to v (span_of l)) l)) at
          (bare-side z (by new-bare (took (held y (part (side-read hook d) (held n gave)))))))

      linked-only : (us : List TokenAndSpan) → at_token is_lparen (first us) ≡ true → Sided hook false (inner c) xs us l
          → Reads hook (Left false) (inner c) xs us l
      linked-only us z (linked-side e) = e
      linked-only us z (bare-side w e) = cc

      with-args : (us : List TokenAndSpan) → at_token is_lparen (first us) ≡ true → Sided hook false (inner c) xs us l
          → exec hook p g (constructed_with b s l c) us ≡ Some r → Sided hook b (with_head i c) (a ∷ xs) r.1 r.0
      with-args [] z d k = cc
      with-args (t ∷ us) z d k =
          let (q, e, k1) = call-sound None (sym (Args false)) (with_in c)
          (λ es. read (links b (new_e (to s (span_of es)) l (items_of es))) c (λ v. gives v)) us r k in
          linked-side (last-sound None (links b (new_e (to s (span_of q.0)) l (items_of q.0))) c q.1 r k1 i (a ∷ xs)
          (subst (λ v. Reads hook (Left b) (with_head i c) (a ∷ xs) q.1
          (new_e (to v (span_of q.0)) l (items_of q.0))) at
          (by left-new (took (held y (part (linked-only (t ∷ us) z d) (held n (took (held z (part e gave))))))))))

  lhs-sound : (b : Bool) (c : Scope) (ts : List TokenAndSpan) (r : Tree F C K × List TokenAndSpan)
      → exec hook p (Some 10) (lhs b c ts) ts ≡ Some r → Sided hook b c ts r.1 r.0
  lhs-sound b c ts r h = choose (begins_new ts) _ _ (λ v. exec hook p (Some 10) v ts ≡ Some r) h
      (λ z k. constructed-sound ts z k)
      (λ z k. linked-side (base-sound b c ts r k))
    where
      constructed-sound : (us : List TokenAndSpan) → begins_new us ≡ true
          → exec hook p (Some 10) (constructed b c) us ≡ Some r → Sided hook b c us r.1 r.0
      constructed-sound [] z k = cc
      constructed-sound (t ∷ us) z k =
          let (y, w) = both (is_new t.token) _ z in
          let (q, e, k1) = call-sound None (sym (Lhs false)) (inner c)
          (λ l. check (not (is_chain l)) (read (constructs b t.span l) (inner c) (λ v. gives v))) us r k in
          let (n, k2) = only (not (is_chain q.0)) k1 in
          last-sound None (constructs b t.span q.0) (inner c) q.1 r k2 c.head t us y refl n e

  given-follows : {s : Symbol} {A : Type 0} (o : Option A) (k : A → Side F C K s) (x : A) {xs ys : List TokenAndSpan}
      {t : Answer F C K s} → o ≡ Some x → Follows hook s (k x) xs ys t → Follows hook s (given o >>= k) xs ys t
  given-follows o k x h d = rw h d

  -- an operator below `**`, and its node at its own level, at which its left operand is read
  joins-sound : (c : Scope) (op : BinaryOp) (l e : Tree F C K) (t : TokenAndSpan) (xs ts ys : List TokenAndSpan)
      → precedence_of op ≤ 10 → binary_of c.context t.token ≡ Some op → nullish_ok op l e ≡ true
      → logical_ok op l ≡ true → Reads hook (Level (precedence_of op)) c xs (t ∷ ts) l
      → Reads hook (Level (suc (min_right op))) (inner c) ts ys e
      → Reads hook (Level (precedence_of op)) c xs ys (bin_e (to (span_of l) (span_of e)) op l e)
  joins-sound c op l e t xs ts ys small at n g left right =
      let above = subst (λ v. Reads hook (Level (suc v)) (inner c) ts ys e) (min-right-same op small) right in
      let level : IsTrue (nat_eq (precedence_of op) (precedence_of op)) = eq-eqb (precedence_of op)
      (precedence_of op) refl in
      by (bin-op (lt-ltb (precedence_of op) 11 (omega arith)))
      (part left (took (given-follows (binary_of c.context t.token) _ op at
      (held level (part above (held n (held g gave)))))))

  -- one operator, and its node at its own level
  node-sound : (c : Scope) (op : BinaryOp) (l e : Tree F C K) (m : ℕ) (t : TokenAndSpan)
      (xs ts ys : List TokenAndSpan)
      → binary_of c.context t.token ≡ Some op → exp_ok op l ≡ true → nullish_ok op l e ≡ true → logical_ok op l ≡ true
      → OnLeft hook c m xs (t ∷ ts) l → Reads hook (Level (suc (min_right op))) (inner c) ts ys e
      → Reads hook (Level (precedence_of op)) c xs ys (bin_e (to (span_of l) (span_of e)) op l e)
  node-sound c binary.Exp l e m t xs ts ys at x n g (alone d) right =
      by exp-op (part d (took (held (power-token c t.token at) (held x (part right gave)))))
  node-sound c binary.Exp l e m t xs ts ys at x n g (node h low top d bound ten) right =
      let le = ten binary.Exp at in absurd (omega arith)
  node-sound c binary.Exp l e m t xs ts ys at x n g (named low o f) right = not-in (sym_path at ∙ o)
  node-sound c op l e m t xs ts ys at x n g (named low o f) right =
      subst (λ v. Reads hook (Level (suc (min_right v))) (inner c) ts ys e
      → Reads hook (Level (precedence_of v)) c xs ys (bin_e (to (span_of l) (span_of e)) v l e))
      (sym_path (inj_op op binary.In (sym_path at ∙ o))) (λ r. f t ts ys e refl r) right
  node-sound c op l e m t xs ts ys at x n g (alone d) right =
      joins-sound c op l e t xs ts ys (omega arith) at n g
      (lift (precedence_of op) 11 (omega arith) (omega arith) (by exp-unary (part d gave))) right
  node-sound c op l e m t xs ts ys at x n g (node h low top d bound ten) right =
      joins-sound c op l e t xs ts ys (omega arith) at n g (lift (precedence_of op) h (bound op at) top d) right

  stopped-sound : (c : Scope) (i : Bool) (g : Option ℕ) (l : Tree F C K) (m : ℕ) (xs ts : List TokenAndSpan)
      (r : Tree F C K × List TokenAndSpan)
      → m ≤ 10 → OnLeft hook (with_head i c) m xs ts l → Bound c m ts → exec hook p g (check (left_ok l) (gives l)) ts
      ≡ Some r → Reads hook (Level (suc m)) (with_head i c) xs r.1 r.0 × Bound c m r.1
  stopped-sound c i g l m xs ts r small d b h =
      subst (λ v. Reads hook (Level (suc m)) (with_head i c) xs v.1 v.0 × Bound c m v.1)
      (inj (l, ts) r (only (left_ok l) h).1)
      (lowered d, b)
    where
      lowered : OnLeft hook (with_head i c) m xs ts l → Reads hook (Level (suc m)) (with_head i c) xs ts l
      lowered (alone d) = lift (suc m) 11 (omega arith) (omega arith) (by exp-unary (part d gave))
      lowered (node h low top d bound ten) = lift (suc m) h low top d
      lowered (named low o f) = let le = b binary.In o in absurd (omega arith)

  turn-sound : (c : Scope) (i : Bool) (g : Option ℕ) (o : Option BinaryOp) (l : Tree F C K) (m : ℕ)
      (xs ts : List TokenAndSpan)
      (r : Tree F C K × List TokenAndSpan) → m ≤ 10 → OnLeft hook (with_head i c) m xs ts l
      → operator_at c.context (first ts) ≡ o → exec hook p g (turn o l m c >>= (λ q. turned q.0 q.1 c)) ts ≡ Some r
      → Reads hook (Level (suc m)) (with_head i c) xs r.1 r.0 × Bound c m r.1
  turn-sound c i g None l m xs ts r small d at h = stopped-sound c i g l m xs ts r small d (bound-none c m ts at) h
  turn-sound c i g (Some op) l m xs [] r small d at h = cc
  turn-sound c i g (Some op) l m xs (t ∷ ts) r small d at h = choose (nat_le (precedence_of op) m) _ _
      (λ v. exec hook p g (v >>= (λ q. turned q.0 q.1 c)) (t ∷ ts) ≡ Some r) h
      (λ y h1. stopped-sound c i g l m xs (t ∷ ts) r small d
      (bound-some c m (t ∷ ts) op at (leb-true (precedence_of op) m y)) h1)
      (λ y h1.
      let above = leb-false (precedence_of op) m y in
      let (x, h2) = only (exp_ok op l) h1 in
      let (q, a, h3) = then-ok (p (sym (Level (suc (min_right op)))) (inner c) ts) _ h2 in
      let (n, h4) = only (nullish_ok op l q.0) h3 in
      let (f, h5) = only (logical_ok op l) h4 in
      let (right, bound) = ih (sym (Level (suc (min_right op)))) (inner c) ts q a in
      let whole = node-sound (with_head i c) op l q.0 m t xs ts q.1 at x n f d right in
      let (low, ten) = right-low op in
      let own : Bound c (precedence_of op) q.1 = bound-above c (min_right op) (precedence_of op) q.1 low bound in
      let below : Bound c 10 q.1 = bound-above c (min_right op) 10 q.1 ten bound in
      last-sound None (climb (bin_e (to (span_of l) (span_of q.0)) op l q.0) m) c q.1 r h5 small i xs
      (node (precedence_of op) above (below-exp op) whole own below))

  -- `#` and a name before `in`, and operators after them
  private-sound : (c : Scope) (m : ℕ) (ts : List TokenAndSpan) (r : Tree F C K × List TokenAndSpan)
      → begins_private (nat_lt m 7) c ts ≡ true
      → exec hook p (Some 12) (private_operand c >>= (λ e. read (climb e m) (inner c) (λ v. gives v))) ts ≡ Some r
      → Reads hook (Level (suc m)) c ts r.1 r.0 × Bound c m r.1
  private-sound c m [] r z h = cc
  private-sound c m (a ∷ []) r z h = let (y, h1) = only (is_hash a.token) h in cc
  private-sound c m (a ∷ (b ∷ us)) r z h =
      let (w, z1) = both (is_hash a.token) _ z in
      let (lt, z2) = both (nat_lt m 7) _ z1 in
      let (x, i) = both c.syntax.pedantic _ z2 in
      let low = ltb-true m 7 lt in
      let (y, h1) = only (is_hash a.token) h in
      let k1 : Spelling → Plan F C K (Tree F C K) =
      λ n. check (private_ok c a.span n.at) (gives (private_e (to a.span n.at) n.text)) in
      let k2 : Tree F C K → Plan F C K (Tree F C K) = λ e. read (climb e m) (inner c) (λ v. gives v) in
      let (q, g1, g2) = then-ok (exec hook p None (given (any_name c b.token b.span) >>= k1) us)
      (λ e vs. exec hook p None (k2 e) vs)
      (sym_path (bind hook p (given (any_name c b.token b.span) >>= k1) k2 us) ∙ h1) in
      let (n, o, h2) = given-exec None (any_name c b.token b.span) k1 us g1 in
      let (j, h3) = only (private_ok c a.span n.at) h2 in
      let h4 : exec hook p None (k2 (private_e (to a.span n.at) n.text)) us ≡ Some r =
      subst (λ v. exec hook p None (k2 v.0) v.1 ≡ Some r)
      (sym_path (inj (private_e (to a.span n.at) n.text, us) q h3)) g2 in
      let (u, j1) = both c.syntax.pedantic _ j in
      let (v, j2) = both c.context.include_in_expr _ j1 in
      last-sound None (climb (private_e (to a.span n.at) n.text) m) (inner c) us r h4 (omega arith) c.head
      (a ∷ (b ∷ us)) (named low (in-operator c.context us v i)
      (λ g vs ys e l d. by private-in (took (held y (took (follows-given (any_name c b.token b.span) _ n o
      (held j (subst (λ q. Follows hook (Level 7) (take (λ g. check (is_in g.token) (read (Level 8) (inner c)
      (λ f. gives (bin_e (to (to a.span n.at) (span_of f)) binary.In (private_e (to a.span n.at) n.text) f))))) q ys
      (bin_e (to (to a.span n.at) (span_of e)) binary.In (private_e (to a.span n.at) n.text) e)) (sym_path l)
      (took (held (subst (λ q. at_token is_in (first q) ≡ true) l i) (part d gave)))))))))))

  step-sound : (k : Call F C K) (c : Scope) (ts : List TokenAndSpan) (r : Ans F C K k × List TokenAndSpan)
      → exec hook p (Some (rank k)) (step k c ts) ts ≡ Some r → Means hook k c ts r
  step-sound (sym Expr) c ts r h = expr-sound c ts r h
  step-sound (sym Exprs) c ts r h = cc
  step-sound (sym Assign) c ts r h = assign-sound c ts r h
  step-sound (sym (Level zero)) c ts r h = cc
  step-sound (sym (Level (suc m))) c ts r h = choose (begins_private (nat_lt m 7) c ts) _ _
      (λ v. exec hook p (Some 12) v ts ≡ Some r) h
      (λ z k. private-sound c m ts r z k)
      (λ z k. let (y, h1) = only (nat_le m 10) k in
      let (q, a, b) = call-sound (Some 12) (sym Unary) c (λ e. read (climb e m) (inner c) (λ v. gives v)) ts r h1 in
      last-sound (Some 12) (climb q.0 m) (inner c) q.1 r b (leb-true m 10 y) c.head ts (alone a))
  step-sound (sym Unary) c ts r h = unary-sound c ts r h
  step-sound (sym (Lhs b)) c ts r h = lhs-sound b c ts r h
  step-sound (sym (Left b)) c ts r h = cc
  step-sound (sym (Base b)) c ts r h = choice-sound (Some 9) (base b c ts) ts r h
  step-sound (sym (Arguments i)) c ts r h = choice-sound (Some 9) (call_args i c ts) ts r h
  step-sound (sym (Args i)) c ts r h = choice-sound (Some 17) (args i c ts) ts r h
  step-sound (sym (ArgsTail i)) c ts r h = choice-sound (Some 5) (args_tail i c ts) ts r h
  step-sound (sym Primary) c ts r h = choice-sound (Some 8) (primary c ts) ts r h
  step-sound (sym Literal) c ts r h = choice-sound (Some 6) (literal c ts) ts r h
  step-sound (sym (Template is_tagged)) c ts r h = choice-sound (Some 6) (tpl is_tagged c ts) ts r h
  step-sound (sym (Parts is_tagged)) c ts r h = choice-sound (Some 6) (parts is_tagged c ts) ts r h
  step-sound (sym Elements) c ts r h = choice-sound (Some 17) (elements c ts) ts r h
  step-sound (sym ElementsTail) c ts r h = choice-sound (Some 5) (elements_tail c ts) ts r h
  step-sound (sym Item) c ts r h = choice-sound (Some 16) (item c ts) ts r h
  step-sound (sym Props) c ts r h = choice-sound (Some 5) (props c ts) ts r h
  step-sound (sym PropsTail) c ts r h = choice-sound (Some 2) (props_tail c ts) ts r h
  step-sound (sym Prop) c ts r h = choice-sound (Some 4) (prop c ts) ts r h
  step-sound (sym Key) c ts r h = choice-sound (Some 3) (key c ts) ts r h
  step-sound (sym AfterKey) c ts r h = choice-sound (Some 3) (after_key c ts) ts r h
  step-sound (sym (Shell is_async is_generator)) c ts r h =
      choice-sound (Some 2) (shell is_async is_generator c ts) ts r h
  step-sound (sym Pat) c ts r h = choice-sound (Some 2) (pat c ts) ts r h
  step-sound (sym Element) c ts r h =
      let (q, a, b) = call-sound (Some 3) (sym Pat) c (λ e. read (defaults e) c (λ v. gives v)) ts r h in
      last-sound (Some 3) (defaults q.0) c q.1 r b ts a
  step-sound (sym Rest) c ts r h = choice-sound (Some 2) (pick pat-rest) ts r h
  step-sound (sym PatElements) c ts r h = choice-sound (Some 4) (pat_elements c ts) ts r h
  step-sound (sym PatElementsTail) c ts r h = choice-sound (Some 2) (pat_tail c ts) ts r h
  step-sound (sym PatProps) c ts r h = choice-sound (Some 5) (pat_props c ts) ts r h
  step-sound (sym PatPropsTail) c ts r h = choice-sound (Some 2) (pat_props_tail c ts) ts r h
  step-sound (sym PatProp) c ts r h = choice-sound (Some 4) (pat_prop c ts) ts r h
  step-sound (sym Params) c ts r h = choice-sound (Some 4) (params c ts) ts r h
  step-sound (sym ParamsTail) c ts r h = choice-sound (Some 2) (params_tail c ts) ts r h
  step-sound (sym ArrowParams) c ts r h = choice-sound (Some 2) (pick covered-params) ts r h
  step-sound (sym (ArrowBody is_async)) c ts r h = choice-sound (Some 15) (arrow_block is_async c ts) ts r h
  step-sound (parens s es) c ts r h = λ a xs y at d.
      parens-sound c a es xs ts r y d
      (subst (λ v. exec hook p (Some 2) (step (parens v es) c ts) ts ≡ Some r) (sym_path at) h)
  step-sound (asyncs n es) c ts r h = λ a b xs i l y d. asyncs-sound c n a b es xs ts r i l y d h
  step-sound (defaults e) c ts r h = λ xs d. defaults-sound c e xs ts r d h
  step-sound (constructs b s l) c ts r h = λ i a xs y at n d. constructs-sound (Some 1) b c i a s l xs ts r y at n d h
  step-sound (links b l) c ts r h = λ i xs d. link-sound i (Some 1) (link b c ts) l xs ts r d h
  step-sound (updates l) c ts r h = λ i xs n d. updates-sound c i l xs ts r n d h
  step-sound (assigns e) c ts r h = λ xs d. assigns-sound c e xs ts r d h
  step-sound (seqs es) c ts r h = λ xs t i d. seqs-sound c es t xs ts r i d h
  step-sound (climb l m) c ts r h =
      λ small i xs d. turn-sound c i (Some 1) (operator_at c.context (first ts)) l m xs ts r small d refl h

module _ {F C K : Type 0} {fun_at : F → Span} {class_at : C → Span} {block_at : K → Span} (hook : Hook F C K)
    (laws : LawfulHook fun_at class_at block_at hook) where
  -- the recursion closed
  run_at-sound : (n : ℕ) (k : Call F C K) (c : Scope) (ts : List TokenAndSpan) (r : Ans F C K k × List TokenAndSpan)
      → run_at hook n k c ts ≡ Some r → Means hook k c ts r
  run_at-sound zero k c ts r h = cc
  run_at-sound (suc n) k c ts r h = step-sound hook (hears hook laws) (run_at hook n) (run_at-sound n) k c ts r h

  pub run-sound : (k : Call F C K) (c : Scope) (ts : List TokenAndSpan) (r : Ans F C K k × List TokenAndSpan)
      → run hook k c ts ≡ Some r → Means hook k c ts r
  unfolding run
  run-sound k c ts r h = run_at-sound (suc (measure k ts)) k c ts r h

  -- what is read at a symbol, the grammar derives
  pub sound : (s : Symbol) (c : Scope) (ts : List TokenAndSpan) (r : Answer F C K s × List TokenAndSpan)
      → run hook (sym s) c ts ≡ Some r → Reads hook s c ts r.1 r.0
  sound s c ts r h = reads-of hook s c ts r (run-sound (sym s) c ts r h)
