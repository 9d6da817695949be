-- What the clean parser reads, a step at a time, as the code does it.
use Rattle.std.proofs.Common.{◌≡◌, ℕ, suc, ◌≤◌, ◌<◌, Bool, true, false, not, codes, ◌||◌, ◌&&◌, if◌then◌else◌, List, [], ◌∷◌, Option, Some, None, refl, sym, ap, ◌∙◌, arith}
use Rattle.std.proofs.lemmas.Bool.{le-leb, lt-leb}
use Rattle.std.specs.Prelude.{nat_le, nat_lt}
use Rattle.swc_context.specs.{Operators.precedence_of, Texts.is_text, declared.atom.Atom.Atom, Words.word_text, declared.context.Context.Context, declared.operator.BinaryOp.BinaryOp, declared.operator.UnaryOp.UnaryOp, declared.span.BytePos.BytePos, declared.span.Span.Span, declared.word.Keyword.Keyword as keyword, declared.word.Word.Word, declared.word.Word.Word as written}
use Rattle.swc_input.specs.{declared.token.Token.Token, declared.token.Token.Token as token, declared.token.TokenAndSpan.TokenAndSpan, Plain.plain, Kinds.at_token, Kinds.is_hash}
use Rattle.swc_ast.specs.Tree.{Tree, span_of}
use Rattle.swc_ast.specs.Trees.{to, ident_e, this_e, fn_e, class_e, private_e, unary_e, bin_e, is_logical, is_nullish_op, nullish_ok, exp_ok, delete_ok, min_right, left_ok}
use Rattle.swc_grammar.specs.Scope.{Scope, inner}
use Rattle.swc_grammar.specs.Rule.{gives, take, check, peek, peek_two, read, given, sees, sees_two, ◌>>=◌ as ◌▸◌}
use Rattle.swc_grammar.specs.Arrows.{async_name, goes_on_async, of_arrow}
use Rattle.swc_grammar.specs.Symbols.{Assign, Level, Unary, Primary, Literal, Template, Side, function, class}
use Rattle.swc_grammar.specs.Tokens.{is_backquote, is_slash, is_regex, begins_regex, with_in, is_reference, is_strict_word, ref_ok, is_put_off, prefix_of, is_lparen, is_this, is_lbracket, is_update, is_await, tk, is_in}
use Rattle.swc_grammar.specs.Names.{Spelling, spelling, may_refer, may_name, spelled, is_joined}
use Rattle.swc_grammar.specs.Parts.{reference, any_name, lit_of, with_place, prefix_here, private_ok}
use Rattle.swc_grammar.specs.Grammar.{ident-expr, this-expr, primary-literal, fn-expr, class-expr, paren-expr, unary-op, private-expr, primary-template, async-ident}
use Rattle.swc_grammar.specs.Clean.{Out, and_then, hear_then, first, sym as at, climb, plan, exec, is_lit, is_identifier, no_error, operator_at, prefix_at, pick, chosen, step, begins_private, links, updates, Plan, private_operand as private_plan, primary, bin_op as bin_op_plan, turn as turn_plan, turned as turned_plan, run}
use Rattle.swc_grammar.specs.Words.{◌>>=◌, rest, one, word}
use Rattle.swc_bodies.specs.Readings.{Hook, LawfulHook, begins, begins_function, is_class, is_function, is_async, is_brace, is_function_here}
use Rattle.swc_grammar.proofs.Bodies.{hears, hears-place, hears-run}
use Rattle.swc_grammar.proofs.Complete.{last, lit-picks, fn-picks, class-picks, private-refused}
use Rattle.swc_grammar.proofs.Only.{backquote-is, hash-is, lparen-is, this-is}
use Rattle.swc_grammar.proofs.{Answers.both, Knot.knot, Levels.right-low, Rules.exec-bind, Rules.run_picked}
use Rattle.swc_steps.proofs.{Lists.calls, Steps.Booleans.and_false, Steps.Booleans.and_true, Steps.Inner.inner_is}
use Rattle.swc_steps.specs.Args.{hash_by, hash_name}
use Rattle.swc_steps.specs.Parsing.{is_strict, is_strict_in, begins_async, seen_of}
use Rattle.swc_steps.specs.Readers.{reading, by_production, by_production_apart, named_expr, inside, private_expr_tail, unary_op_tail, unary_op_node, unary_op, turn, bin_op, bin_op_node, turned, go_on, operand, private_operand, before_in, behind_operand, is_private_here}

error_no : (t : Token) → no_error t ≡ false → is_lit t ≡ false
error_no (token.Error e) h = refl
error_no t h = cc

error_not : (o : Option TokenAndSpan) → at_token no_error o ≡ false → at_token is_lit o ≡ false
error_not None h = refl
error_not (Some t) h = error_no t.token h

-- what is said of the current token is said of the one consumed
pub passes_plain : (f : Token → Bool) (o : Option TokenAndSpan) (t : TokenAndSpan) → o ≡ Some t
    → at_token f (seen_of o) ≡ true → f (plain t).token ≡ true
passes_plain f o t e h = ap (λ v. at_token f (seen_of v)) (sym e) ∙ h

pub nullish_other : {F C K : Type 0} (op : BinaryOp) (l r : Tree F C K) → is_nullish_op op ≡ false
    → nullish_ok op l r ≡ true
nullish_other op l r h = rw h refl

pub nullish_both : {F C K : Type 0} (op : BinaryOp) (l r : Tree F C K) → is_nullish_op op ≡ true
    → nullish_ok op l r ≡ not (is_logical l || is_logical r)
nullish_both op l r h = rw h refl

-- the operator at the first token is that of the current token
pub same_op : {x y : Scope} {s r : Option TokenAndSpan} (o q : Option BinaryOp) → x ≡ y → r ≡ s
    → o ≡ operator_at y.context s → o ≡ q → operator_at x.context r ≡ q
same_op o q h i j k = rw (h, i) (sym j ∙ k)

-- what begins with a token
begins_first : (f : Token → Bool) (ts : List TokenAndSpan) → begins f ts ≡ at_token f (first ts)
begins_first f [] = refl
begins_first f (t ∷ ts) = refl

-- a function begins with `function`, or with `async` and `function`
pub function_begins : (ts : List TokenAndSpan) → at_token is_function (first ts) ≡ true → begins_function ts ≡ true
function_begins [] h = absurd cc
function_begins (t ∷ ts) h = rw h refl

or_right : (a b : Bool) → b ≡ true → (a || b) ≡ true
or_right true b h = refl
or_right false b h = h

pub async_begins : (ts : List TokenAndSpan) → begins_async ts ≡ true → begins_function ts ≡ true
async_begins [] h = absurd cc
async_begins (t ∷ ts) h = or_right (is_function t.token) (is_async t.token && is_function_here ts) h

pub function_not : (ts : List TokenAndSpan) → at_token is_function (first ts) ≡ false → begins_async ts ≡ false
    → begins_function ts ≡ false
function_not [] h k = refl
function_not (t ∷ ts) h k = rw (h, k) refl

-- in a module a word of strict code is none
strict_in_module : (m : Bool) (w : Word) → m && is_strict_in m w ≡ true → m && is_strict_word w ≡ true
strict_in_module true (written.Keyword keyword.Await) h = refl
strict_in_module true w h = h
strict_in_module false w h = cc

and_off : (a b : Bool) → b ≡ false → (a && b) ≡ false
and_off true b h = h
and_off false b h = refl

strict_off : (c : Context) (w : Word) → c.module && is_strict_in c.module w ≡ true → ref_ok c w ≡ false
strict_off c w h = rw (strict_in_module c.module w h) refl

strict_not : (c : Context) (t : Token) (s : Span) → c.module && is_strict c.module t ≡ true
    → spelled (may_refer c) t s ≡ None
strict_not c (token.Word w) s h =
    ap (λ b. if b then Some (spelling (word_text w) s) else None)
    (and_off (is_reference c w) (ref_ok c w) (strict_off c w h))
strict_not c t s h = refl

pub name_strict : (x : Scope) (ts : List TokenAndSpan)
    → x.context.module && at_token (is_strict x.context.module) (first ts) ≡ true → word may_refer x ts ≡ None
unfolding word
name_strict x [] h = refl
name_strict x (t ∷ ts) h = rw (strict_not x.context t.token t.span h) refl

-- neither a slash nor a whole regular expression
neither : (a b : Bool) → (a || b) ≡ false → (a ≡ false) × (b ≡ false)
neither true b h = absurd cc
neither false b h = (refl, h)

no_regex : (o : Option TokenAndSpan) → at_token begins_regex o ≡ false
    → (at_token is_slash o ≡ false) × (at_token is_regex o ≡ false)
no_regex None h = (refl, refl)
no_regex (Some t) h = neither (is_slash t.token) (is_regex t.token) h

pub named_splits : {F C K : Type 0} (x : Scope) (ts : List TokenAndSpan)
    → named_expr {F = F} {C = C} {K = K} x ts ≡ (word may_refer x ts >>= (λ p. Some (ident_e p.0.at p.0.text, p.1)))
unfolding named_expr
named_splits x ts = refl

if_on : {A : Type 0} (b : Bool) (x y : A) → b ≡ true → (if b then x else y) ≡ x
if_on b x y h = rw h refl

if_off : {A : Type 0} (b : Bool) (x y : A) → b ≡ false → (if b then x else y) ≡ y
if_off b x y h = rw h refl

-- where no `#` is that is free
not_private : (f p h i : Bool) → (f && (p && h)) ≡ false → (h && (f && (p && i))) ≡ false
not_private f p false i z = refl
not_private false p true i z = refl
not_private true false true i z = refl
not_private true true true i z = absurd cc

module _ {F C K : Type 0} (hook : Hook F C K) where
  -- what a call read, and what reads the same as what is run after it
  then_calls : {A B : Type 0} (o : Out A) (k : A → List TokenAndSpan → Out B) (f : A → List TokenAndSpan → Out B)
      → ((e : A) (us : List TokenAndSpan) → k e us ≡ f e us) → and_then o k ≡ (o >>= (λ p. f p.0 p.1))
  then_calls None k f h = refl
  then_calls (Some p) k f h = h p.0 p.1

  -- a token that is something, and one that is nothing
  given_is : {A : Type 0} (o : Option A) (a : A) (k : A → Side F C K Primary) (ts : List TokenAndSpan) → o ≡ Some a
      → exec hook (run hook) None (plan (given o ▸ k)) ts ≡ exec hook (run hook) None (plan (k a)) ts
  given_is o a k ts h = ap (λ v. exec hook (run hook) None (plan (given v ▸ k)) ts) h

  given_not : {A : Type 0} (o : Option A) (k : A → Side F C K Primary) (ts : List TokenAndSpan) → o ≡ None
      → exec hook (run hook) None (plan (given o ▸ k)) ts ≡ None
  given_not o k ts h = ap (λ v. exec hook (run hook) None (plan (given v ▸ k)) ts) h

  -- ---- primary expressions (13.2): each is picked by its first token

  pub ident_expr_picked : (x : Scope) (ts : List TokenAndSpan) → at_token (is_identifier x.context) (first ts) ≡ true
      → run hook (at Primary) x ts ≡ by_production hook (λ c. ident-expr) x ts
  unfolding by_production reading
  ident_expr_picked x [] h = absurd cc
  ident_expr_picked x (t ∷ ts) h = run_picked hook Primary x (t ∷ ts) ident-expr (primary x (t ∷ ts)) refl (rw h refl)

  pub lit_picked : (x : Scope) (ts : List TokenAndSpan) → x.head ≡ false → at_token is_lit (first ts) ≡ true
      → run hook (at Primary) x ts ≡ run hook (at Literal) x ts
  lit_picked x ts n h =
      run_picked hook Primary x ts primary-literal (primary x ts) refl (lit-picks hook x ts h)
      ∙ last hook (Some 8) (at Literal) (inner x) ts refl
      ∙ ap (λ v. run hook (at Literal) v ts) (inner_is x n)

  pub paren_expr_picked : (x : Scope) (ts : List TokenAndSpan) → at_token is_lparen (first ts) ≡ true
      → run hook (at Primary) x ts ≡ by_production_apart hook (λ c. paren-expr) x ts
  unfolding by_production_apart reading
  paren_expr_picked x [] h = absurd cc
  paren_expr_picked x (t ∷ ts) h = knot hook (at Primary) x (t ∷ ts) ∙ rw (lparen-is t.token h) refl

  pub private_expr_picked : (x : Scope) (ts : List TokenAndSpan) → at_token is_hash (first ts) ≡ true
      → run hook (at Primary) x ts ≡ by_production hook (λ c. private-expr) x ts
  unfolding by_production reading
  private_expr_picked x [] h = absurd cc
  private_expr_picked x (t ∷ ts) h =
      run_picked hook Primary x (t ∷ ts) private-expr (primary x (t ∷ ts)) refl
      (rw (hash-is t.token h) refl)

  pub this_expr_picked : (x : Scope) (ts : List TokenAndSpan) → at_token is_this (first ts) ≡ true
      → run hook (at Primary) x ts ≡ by_production hook (λ c. this-expr) x ts
  unfolding by_production reading
  this_expr_picked x [] h = absurd cc
  this_expr_picked x (t ∷ ts) h =
      run_picked hook Primary x (t ∷ ts) this-expr (primary x (t ∷ ts)) refl
      (rw (this-is t.token h) refl)

  pub template_picked : (x : Scope) (ts : List TokenAndSpan) → x.head ≡ false
      → at_token is_backquote (first ts) ≡ true → run hook (at Primary) x ts ≡ run hook (at (Template false)) x ts
  template_picked x [] n h = absurd cc
  template_picked x (t ∷ ts) n h =
      run_picked hook Primary x (t ∷ ts) primary-template (primary x (t ∷ ts)) refl
      (rw (backquote-is t.token h) refl)
      ∙ last hook (Some 8) (at (Template false)) (inner x) (t ∷ ts) refl
      ∙ ap (λ v. run hook (at (Template false)) v (t ∷ ts)) (inner_is x n)

  pub fn_expr_picked : (x : Scope) (ts : List TokenAndSpan) → begins_function ts ≡ true
      → run hook (at Primary) x ts ≡ by_production hook (λ c. fn-expr) x ts
  unfolding by_production reading
  fn_expr_picked x ts h = run_picked hook Primary x ts fn-expr (primary x ts) refl (fn-picks hook x ts h)

  pub class_expr_picked : (x : Scope) (ts : List TokenAndSpan) → at_token is_class (first ts) ≡ true
      → run hook (at Primary) x ts ≡ by_production hook (λ c. class-expr) x ts
  unfolding by_production reading
  class_expr_picked x ts h =
      run_picked hook Primary x ts class-expr (primary x ts) refl (class-picks hook x ts (begins_first is_class ts ∙ h))

  pub primary_ends : (x : Scope) (ts : List TokenAndSpan) → at_token (is_identifier x.context) (first ts) ≡ false
      → at_token is_lit (first ts) ≡ false → at_token is_lparen (first ts) ≡ false
      → at_token is_hash (first ts) ≡ false → at_token is_this (first ts) ≡ false
      → at_token is_lbracket (first ts) ≡ false → begins_function ts ≡ false → at_token is_async (first ts) ≡ false
      → at_token is_class (first ts) ≡ false → at_token is_brace (first ts) ≡ false
      → at_token is_backquote (first ts) ≡ false → at_token begins_regex (first ts) ≡ false
      → run hook (at Primary) x ts ≡ None
  primary_ends x ts h i j k l m n a o p q r =
      let (slash, whole) = no_regex (first ts) r in
      knot hook (at Primary) x ts
      ∙ rw (h, i, j, k, l, m, n, a, begins_first is_class ts ∙ o, p, q, slash, whole) refl

  -- ---- identifier references (13.1)

  -- a name, and what is made of it
  given_one : {A : Type 0} (o : Option A) (k : A → Tree F C K) (us : List TokenAndSpan)
      → exec hook (run hook) None (plan (given o ▸ (λ n. gives (k n)))) us ≡ (one o us >>= (λ p. Some (k p.0, p.1)))
  given_one None k us = refl
  given_one (Some n) k us = refl

  same_test : (a b : Bool) (n : Spelling) → a ≡ b → (if a then Some n else None) ≡ (if b then Some n else None)
  same_test a b n h = ap (λ v. if v then Some n else None) h

  -- an identifier that is an expression passes the tests that are left
  ident_expr_spelled : (c : Scope) (t : Token) (s : Span) → is_identifier c.context t ≡ true
      → reference c t s ≡ spelled (may_refer c.context) t s
  ident_expr_spelled c (token.Word w) s h =
      let (a, b) = both (is_reference c.context w) (not (is_put_off w)) h in
      same_test (may_refer c.context w && not (is_put_off w)) (may_refer c.context w) (spelling (word_text w) s)
      (rw b (and_true (may_refer c.context w)))
  ident_expr_spelled c t s h = absurd cc

  ident_expr_named : (x : Scope) (ts : List TokenAndSpan) → at_token (is_identifier x.context) (first ts) ≡ true
      → by_production hook (λ c. ident-expr) x ts ≡ named_expr x ts
  unfolding by_production reading named_expr word
  ident_expr_named x [] h = absurd cc
  ident_expr_named x (t ∷ ts) h =
      given_one (reference x t.token t.span) (λ n. ident_e n.at n.text) ts
      ∙ ap (λ o. one o ts >>= (λ p. Some (ident_e p.0.at p.0.text, p.1))) (ident_expr_spelled x t.token t.span h)

  pub name_picked : (x : Scope) (ts : List TokenAndSpan) → at_token (is_identifier x.context) (first ts) ≡ true
      → run hook (at Primary) x ts ≡ named_expr x ts
  name_picked x ts h = ident_expr_picked x ts h ∙ ident_expr_named x ts h

  -- `async`, where no function follows on its line, and no assignment expression begins
  async_picked : (x : Scope) (w : Atom) (b : Bool) (s : Span) (ts : List TokenAndSpan) → x.head ≡ false
      → is_text w (codes "async") ≡ true → is_function_here ts ≡ false
      → primary {F = F} {C = C} {K = K} x (tk (token.Word (written.Ident w)) b s ∷ ts) ≡ pick async-ident
  async_picked x w b s ts n h k = rw (h, k, n, and_off (is_reference x.context (written.Ident w)) false refl) refl

  async_spelled : (c : Scope) (w : Atom) (s : Span) → is_text w (codes "async") ≡ true
      → async_name c (token.Word (written.Ident w)) s ≡ spelled (may_refer c.context) (token.Word (written.Ident w)) s
  async_spelled c w s h =
      same_test (may_refer c.context (written.Ident w) && is_put_off (written.Ident w))
      (may_refer c.context (written.Ident w)) (spelling (word_text (written.Ident w)) s)
      (rw h (and_true (may_refer c.context (written.Ident w))))

  calm_word : (a b : Bool) → (a && not b) ≡ false → (not b && (a || false)) ≡ false
  calm_word true true h = refl
  calm_word true false h = absurd cc
  calm_word false true h = refl
  calm_word false false h = refl

  calm_async : (x : Scope) (ts : List TokenAndSpan) → x.head ≡ false → is_function_here ts ≡ false
      → sees (goes_on_async x) ts ≡ false
  calm_async x [] n k = refl
  calm_async x (t ∷ ts) n k = rw n (calm_word (is_function t.token) t.had_line_break k)

  calm_of : (x : Scope) (ts : List TokenAndSpan) → x.head ≡ false → sees_two (of_arrow x) ts ≡ false
  calm_of x [] n = refl
  calm_of x (t ∷ []) n = refl
  calm_of x (t ∷ (u ∷ ts)) n = rw n refl

  given_async : (o : Option Spelling) (x : Scope) (us : List TokenAndSpan) → sees (goes_on_async x) us ≡ false
      → sees_two (of_arrow x) us ≡ false → exec hook (run hook) None (plan (given o ▸
      (λ n. peek (goes_on_async x) (peek_two (of_arrow x) (gives (ident_e {F = F} {C = C} {K = K} n.at n.text)))))) us
      ≡ (one o us >>= (λ p. Some (ident_e p.0.at p.0.text, p.1)))
  given_async None x us h k = refl
  given_async (Some n) x us h k = rw (h, k) refl

  async_token : (x : Scope) (t : Token) (b : Bool) (s : Span) (ts : List TokenAndSpan) → x.head ≡ false
      → is_async t ≡ true → is_function_here ts ≡ false
      → run hook (at Primary) x (tk t b s ∷ ts) ≡ named_expr x (tk t b s ∷ ts)
  unfolding named_expr word
  async_token x (token.Word (written.Ident w)) b s ts n h k =
      let t = token.Word (written.Ident w) in
      run_picked hook Primary x (tk t b s ∷ ts) async-ident (primary x (tk t b s ∷ ts)) refl
      (async_picked x w b s ts n h k)
      ∙ given_async (async_name x t s) x ts (calm_async x ts n k) (calm_of x ts n)
      ∙ ap (λ o. one o ts >>= (λ p. Some (ident_e p.0.at p.0.text, p.1))) (async_spelled x w s h)
  async_token x t b s ts n h k = absurd cc

  pub async_name_picked : (x : Scope) (ts : List TokenAndSpan) → x.head ≡ false → at_token is_async (first ts) ≡ true
      → begins_async ts ≡ false → run hook (at Primary) x ts ≡ named_expr x ts
  async_name_picked x [] n h k = absurd cc
  async_name_picked x (t ∷ ts) n h k =
      async_token x t.token t.had_line_break t.span ts n h (ap (λ b. b && is_function_here ts) (sym h) ∙ k)

  -- ---- `this` (13.2.1)

  pub this_expr_takes : (t : TokenAndSpan) (x : Scope) (ts : List TokenAndSpan) → is_this t.token ≡ true
      → by_production hook (λ c. this-expr) x (t ∷ ts) ≡ Some (this_e t.span, ts)
  unfolding by_production reading
  this_expr_takes t x ts h = rw h refl

  -- ---- literals (13.2.3)

  pub lit_takes : (e : Tree F C K) (x : Scope) (t : TokenAndSpan) (ts : List TokenAndSpan)
      → lit_of t.token t.span ≡ Some e → run hook (at Literal) x (t ∷ ts) ≡ Some (e, ts)
  lit_takes e x t ts h = knot hook (at Literal) x (t ∷ ts) ∙ given_is (lit_of t.token t.span) e (λ v. gives v) ts h

  lit_no : (t : Token) (s : Span) → is_lit t ≡ false → lit_of {F = F} {C = C} {K = K} t s ≡ None
  lit_no (token.Word written.Null) s h = cc
  lit_no (token.Word written.True) s h = cc
  lit_no (token.Word written.False) s h = cc
  lit_no (token.Num raw) s h = cc
  lit_no (token.BigInt raw) s h = cc
  lit_no (token.Str value raw) s h = cc
  lit_no t s h = refl

  pub lit_not : (x : Scope) (ts : List TokenAndSpan) → at_token is_lit (first ts) ≡ false
      → run hook (at Literal) x ts ≡ None
  lit_not x [] h = knot hook (at Literal) x []
  lit_not x (t ∷ ts) h =
      knot hook (at Literal) x (t ∷ ts)
      ∙ given_not (lit_of t.token t.span) (λ v. gives v) ts (lit_no t.token t.span h)

  pub lit_unfit : (x : Scope) (ts : List TokenAndSpan) → at_token no_error (first ts) ≡ false
      → run hook (at Literal) x ts ≡ None
  lit_unfit x ts h = lit_not x ts (error_not (first ts) h)

  -- ---- functions (13.2.6; 15.2, 15.5, 15.6, 15.8) and classes (15.7)

  pub fn_expr_hears : {fun_at : F → Span} {class_at : C → Span} {block_at : K → Span}
      → LawfulHook fun_at class_at block_at hook → (x : Scope) (ts : List TokenAndSpan)
      → by_production hook (λ c. fn-expr) x ts ≡ (hook.fun x.context ts >>= (λ p. Some (fn_e (fun_at p.0) p.0, p.1)))
  unfolding by_production reading
  fn_expr_hears {fun_at} laws x ts = by_what (hook.fun x.context ts) refl
    where
      by_what : (o : Out F) → hook.fun x.context ts ≡ o
          → hear_then (hook.fun x.context ts) ts (λ v s us. Some (fn_e {F = F} {C = C} {K = K} s v, us))
          ≡ (hook.fun x.context ts >>= (λ p. Some (fn_e (fun_at p.0) p.0, p.1)))
      by_what None e = rw e refl
      by_what (Some p) e =
          let h = hears hook laws function x ts p.0 p.1 e in
          hears-run h (λ v s us. Some (fn_e s v, us))
          ∙ ap (λ s. Some (fn_e s p.0, p.1)) (sym (hears-place hook laws function x ts p.0 p.1 h))
          ∙ ap (λ o. o >>= (λ p. Some (fn_e (fun_at p.0) p.0, p.1))) (sym e)

  pub class_expr_hears : {fun_at : F → Span} {class_at : C → Span} {block_at : K → Span}
      → LawfulHook fun_at class_at block_at hook → (x : Scope) (ts : List TokenAndSpan)
      → by_production hook (λ c. class-expr) x ts
      ≡ (hook.class x.context ts >>= (λ p. Some (class_e (class_at p.0) p.0, p.1)))
  unfolding by_production reading
  class_expr_hears {class_at = class_at} laws x ts = by_what (hook.class x.context ts) refl
    where
      by_what : (o : Out C) → hook.class x.context ts ≡ o
          → hear_then (hook.class x.context ts) ts (λ v s us. Some (class_e {F = F} {C = C} {K = K} s v, us))
          ≡ (hook.class x.context ts >>= (λ p. Some (class_e (class_at p.0) p.0, p.1)))
      by_what None e = rw e refl
      by_what (Some p) e =
          let h = hears hook laws class x ts p.0 p.1 e in
          hears-run h (λ v s us. Some (class_e s v, us))
          ∙ ap (λ s. Some (class_e s p.0, p.1)) (sym (hears-place hook laws class x ts p.0 p.1 h))
          ∙ ap (λ o. o >>= (λ p. Some (class_e (class_at p.0) p.0, p.1))) (sym e)

  -- ---- prefix operators (13.5)

  prefix_apart : (t : Token) (op : UnaryOp) → prefix_of t ≡ Some op → (is_update t ≡ false) × (is_await t ≡ false)
  prefix_apart token.PlusPlus op h = absurd cc
  prefix_apart token.MinusMinus op h = absurd cc
  prefix_apart (token.Word (written.Keyword keyword.Await)) op h = absurd cc
  prefix_apart t op h = (refl, refl)

  prefix_chosen : (op : UnaryOp) (x : Scope) (t : TokenAndSpan) (ts : List TokenAndSpan) → prefix_of t.token ≡ Some op
      → step {F = F} {C = C} {K = K} (at Unary) x (t ∷ ts) ≡ chosen (pick (unary-op {c = x}))
  prefix_chosen op x t ts h = let (u, w) = prefix_apart t.token op h in rw (u, w, h) refl

  pub unary_op_picked : (op : UnaryOp) (x : Scope) (ts : List TokenAndSpan) → prefix_at (first ts) ≡ Some op
      → run hook (at Unary) x ts ≡ unary_op hook op x ts
  unfolding unary_op unary_op_tail reading
  unary_op_picked op x [] h = cc
  unary_op_picked op x (t ∷ ts) h =
      run_picked hook Unary x (t ∷ ts) unary-op (pick unary-op) (prefix_chosen op x t ts h) refl
      ∙ given_is (prefix_here t.token t.span) (op, t.span)
      (λ p. read Unary (inner x) (λ e. check (delete_ok x.context p.0 e)
      (gives (unary_e (to p.1 (span_of e)) p.0 e)))) ts
      (ap (λ o. with_place o t.span) h)

  pub unary_op_opens : (op : UnaryOp) (t : TokenAndSpan) (x : Scope) (ts : List TokenAndSpan)
      → unary_op hook op x (t ∷ ts) ≡ unary_op_tail hook t.span op x ts
  unfolding unary_op
  unary_op_opens op t x ts = refl

  pub unary_op_splits : (s : Span) (op : UnaryOp) (x : Scope) (ts : List TokenAndSpan)
      → unary_op_tail hook s op x ts ≡ (run hook (at Unary) (inner x) ts >>= (λ p. unary_op_node hook s op x p.0 p.1))
  unfolding unary_op_tail unary_op_node reading
  unary_op_splits s op x ts = calls (run hook (at Unary) (inner x) ts) _

  pub unary_op_well : (s : Span) (op : UnaryOp) (x : Scope) (t : Tree F C K) (ts : List TokenAndSpan)
      → delete_ok x.context op t ≡ true → unary_op_node hook s op x t ts ≡ Some (unary_e (to s (span_of t)) op t, ts)
  unfolding unary_op_node reading
  unary_op_well s op x t ts h = rw h refl

  pub unary_op_ill : (s : Span) (op : UnaryOp) (x : Scope) (t : Tree F C K) (ts : List TokenAndSpan)
      → delete_ok x.context op t ≡ false → unary_op_node hook s op x t ts ≡ None
  unfolding unary_op_node reading
  unary_op_ill s op x t ts h = rw h refl

  -- ---- binary operators (13.6 to 13.13)

  -- after `#` and a name no link comes before `in`, and no `++` or `--`
  private_stays : (e : Tree F C K) (x : Scope) (ts : List TokenAndSpan) → at_token is_in (first ts) ≡ true
      → behind_operand hook e x ts ≡ Some (e, ts)
  unfolding behind_operand
  private_stays e x [] h = absurd cc
  private_stays e x (t ∷ ts) h = by-token t.token t.had_line_break t.span h
    where
      by-token : (v : Token) (b : Bool) (s : Span) → is_in v ≡ true
          → (run hook (links true e) (inner x) (tk v b s ∷ ts) >>= (λ p. run hook (updates p.0) (inner x) p.1))
          ≡ Some (e, tk v b s ∷ ts)
      by-token (token.Word (written.Keyword keyword.In)) b s h =
          let us = tk (token.Word (written.Keyword keyword.In)) b s ∷ ts in
          ap (λ o. o >>= (λ p. run hook (updates p.0) (inner x) p.1)) (knot hook (links true e) (inner x) us)
          ∙ knot hook (updates e) (inner x) us
      by-token v b s h = absurd cc

  -- what the code reads as `#` and a name, of a token after the `#` at s
  abbrev joined_by : Span → Bool → Option Spelling → List TokenAndSpan → Out (Spelling × BytePos)
  joined_by s j o us =
      if j then (one o us >>= (λ r. Some ((spelling r.0.text (to s r.0.at), r.0.at.hi), r.1))) else None

  abbrev named_by : Span → Bool → Option Spelling → Scope → List TokenAndSpan → Out (Tree F C K)
  named_by s j o x us = joined_by s j o us >>= (λ p. before_in hook p.0.0 x p.1)

  abbrev climbs : ℕ → Scope → Out (Tree F C K) → Out (Tree F C K)
  climbs m x o = o >>= (λ p. behind_operand hook p.0 x p.1) >>= (λ p. run hook (climb p.0 m) (inner x) p.1)

  -- where no `in` follows, it is nothing
  none_by : (m : ℕ) (s : Span) (x : Scope) (us : List TokenAndSpan) → at_token is_in (first us) ≡ false → (j : Bool)
      (o : Option Spelling) → None ≡ climbs m x (named_by s j o x us)
  none_by m s x us i false o = refl
  none_by m s x us i true None = refl
  none_by m s x us i true (Some n) = rw (i, and_false x.context.include_in_expr) refl

  none_named : (m : ℕ) (x : Scope) (a b : TokenAndSpan) (us : List TokenAndSpan) → is_hash a.token ≡ true
      → at_token is_in (first us) ≡ false
      → None ≡ climbs m x (hash_by x (Some a) (b ∷ us) >>= (λ p. before_in hook p.0.0 x p.1))
  unfolding word
  none_named m x a b us h i =
      rw h (none_by m a.span x us i (is_joined a.span b.span) (spelled (may_name x.context) b.token b.span))

  -- where one follows, it is what the plan reads
  abbrev climb_from : ℕ → Scope → Tree F C K → Plan F C K (Tree F C K)
  climb_from m x e = read (climb e m) (inner x) (λ v. gives v)

  named_same : (m : ℕ) (s place : Span) (text : List ℕ) (x : Scope) (us : List TokenAndSpan) → x.syntax.pedantic ≡ true
      → at_token is_in (first us) ≡ true
      → exec hook (run hook) None (check (private_ok x s place) (climb_from m x (private_e (to s place) text))) us
      ≡ climbs m x (named_by s (is_joined s place) (Some (spelling text place)) x us)
  named_same m s place text x us p i = by-join (is_joined s place) refl
    where
      e : Tree F C K
      e = private_e (to s place) text

      read_on : Out (Tree F C K)
      read_on = exec hook (run hook) None (climb_from m x e) us

      tested : Bool → Out (Tree F C K)
      tested v = if v then read_on else None

      before : Bool → Out (Tree F C K)
      before v = climbs m x (if v then Some (e, us) else None)

      by-in : (v : Bool) → x.context.include_in_expr ≡ v → is_joined s place ≡ true → tested (private_ok x s place)
          ≡ before (x.context.include_in_expr && at_token is_in (first us))
      by-in false k j =
          ap tested (ap (λ v. x.syntax.pedantic && (v && is_joined s place)) k ∙ and_false x.syntax.pedantic)
          ∙ sym (ap (λ v. before (v && at_token is_in (first us))) k)
      by-in true k j =
          ap tested (ap (λ v. x.syntax.pedantic && (v && is_joined s place)) k
          ∙ ap (λ v. x.syntax.pedantic && v) j ∙ ap (λ v. v && true) p)
          ∙ last hook None (climb e m) (inner x) us refl
          ∙ sym (ap (λ o. o >>= (λ q. run hook (climb q.0 m) (inner x) q.1)) (private_stays e x us i))
          ∙ sym (ap (λ v. before (v && at_token is_in (first us))) k ∙ ap before i)

      by-join : (j : Bool) → is_joined s place ≡ j → tested (private_ok x s place)
          ≡ climbs m x (named_by s (is_joined s place) (Some (spelling text place)) x us)
      by-join false j =
          ap tested (ap (λ v. x.syntax.pedantic && (x.context.include_in_expr && v)) j
          ∙ ap (λ v. x.syntax.pedantic && v) (and_false x.context.include_in_expr) ∙ and_false x.syntax.pedantic)
          ∙ sym (ap (λ v. climbs m x (named_by s v (Some (spelling text place)) x us)) j)
      by-join true j =
          by-in x.context.include_in_expr refl j
          ∙ sym (ap (λ v. climbs m x (named_by s v (Some (spelling text place)) x us)) j)

  private_named : (m : ℕ) (x : Scope) (a b : TokenAndSpan) (us : List TokenAndSpan) → is_hash a.token ≡ true
      → x.syntax.pedantic ≡ true → at_token is_in (first us) ≡ true
      → exec hook (run hook) (Some 12) (private_plan x ▸ climb_from m x) (a ∷ (b ∷ us))
      ≡ climbs m x (hash_by x (Some a) (b ∷ us) >>= (λ p. before_in hook p.0.0 x p.1))
  unfolding word
  private_named m x a b us h p i = rw h (by-token b.token b.span)
    where
      by-token : (v : Token) (place : Span)
          → exec hook (run hook) None (given (any_name x v place) ▸ (λ n. check (private_ok x a.span n.at)
          (gives (private_e (to a.span n.at) n.text))) ▸ climb_from m x) us
          ≡ climbs m x (named_by a.span (is_joined a.span place) (spelled (may_name x.context) v place) x us)
      by-token (token.Word w) place = named_same m a.span place (word_text w) x us p i
      by-token v place = none_joined (is_joined a.span place)
        where
          none_joined : (j : Bool) → None ≡ climbs m x (named_by a.span j None x us)
          none_joined false = refl
          none_joined true = refl

  -- a unary expression as an operand
  unary_splits : (m : ℕ) (x : Scope) (ts : List TokenAndSpan) → m ≤ 10 → begins_private (nat_lt m 7) x ts ≡ false
      → run hook (at (Level (suc m))) x ts ≡ (run hook (at Unary) x ts >>= (λ p. run hook (climb p.0 m) (inner x) p.1))
  unary_splits m x ts le h =
      knot hook (at (Level (suc m))) x ts
      ∙ ap (λ v. exec hook (run hook) (Some 12) v ts) (if_off (begins_private (nat_lt m 7) x ts) _ _ h)
      ∙ rw (le-leb m 10 le)
      (then_calls (run hook (at Unary) x ts) _ (λ e us. run hook (climb e m) (inner x) us)
      (λ e us. last hook (Some 12) (climb e m) (inner x) us refl))

  -- `#` and a name as one
  private_splits : (m : ℕ) (x : Scope) (ts : List TokenAndSpan) → m ≤ 10 → is_private_here (nat_lt m 7) x ts ≡ true
      → run hook (at (Level (suc m))) x ts
      ≡ (private_operand hook x ts >>= (λ p. behind_operand hook p.0 x p.1)
      >>= (λ p. run hook (climb p.0 m) (inner x) p.1))
  unfolding private_operand hash_name word
  private_splits m x [] le z =
      let (f, z1) = both (nat_lt m 7) _ z in
      let (p, h) = both x.syntax.pedantic _ z1 in
      absurd cc
  private_splits m x (a ∷ []) le z =
      let (f, z1) = both (nat_lt m 7) _ z in
      let (p, h) = both x.syntax.pedantic _ z1 in
      unary_splits m x (a ∷ []) le (rw (h, f, p) refl)
      ∙ ap (λ o. o >>= (λ q. run hook (climb q.0 m) (inner x) q.1)) (private-refused hook x a [] p h) ∙ rw h refl
  private_splits m x (a ∷ (b ∷ us)) le z =
      let (f, z1) = both (nat_lt m 7) _ z in
      let (p, h) = both x.syntax.pedantic _ z1 in
      by-next f p h (at_token is_in (first us)) refl
    where
      by-next : nat_lt m 7 ≡ true → x.syntax.pedantic ≡ true → is_hash a.token ≡ true → (i : Bool)
          → at_token is_in (first us) ≡ i → run hook (at (Level (suc m))) x (a ∷ (b ∷ us))
          ≡ (hash_by x (Some a) (b ∷ us) >>= (λ p. before_in hook p.0.0 x p.1)
          >>= (λ p. behind_operand hook p.0 x p.1) >>= (λ p. run hook (climb p.0 m) (inner x) p.1))
      by-next f p h false i =
          unary_splits m x (a ∷ (b ∷ us)) le (rw (h, f, p, i) refl)
          ∙ ap (λ o. o >>= (λ q. run hook (climb q.0 m) (inner x) q.1)) (private-refused hook x a (b ∷ us) p h)
          ∙ none_named m x a b us h i
      by-next f p h true i =
          knot hook (at (Level (suc m))) x (a ∷ (b ∷ us))
          ∙ ap (λ v. exec hook (run hook) (Some 12) v (a ∷ (b ∷ us)))
          (if_on (begins_private (nat_lt m 7) x (a ∷ (b ∷ us))) _ _ (rw (h, f, p, i) refl))
          ∙ private_named m x a b us h p i

  pub operand_splits : (m : ℕ) (x : Scope) (ts : List TokenAndSpan) → m ≤ 10 → run hook (at (Level (suc m))) x ts
      ≡ (operand hook (nat_lt m 7) x ts >>= (λ p. run hook (climb p.0 m) (inner x) p.1))
  unfolding operand
  operand_splits m x ts le = by-place (is_private_here (nat_lt m 7) x ts) refl
    where
      by-place : (b : Bool) → is_private_here (nat_lt m 7) x ts ≡ b → run hook (at (Level (suc m))) x ts
          ≡ ((if b then (private_operand hook x ts >>= (λ p. behind_operand hook p.0 x p.1)) else run hook
          (at Unary) x ts)
          >>= (λ p. run hook (climb p.0 m) (inner x) p.1))
      by-place false z = unary_splits m x ts le (not_private (nat_lt m 7) x.syntax.pedantic _ _ z)
      by-place true z = private_splits m x ts le z

  -- what is right of an operator
  pub right_splits : (op : BinaryOp) (m : ℕ) (x : Scope) (ts : List TokenAndSpan) → m ≡ min_right op
      → run hook (at (Level (suc (min_right op)))) x ts
      ≡ (operand hook (nat_lt m 7) x ts >>= (λ p. run hook (climb p.0 m) (inner x) p.1))
  right_splits op m x ts e =
      let low = right-low op in
      ap (λ v. run hook (at (Level (suc v))) x ts) (sym e) ∙ operand_splits m x ts (let l = low.1 in omega arith)

  turn_by : (b : Bool) (op : BinaryOp) (l : Tree F C K) (m : ℕ) (x : Scope) (ts : List TokenAndSpan)
      → exec hook (run hook) (Some 1)
      ((if b then gives (l, None) else take (λ t. bin_op_plan op l m x)) ▸ (λ r. turned_plan r.0 r.1 x)) ts
      ≡ (exec hook (run hook) None (if b then gives (l, None) else take (λ t. bin_op_plan op l m x)) ts
      >>= (λ p. exec hook (run hook) None (turned_plan p.0.0 p.0.1 x) p.1))
  turn_by true op l m x ts = refl
  turn_by false op l m x [] = refl
  turn_by false op l m x (t ∷ ts) =
      exec-bind hook (bin_op_plan op l m x) (λ r. turned_plan r.0 r.1 x) ts
      ∙ calls (exec hook (run hook) None (bin_op_plan op l m x) ts)
      (λ r us. exec hook (run hook) None (turned_plan r.0 r.1 x) us)

  turn_at : (o : Option BinaryOp) (l : Tree F C K) (m : ℕ) (x : Scope) (ts : List TokenAndSpan)
      → exec hook (run hook) (Some 1) (turn_plan o l m x ▸ (λ r. turned_plan r.0 r.1 x)) ts
      ≡ (exec hook (run hook) None (turn_plan o l m x) ts >>=
      (λ p. exec hook (run hook) None (turned_plan p.0.0 p.0.1 x) p.1))
  turn_at None l m x ts = refl
  turn_at (Some op) l m x ts = turn_by (nat_le (precedence_of op) m) op l m x ts

  pub climb_splits : (l : Tree F C K) (m : ℕ) (x : Scope) (ts : List TokenAndSpan)
      → run hook (climb l m) x ts ≡ (turn hook l m x ts >>= (λ p. turned hook p.0.0 p.0.1 x p.1))
  unfolding turn turned reading
  climb_splits l m x ts = knot hook (climb l m) x ts ∙ turn_at (operator_at x.context (first ts)) l m x ts

  pub turned_well : (t : Tree F C K) (o : Option ℕ) (x : Scope) (ts : List TokenAndSpan) → left_ok t ≡ true
      → turned hook t o x ts ≡ go_on hook t o x ts
  unfolding turned reading
  turned_well t None x ts h = rw h refl
  turned_well t (Some m) x ts h = rw h (last hook None (climb t m) x ts refl)

  pub turned_ill : (t : Tree F C K) (o : Option ℕ) (x : Scope) (ts : List TokenAndSpan) → left_ok t ≡ false
      → turned hook t o x ts ≡ None
  unfolding turned reading
  turned_ill t o x ts h = rw h refl

  pub turn_ends : (l : Tree F C K) (m : ℕ) (x : Scope) (ts : List TokenAndSpan)
      → operator_at x.context (first ts) ≡ None → turn hook l m x ts ≡ Some ((l, None), ts)
  unfolding turn reading
  turn_ends l m x ts h = rw h refl

  pub turn_low : (l : Tree F C K) (m : ℕ) (op : BinaryOp) (x : Scope) (ts : List TokenAndSpan)
      → operator_at x.context (first ts) ≡ Some op → precedence_of op ≤ m → turn hook l m x ts ≡ Some ((l, None), ts)
  unfolding turn reading
  turn_low l m op x ts h le = rw (h, le-leb (precedence_of op) m le) refl

  pub turn_takes : (l : Tree F C K) (m : ℕ) (op : BinaryOp) (x : Scope) (ts : List TokenAndSpan)
      → operator_at x.context (first ts) ≡ Some op → m < precedence_of op
      → turn hook l m x ts ≡ bin_op hook op l m x (rest ts)
  unfolding turn bin_op reading
  turn_takes l m op x [] h lt = cc
  turn_takes l m op x (t ∷ ts) h lt = rw (h, lt-leb (precedence_of op) m lt) refl

  pub bin_op_splits : (op : BinaryOp) (l : Tree F C K) (m : ℕ) (x : Scope) (ts : List TokenAndSpan) → exp_ok op l ≡ true
      → bin_op hook op l m x ts
      ≡ (run hook (at (Level (suc (min_right op)))) (inner x) ts >>= (λ p. bin_op_node hook op l m p.0 p.1))
  unfolding bin_op bin_op_node reading
  bin_op_splits op l m x ts h = rw h (calls (run hook (at (Level (suc (min_right op)))) (inner x) ts) _)

  pub bin_op_ends : (op : BinaryOp) (l : Tree F C K) (m : ℕ) (x : Scope) (ts : List TokenAndSpan) → exp_ok op l ≡ false
      → bin_op hook op l m x ts ≡ None
  unfolding bin_op reading
  bin_op_ends op l m x ts h = rw h refl

  pub bin_op_well : (op : BinaryOp) (l t : Tree F C K) (m : ℕ) (ts : List TokenAndSpan) → nullish_ok op l t ≡ true
      → bin_op_node hook op l m t ts ≡ Some ((bin_e (to (span_of l) (span_of t)) op l t, Some m), ts)
  unfolding bin_op_node reading
  bin_op_well op l t m ts h = rw h refl

  pub bin_op_ill : (op : BinaryOp) (l t : Tree F C K) (m : ℕ) (ts : List TokenAndSpan) → nullish_ok op l t ≡ false
      → bin_op_node hook op l m t ts ≡ None
  unfolding bin_op_node reading
  bin_op_ill op l t m ts h = rw h refl

  -- ---- `#` and a name (13.10)

  pub private_expr_opens : (t : TokenAndSpan) (x : Scope) (ts : List TokenAndSpan) → is_hash t.token ≡ true
      → by_production hook (λ c. private-expr) x (t ∷ ts) ≡ private_expr_tail hook t.span x ts
  unfolding by_production private_expr_tail reading
  private_expr_opens t x ts h = rw h refl

  abbrev alone_side : Span → Scope → Spelling → Side F C K Primary
  alone_side s x n = check (not x.syntax.pedantic) (gives (private_e (to s n.at) n.text))

  name_alone : (s : Span) (x : Scope) (ts : List TokenAndSpan) (o : Option Spelling)
      → exec hook (run hook) None (plan (given o ▸ alone_side s x)) ts
      ≡ (one o ts >>= (λ p. if not x.syntax.pedantic then Some (private_e (to s p.0.at) p.0.text, p.1) else None))
  name_alone s x ts None = refl
  name_alone s x ts (Some n) = refl

  pub private_expr_splits : (s : Span) (x : Scope) (ts : List TokenAndSpan)
      → private_expr_tail hook s x ts ≡ (word may_name x ts >>= (λ p. if not x.syntax.pedantic then
      Some (private_e (to s p.0.at) p.0.text, p.1) else None))
  unfolding private_expr_tail reading word
  private_expr_splits s x [] = refl
  private_expr_splits s x (t ∷ ts) = name_alone s x ts (any_name x t.token t.span)

  -- ---- assignment expressions (13.15)

  error_token : (x : Scope) (t : Token) (b : Bool) (s : Span) (ts : List TokenAndSpan) → no_error t ≡ false
      → run hook (at Assign) x (tk t b s ∷ ts) ≡ None
  error_token x (token.Error e) b s ts h = knot hook (at Assign) x (tk (token.Error e) b s ∷ ts)
  error_token x t b s ts h = absurd cc

  pub assign_bad : (x : Scope) (ts : List TokenAndSpan) → at_token no_error (first ts) ≡ false
      → run hook (at Assign) x ts ≡ None
  assign_bad x [] h = knot hook (at Assign) x []
  assign_bad x (t ∷ ts) h = error_token x t.token t.had_line_break t.span ts h

  pub inside_assign : (x : Scope) (ts : List TokenAndSpan) → inside hook x ts ≡ run hook (at Assign) (with_in x) ts
  unfolding inside
  inside_assign x ts = refl
