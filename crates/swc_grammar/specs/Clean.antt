-- The clean parser: the grammar's readings, computed. From the tokens to come it answers a tree and the tokens left, or
-- nothing where the code refuses or records a fault. By what comes first it picks one of the grammar's productions,
-- whose right-hand side is then run as it is, so what is read is derived by construction. It is a private measure of
-- the code: what is promised to callers speaks of the grammar.
use Rattle.std.specs.Prelude.{ℕ, zero, suc, ◌+◌, ◌-◌, ◌*◌, ◌≤◌, Bool, true, false, not, ◌&&◌, ◌||◌, if◌then◌else◌, List, [], ◌∷◌, Option, Some, None, ◌≡◌, length, take as front, nat_le, nat_lt}
use Rattle.swc_context.specs.{Contexts.arrow_body, Operators.precedence_of, declared.context.Context.Context, declared.operator.AssignOp.AssignOp as write, declared.operator.BinaryOp.BinaryOp, declared.operator.UnaryOp.UnaryOp, declared.span.Span.Span, declared.word.Word.Word as written}
use Rattle.swc_input.specs.{declared.token.Token.Token, declared.token.Token.Token as token, declared.token.TokenAndSpan.TokenAndSpan, Kinds.at_token, Kinds.is_hash}
use Rattle.swc_ast.specs.Tree.{Tree, Trees, nil, cons, span_of}
use Rattle.swc_ast.specs.Trees.{to, bin_e, new_e, bare_new_e, is_chain, items_of, nullish_ok, left_ok, exp_ok, min_right, trees_append, update_e, cond_e, assign_e, exprs_e, seq_of, is_operation, paren_e, paren_ok, held_exprs, listed, ident_e, call_e, covers_ok, arrow_e, private_e}
use Rattle.swc_ast.specs.{Targets.is_target as is_simple_target, Patterns.default_p}
use Rattle.swc_bodies.specs.Readings.{whole_span, Hook, begins, begins_function, is_class, is_brace, is_async}
use Rattle.swc_grammar.specs.Scope.{Scope, in_context, with_head, at_head, inner}
use Rattle.swc_grammar.specs.Rule.{Rule, gives, never, take, check, peek, peek_two, read, hear, sees, sees_two, ◌>>=◌, ◌>>◌, symbol, must, given, token as a_token, one, one_on_line, token_on_line, ahead}
use Rattle.swc_grammar.specs.Symbols.{Symbol, Expr, Exprs, Assign, Level, Unary, Lhs, Left, Arguments, Args, ArgsTail, Primary, Literal, Template, Parts, Base, Elements, ElementsTail, Item, Props, PropsTail, Prop, Key, AfterKey, Shell, Answer, Body, Value, Pat, Element, Rest, PatElements, PatElementsTail, PatProps, PatPropsTail, PatProp, Params, ParamsTail, ArrowParams, ArrowBody, reading_of, Side}
use Rattle.swc_grammar.specs.Arrows.{is_arrow, is_arrow_word, is_block, is_sign, async_name, is_bindable, before_of}
use Rattle.swc_grammar.specs.Grammar.{covered-params, arrow-name, body-block, body-expr, arrow-async-name, async-ident, async-call, Production, ident-expr, lit, paren-expr, unary-op, private-expr, update-prefix, await-expr, await-ident, yield-alone, yield-expr, yield-star, member-name, member-private, member-computed, call, args-end, args-more, args-tail-end, args-tail-more, new-target, chain-name, chain-private, chain-computed, chain-call, tagged-tpl, arguments, primary-template, template, parts-end, parts-more, regex-alone, regex-slash, base-primary, super-name, super-computed, super-call, import-meta, import-call, import-source, primary-literal, this-expr, array-lit, fn-expr, class-expr, elements-end, elements-hole, elements-more, tail-end, tail-more, item-expr, item-spread, object-lit, props-end, props-more, props-tail-end, props-tail-more, prop-spread, prop-short, prop-cover, prop-key, prop-generator, prop-async, prop-async-generator, prop-getter, prop-setter, after-value, after-shell, shell-block, key-name, key-literal, key-computed, pat-bind, pat-array, pat-object, pat-rest, pat-elements-end, pat-elements-hole, pat-elements-more, pat-elements-rest, pat-tail-end, pat-tail-more, pat-props-end, pat-props-more, pat-props-rest, pat-props-tail-end, pat-props-tail-more, pat-prop-key, pat-prop-short, pat-prop-default, params-end, params-more, params-rest, params-tail-end, params-tail-more}
use Rattle.swc_grammar.specs.Names.{Spelling}
use Rattle.swc_grammar.specs.Cover.{as_literal, is_pattern, as_params, arrow_params_ok}
use Rattle.swc_grammar.specs.Tokens.{is_ref, at_word, binary_where, prefix_of, is_lparen, is_this, is_lbracket, is_rbracket, is_comma, is_reference, is_dots, is_rbrace, is_colon, is_star, is_equals, is_word, is_get, is_set, with_in, is_super, is_import, is_source, is_update, is_assign, is_await, is_yield, ends_await, yield_ok, goes_on_yield, is_in, is_question, is_dot, is_rparen, is_new, is_backquote, is_slash, is_regex, ends_prop, follows_key}
use Rattle.swc_grammar.specs.Parts.{update_here, assign_here, any_name, private_ok}

-- what was read, and the tokens left
abbrev pub Out : Type 0 → Type 0
Out A = Option (A × List TokenAndSpan)

abbrev pub and_then : {A B : Type 0} → Out A → (A → List TokenAndSpan → Out B) → Out B
and_then None f = None
and_then (Some p) f = f p.0 p.1

abbrev pub first : List TokenAndSpan → Option TokenAndSpan
first [] = None
first (t ∷ ts) = Some t

abbrev pub second : List TokenAndSpan → Option TokenAndSpan
second [] = None
second (t ∷ ts) = first ts

abbrev pub third : List TokenAndSpan → Option TokenAndSpan
third [] = None
third (t ∷ ts) = second ts

-- the tokens that are before the ones left
abbrev pub before : List TokenAndSpan → List TokenAndSpan → List TokenAndSpan
before ts us = front (length ts - length us) ts

-- what the hook read, where it took a token, with the place of what it took
abbrev pub hear_then : {V A : Type 0} → Out V → List TokenAndSpan → (V → Span → List TokenAndSpan → Out A) → Out A
hear_then None ts f = None
hear_then (Some p) ts f = if nat_lt (length p.1) (length ts) then f p.0 (whole_span (before ts p.1)) p.1 else None

-- Where the recursion goes on: at a symbol; after a left-hand side that was read so far, at its links, with calls or
-- without; after `new`, at its place, and what is constructed, at the arguments, or none; after a left-hand side, at
-- `++` or `--`; after an operand, at the operators above the precedence m; after what these are read to, at `?` or an
-- operator that writes; and after expressions with commas between them, at the next comma.
pub data Call (F C K : Type 0) : Type 0 where
  sym : Symbol → Call F C K
  links : Bool → Tree F C K → Call F C K
  constructs : Bool → Span → Tree F C K → Call F C K
  updates : Tree F C K → Call F C K
  climb : Tree F C K → ℕ → Call F C K
  assigns : Tree F C K → Call F C K
  seqs : Trees F C K → Call F C K
  defaults : Tree F C K → Call F C K
  -- after a list in parentheses, at its place, where an arrow may be; and after `async` and such a list
  parens : Span → Tree F C K → Call F C K
  asyncs : Spelling → Tree F C K → Call F C K

-- what a call gives
abbrev pub Ans : (F C K : Type 0) → Call F C K → Type 0
Ans F C K (sym s) = Answer F C K s
Ans F C K (links b l) = Tree F C K
Ans F C K (constructs b s l) = Tree F C K
Ans F C K (updates l) = Tree F C K
Ans F C K (climb l m) = Tree F C K
Ans F C K (assigns e) = Tree F C K
Ans F C K (seqs es) = Tree F C K
Ans F C K (defaults p) = Tree F C K
Ans F C K (parens s es) = Tree F C K
Ans F C K (asyncs n es) = Tree F C K

-- what is run: a right-hand side, with calls in place of symbols
abbrev pub Plan : (F C K : Type 0) → Type 0 → Type 0
Plan F C K A = Rule (Call F C K) (Ans F C K) Body (Value F C K) A

abbrev pub plan : {F C K A : Type 0} → Rule Symbol (Answer F C K) Body (Value F C K) A → Plan F C K A
plan (gives a) = gives a
plan never = never
plan (take f) = take (λ t. plan (f t))
plan (check b r) = check b (plan r)
plan (peek p r) = peek p (plan r)
plan (peek_two p r) = peek_two p (plan r)
plan (read s c f) = read (sym s) c (λ e. plan (f e))
plan (hear b c f) = hear b c (λ v s. plan (f v s))

-- Which calls may come first in which, before a token: those of a lower rank. So the recursion ends.
abbrev pub rank_of : Symbol → ℕ
rank_of Expr = 15
rank_of Exprs = 15
rank_of Assign = 14
rank_of (Level k) = 12
rank_of Unary = 11
rank_of (Lhs b) = 10
rank_of (Left b) = 9
rank_of (Base b) = 9
rank_of (Arguments i) = 9
rank_of (Args i) = 17
rank_of (ArgsTail i) = 5
rank_of Primary = 8
rank_of Literal = 6
rank_of (Template is_tagged) = 6
rank_of (Parts is_tagged) = 6
rank_of Elements = 17
rank_of ElementsTail = 5
rank_of Item = 16
rank_of Props = 5
rank_of PropsTail = 2
rank_of Prop = 4
rank_of Key = 3
rank_of AfterKey = 3
rank_of (Shell is_async is_generator) = 2
rank_of Pat = 2
rank_of Element = 3
rank_of Rest = 2
rank_of PatElements = 4
rank_of PatElementsTail = 2
rank_of PatProps = 5
rank_of PatPropsTail = 2
rank_of PatProp = 4
rank_of Params = 4
rank_of ParamsTail = 2
rank_of ArrowParams = 2
rank_of (ArrowBody is_async) = 15

abbrev pub rank : {F C K : Type 0} → Call F C K → ℕ
rank (sym s) = rank_of s
rank (links b l) = 1
rank (constructs b s l) = 1
rank (updates l) = 1
rank (climb l m) = 1
rank (assigns e) = 1
rank (seqs es) = 1
rank (defaults p) = 1
rank (parens s es) = 2
rank (asyncs n es) = 2

abbrev pub measure : {F C K : Type 0} → Call F C K → List TokenAndSpan → ℕ
measure k ts = 20 * length ts + rank k

-- whether a call of the rank n may be here: a token was taken before, or its rank is below
abbrev pub allowed : Option ℕ → ℕ → Bool
allowed None n = true
allowed (Some m) n = nat_lt n m

abbrev pub Runs : (F C K : Type 0) → Type 0
Runs F C K = (k : Call F C K) → Scope → List TokenAndSpan → Out (Ans F C K k)

-- a right-hand side run, from what the calls read; g is the rank below which a call may come first
abbrev pub exec : {F C K A : Type 0} → Hook F C K → Runs F C K → Option ℕ → Plan F C K A → List TokenAndSpan → Out A
exec hook run g (gives a) ts = Some (a, ts)
exec hook run g never ts = None
exec hook run g (take f) [] = None
exec hook run g (take f) (t ∷ ts) = exec hook run None (f t) ts
exec hook run g (check b r) ts = if b then exec hook run g r ts else None
exec hook run g (peek p r) ts = if sees p ts then None else exec hook run g r ts
exec hook run g (peek_two p r) ts = if sees_two p ts then None else exec hook run g r ts
exec hook run g (read k c f) ts =
    if allowed g (rank k) then and_then (run k c ts) (λ e us. exec hook run g (f e) us) else None
exec hook run g (hear b c f) ts =
    hear_then (reading_of hook b c.context ts) ts (λ v s us. exec hook run None (f v s) us)

-- Tests of what comes first.
abbrev pub is_lit : Token → Bool
is_lit (token.Word written.Null) = true
is_lit (token.Word written.True) = true
is_lit (token.Word written.False) = true
is_lit (token.Num raw) = true
is_lit (token.BigInt raw) = true
is_lit (token.Str value raw) = true
is_lit t = false

abbrev pub is_identifier : Context → Token → Bool
is_identifier c t = at_word (λ w. is_ref c w) t

-- no fault of the text is in its place
abbrev pub no_error : Token → Bool
no_error (token.Error e) = false
no_error t = true

-- the operators that are read where a token is
abbrev pub operator_where : Bool → Option TokenAndSpan → Option BinaryOp
operator_where include_in None = None
operator_where include_in (Some t) = binary_where include_in t.token

abbrev pub operator_at : Context → Option TokenAndSpan → Option BinaryOp
operator_at c t = operator_where c.include_in_expr t

abbrev pub prefix_at : Option TokenAndSpan → Option UnaryOp
prefix_at None = None
prefix_at (Some t) = prefix_of t.token

-- no operator is read at ys that binds tighter than the precedence m
abbrev pub Bound : Scope → ℕ → List TokenAndSpan → Type 0
Bound c m ys = (op : BinaryOp) → operator_at c.context (first ys) ≡ Some op → precedence_of op ≤ m

-- no `=>` comes next, not even on a line of its own
abbrev pub no_arrow : List TokenAndSpan → Bool
no_arrow ts = not (at_token is_arrow (first ts))

-- no link of a left-hand side comes next: `.`, `[`, a backquote, `?` and then `.`, and `(` where it may hold calls
abbrev pub no_link_at : Bool → Option TokenAndSpan → Option TokenAndSpan → Bool
no_link_at b None u = true
no_link_at b (Some t) u =
    not (is_dot t.token) && (not (is_lbracket t.token) && (not (is_backquote t.token)
    && (not (is_question t.token && at_token is_dot u) && not (b && is_lparen t.token))))

abbrev pub no_link : Bool → List TokenAndSpan → Bool
no_link b ts = no_link_at b (first ts) (second ts)

-- no `++` or `--` on the same line; no link, no `=>`, and none of these; and no `?`, and no operator that writes,
-- either
abbrev pub no_update_at : Option TokenAndSpan → Bool
no_update_at None = true
no_update_at (Some t) = not (is_update t.token) || t.had_line_break

abbrev pub ends_unary : List TokenAndSpan → Bool
ends_unary ts = (no_link true ts && no_arrow ts) && no_update_at (first ts)

abbrev pub no_assign_at : Option TokenAndSpan → Bool
no_assign_at None = true
no_assign_at (Some t) = not (is_question t.token) && not (is_assign t.token)

abbrev pub ends_assign : List TokenAndSpan → Bool
ends_assign ts = ends_unary ts && no_assign_at (first ts)

-- `yield`, where it is an operator; whether what is after it goes on with it; and whether what is after `await` makes
-- it an identifier, outside async code
abbrev pub begins_yield : Scope → List TokenAndSpan → Bool
begins_yield c ts = at_token is_yield (first ts) && c.context.in_generator

abbrev pub goes_on_yield_at : Option TokenAndSpan → Bool
goes_on_yield_at None = false
goes_on_yield_at (Some t) = goes_on_yield t

abbrev pub ends_await_at : Option TokenAndSpan → Bool
ends_await_at None = true
ends_await_at (Some t) = ends_await t

-- `new`, but for `new.target`
abbrev pub begins_new : List TokenAndSpan → Bool
begins_new ts = at_token is_new (first ts) && not (at_token is_dot (second ts))

-- A reference alone, and `=>` after it on its line: an arrow function and no other expression, even where that name may
-- not be or not be bound (an early error, which the code records).
abbrev pub is_alone : Context → Token → Bool
is_alone c t = at_word (λ w. is_reference c w && is_arrow_word w) t

abbrev pub is_arrow_here : Option TokenAndSpan → Bool
is_arrow_here None = false
is_arrow_here (Some t) = not t.had_line_break && is_arrow t.token

abbrev pub begins_arrow : Scope → List TokenAndSpan → Bool
begins_arrow c ts = at_token (is_alone c.context) (first ts) && is_arrow_here (second ts)

-- `async`, and on its line `(`, or a word that may be bound; where that may be `of` alone, `=>` after it
abbrev pub is_lparen_here : Option TokenAndSpan → Bool
is_lparen_here None = false
is_lparen_here (Some t) = not t.had_line_break && is_lparen t.token

abbrev pub is_bindable_here : Scope → Option TokenAndSpan → Bool
is_bindable_here c None = false
is_bindable_here c (Some t) = not t.had_line_break && is_bindable c t.token

abbrev pub before_of_here : Scope → Option TokenAndSpan → Bool
before_of_here c None = false
before_of_here c (Some t) = before_of c t.token

abbrev pub begins_async_name : Scope → List TokenAndSpan → Bool
begins_async_name c ts =
    at_token is_async (first ts)
    && (is_bindable_here c (second ts) && not (before_of_here c (second ts) && not (at_token is_arrow (third ts))))

abbrev pub begins_async_list : List TokenAndSpan → Bool
begins_async_list ts = at_token is_async (first ts) && is_lparen_here (second ts)

-- Where the syntax is pedantic, `#` and a name that an `in` follows, if that isn't taken by an operator before them.
abbrev pub begins_private : Bool → Scope → List TokenAndSpan → Bool
begins_private is_free c ts =
    at_token is_hash (first ts) && (is_free && (c.syntax.pedantic && at_token is_in (third ts)))

-- where a symbol's reading stops for the clean parser: nothing goes on that it would take too
abbrev pub Stop : Symbol → Scope → List TokenAndSpan → Type 0
Stop Primary c ys = no_arrow ys ≡ true
Stop Literal c ys = Unit {0}
Stop (Template is_tagged) c ys = Unit {0}
Stop (Parts is_tagged) c ys = Unit {0}
Stop Unary c ys = ends_unary ys ≡ true
Stop (Lhs b) c ys = (no_link true ys && no_arrow ys) ≡ true
Stop (Left b) c ys = ⊥
Stop (Base b) c ys = no_arrow ys ≡ true
Stop (Arguments i) c ys = Unit {0}
Stop (Args i) c ys = Unit {0}
Stop (ArgsTail i) c ys = Unit {0}
Stop Elements c ys = Unit {0}
Stop ElementsTail c ys = Unit {0}
Stop Props c ys = Unit {0}
Stop PropsTail c ys = Unit {0}
Stop Prop c ys = at_token ends_prop (first ys) ≡ true
Stop Key c ys = Unit {0}
Stop AfterKey c ys = (ends_assign ys ≡ true) × Bound (with_in c) 0 ys
Stop (Shell is_async is_generator) c ys = Unit {0}
Stop (Level zero) c ys = ⊥
Stop (Level (suc n)) c ys = (n ≤ 10) × (ends_unary ys ≡ true) × Bound c n ys
Stop Expr c ys = ((ends_assign ys && not (at_token is_comma (first ys))) ≡ true) × Bound c 0 ys
Stop Exprs c ys = ⊥
Stop Pat c ys = Unit {0}
Stop Element c ys = (ends_assign ys ≡ true) × Bound (with_in c) 0 ys
Stop Rest c ys = Unit {0}
Stop PatElements c ys = Unit {0}
Stop PatElementsTail c ys = Unit {0}
Stop PatProps c ys = Unit {0}
Stop PatPropsTail c ys = Unit {0}
Stop PatProp c ys = (ends_assign ys ≡ true) × Bound (with_in c) 0 ys × (at_token is_colon (first ys) ≡ false)
Stop Params c ys = Unit {0}
Stop ParamsTail c ys = Unit {0}
Stop ArrowParams c ys = Unit {0}
Stop (ArrowBody is_async) c ys = (ends_assign ys ≡ true) × Bound (in_context (arrow_body is_async) c) 0 ys
Stop Assign c ys = (ends_assign ys ≡ true) × Bound c 0 ys
Stop Item c ys = (ends_assign ys ≡ true) × Bound c 0 ys

-- a choice: none of a symbol's productions, or one; or one after which no `=>` may come next, which would be read as
-- that of an arrow function
pub data Choice (F C K : Type 0) (s : Symbol) (c : Scope) : Type 0 where
  none : Choice F C K s c
  pick : {r : Side F C K s} → Production s c r → Choice F C K s c
  pick_apart : {r : Side F C K s} → Production s c r → Choice F C K s c

-- what a left-hand side goes on with: no link, or one, which a token begins; the same whether an assignment expression
-- begins with it or not
pub data Link (F C K : Type 0) (b : Bool) (c : Scope) : Type 0 where
  no_more : Link F C K b c
  more : {f : Tree F C K → TokenAndSpan → Side F C K (Left b)}
      → ((i : Bool) → Production (Left b) (with_head i c) (read (Left b) (with_head i c) (λ l. take (λ t. f l t))))
      → Link F C K b c

module _ {F C K : Type 0} where
  abbrev pub apart : {A : Type 0} → A → Plan F C K A
  apart e = peek (λ t. is_arrow t.token) (gives e)

  abbrev pub chosen : {s : Symbol} {c : Scope} → Choice F C K s c → Plan F C K (Answer F C K s)
  chosen none = never
  chosen (pick {r = r} p) = plan r
  chosen (pick_apart {r = r} p) = plan r >>= apart

  -- What is after a part that was read: after a left-hand side `++` or `--`; after operators `?` and the rest of a
  -- conditional, or an operator that writes and what it writes; after expressions a comma and one more.
  abbrev pub update_tail : Scope → Tree F C K → Side F C K Unary
  update_tail c l = do
    (op, s) ← one_on_line update_here
    must (is_simple_target c.context.strict l)
    gives (update_e (to (span_of l) s) op false l)

  abbrev pub cond_tail : Scope → Tree F C K → Side F C K Assign
  cond_tail c t = do
    a_token is_question
    e ← symbol Assign (with_in c)
    a_token is_colon
    a ← symbol Assign c
    gives (cond_e (to (span_of t) (span_of a)) t e a)

  abbrev pub assign_tail : Scope → Tree F C K → Side F C K Assign
  assign_tail c l = do
    op ← one assign_here
    must (is_simple_target c.context.strict l)
    r ← symbol Assign c
    gives (assign_e (to (span_of l) (span_of r)) op l r)

  abbrev pub pattern_tail : Scope → Tree F C K → Side F C K Assign
  pattern_tail c l = do
    a_token is_equals
    p ← given (as_literal c.context.strict l)
    r ← symbol Assign c
    gives (assign_e (to (span_of l) (span_of r)) write.Assign p r)

  abbrev pub writes_tail : Scope → Tree F C K → Side F C K Assign
  writes_tail c l = if is_pattern l then pattern_tail c l else assign_tail c l

  abbrev pub default_tail : Scope → Tree F C K → Side F C K Element
  default_tail c p = do
    a_token is_equals
    e ← symbol Assign (with_in c)
    gives (default_p (to (span_of p) (span_of e)) p e)

  abbrev pub exprs_next : Scope → Trees F C K → TokenAndSpan → Side F C K Exprs
  exprs_next c es t = do
    must (is_comma t.token)
    e ← symbol Assign c
    gives (exprs_e (trees_append es (cons e nil)))

  abbrev pub exprs_tail : Scope → Trees F C K → Plan F C K (Tree F C K)
  exprs_tail c es = take (λ t. plan (exprs_next c es t) >>= (λ x. symbol (seqs (items_of x)) c))

  -- The choices.
  abbrev pub expr : Scope → Plan F C K (Tree F C K)
  expr c = do
    e ← symbol (sym Assign) c
    symbol (seqs (cons e nil)) c

  -- after `yield`: an operand or none, by the token that is there
  abbrev pub yield_by : (c : Scope) → Option TokenAndSpan → Choice F C K Assign c
  yield_by c u =
      if not (yield_ok c.context) then none else
      (if not (goes_on_yield_at u) then pick yield-alone else
      (if at_token is_star u then pick yield-star else pick yield-expr))

  abbrev pub assigned : Scope → Plan F C K (Tree F C K)
  assigned c = do
    e ← symbol (sym (Level 1)) (at_head c)
    symbol (assigns e) c

  -- a list in parentheses, of which the token after it tells what it is
  abbrev pub listed_head : Scope → Plan F C K (Tree F C K)
  listed_head c = take (λ t. do
    es ← symbol (sym (Args false)) (with_in c)
    symbol (parens t.span es) c)

  -- the same after `async`
  abbrev pub async_head : Scope → Plan F C K (Tree F C K)
  async_head c = do
    n ← one (async_name c)
    token_on_line is_lparen
    es ← symbol (sym (Args false)) (with_in c)
    symbol (asyncs n es) c

  abbrev pub assign : (c : Scope) → List TokenAndSpan → Plan F C K (Tree F C K)
  assign c ts =
      if begins_yield c ts then chosen (yield_by c (second ts)) else
      (if begins_arrow c ts then chosen (pick (arrow-name {c = c})) else
      (if at_token is_lparen (first ts) then listed_head c else
      (if begins_async_name c ts then chosen (pick (arrow-async-name {c = c})) else
      (if begins_async_list ts then async_head c else
      (if at_token no_error (first ts) then assigned c else never)))))

  -- after that list: the rest of an arrow function, or what is after an expression in parentheses
  abbrev pub arrow_tail : Scope → Tree F C K → Side F C K Assign
  arrow_tail c hs = do
    token_on_line is_arrow
    b ← symbol (ArrowBody false) c
    ahead (λ t. is_block b && is_sign t.token)
    gives (arrow_e (to (span_of hs) (span_of b)) false b (items_of hs))

  abbrev pub arrow_params_tail : Scope → Span → Tree F C K → Side F C K Assign
  arrow_params_tail c s es = do
    ps ← given (as_params es)
    must (arrow_params_ok c.context ps)
    arrow_tail c (listed None (to s (span_of es)) ps)

  abbrev pub behind_base : Scope → Tree F C K → Plan F C K (Tree F C K)
  behind_base c e = do
    l ← symbol (links true e) (inner c)
    u ← symbol (updates l) (inner c)
    k ← symbol (climb u 0) (inner c)
    symbol (assigns k) c

  abbrev pub paren_tail : Scope → Span → Tree F C K → Plan F C K (Tree F C K)
  paren_tail c s es =
      check (paren_ok c.syntax.pedantic es) (behind_base c
      (paren_e (to s (span_of es)) (seq_of (held_exprs (items_of es)))))

  -- after that list after `async`: the rest of an arrow function, or what is after a call
  abbrev pub async_arrow_tail : Scope → Spelling → Tree F C K → Side F C K Assign
  async_arrow_tail c n hs = do
    token_on_line is_arrow
    b ← symbol (ArrowBody true) c
    ahead (λ t. is_block b && is_sign t.token)
    gives (arrow_e (to n.at (span_of b)) true b (items_of hs))

  abbrev pub async_params_tail : Scope → Spelling → Tree F C K → Side F C K Assign
  async_params_tail c n es = do
    ps ← given (as_params es)
    must (arrow_params_ok c.context ps)
    async_arrow_tail c n (listed None n.at ps)

  abbrev pub async_tail : Scope → Spelling → Tree F C K → Plan F C K (Tree F C K)
  async_tail c n es =
      check (covers_ok c.syntax.pedantic es)
      (behind_base c (call_e (to n.at (span_of es)) (ident_e n.at n.text) (items_of es)))

  -- after `await`: an operand or none, by the token that is there
  abbrev pub await_by : (c : Scope) → Option TokenAndSpan → Choice F C K Unary c
  await_by c u =
      if at_token is_star u then none else
      (if not c.context.in_async && ends_await_at u then pick await-ident else pick await-expr)

  abbrev pub operand : Scope → Plan F C K (Tree F C K)
  operand c = do
    l ← symbol (sym (Lhs true)) c
    symbol (updates l) (inner c)

  abbrev pub unary_by : (c : Scope) → Option UnaryOp → Plan F C K (Tree F C K)
  unary_by c None = operand c
  unary_by c (Some op) = chosen (pick (unary-op {c = c}))

  abbrev pub unary : (c : Scope) → List TokenAndSpan → Plan F C K (Tree F C K)
  unary c ts =
      if at_token is_update (first ts) then chosen (pick (update-prefix {c = c})) else
      (if at_token is_await (first ts) then chosen (await_by c (second ts)) else unary_by c (prefix_at (first ts)))

  -- `#` and a name as an operand, where these begin one; operators above the precedence m go on from it
  abbrev pub private_operand : Scope → Plan F C K (Tree F C K)
  private_operand c = do
    s ← a_token is_hash
    n ← one (any_name c)
    must (private_ok c s n.at)
    gives (private_e (to s n.at) n.text)

  abbrev pub level : ℕ → Scope → List TokenAndSpan → Plan F C K (Tree F C K)
  level m c ts =
      if begins_private (nat_lt m 7) c ts then (private_operand c >>= (λ e. symbol (climb e m) (inner c))) else
      (must (nat_le m 10) >> symbol (sym Unary) c >>= (λ e. symbol (climb e m) (inner c)))

  -- a left-hand side with what it goes on with
  abbrev pub linked : {b : Bool} {c : Scope} → Link F C K b c → Tree F C K → Plan F C K (Tree F C K)
  linked no_more l = gives l
  linked {b = b} {c = c} (more {f = f} p) l = take (λ t. plan (f l t) >>= (λ e. symbol (links b e) c))

  -- The link that comes next, by its first token; after a `.` by the next one, and after `?` and `.` too.
  abbrev pub dot_link : {b : Bool} {c : Scope} → Option TokenAndSpan → Link F C K b c
  dot_link u = if at_token is_hash u then more (λ i. member-private) else more (λ i. member-name)

  abbrev pub chain_link : {b : Bool} {c : Scope} → Option TokenAndSpan → Link F C K b c
  chain_link u =
      if at_token is_lbracket u then more (λ i. chain-computed) else
      (if at_token is_lparen u then more (λ i. chain-call) else
      (if at_token is_hash u then more (λ i. chain-private) else more (λ i. chain-name)))

  abbrev pub call_link : (b : Bool) {c : Scope} → Option TokenAndSpan → Link F C K b c
  call_link true t = if at_token is_lparen t then more (λ i. call) else no_more
  call_link false t = no_more

  abbrev pub link : (b : Bool) (c : Scope) → List TokenAndSpan → Link F C K b c
  link b c ts =
      if at_token is_dot (first ts) then dot_link (second ts) else
      (if at_token is_lbracket (first ts) then more (λ i. member-computed) else
      (if at_token is_backquote (first ts) then more (λ i. tagged-tpl) else
      (if at_token is_question (first ts) && at_token is_dot (second ts) then chain_link (third ts) else
      call_link b (first ts))))

  -- What a left-hand side with links begins with: where that is `super` or `import`, by the token after it, and after a
  -- `.` by the next one. And `new`, but for `new.target`: what it constructs, and its arguments, or none.
  abbrev pub super_call : (b : Bool) {c : Scope} → Choice F C K (Base b) c
  super_call true = pick super-call
  super_call false = none

  abbrev pub super_base : (b : Bool) {c : Scope} → Option TokenAndSpan → Choice F C K (Base b) c
  super_base b u =
      if at_token is_dot u then pick super-name else
      (if at_token is_lbracket u then pick super-computed else super_call b)

  abbrev pub import_call : (b : Bool) {c : Scope} → Choice F C K (Base b) c
  import_call true = pick import-call
  import_call false = none

  abbrev pub import_dot : (b : Bool) {c : Scope} → Option TokenAndSpan → Choice F C K (Base b) c
  import_dot true v = if at_token is_source v then pick import-source else pick import-meta
  import_dot false v = pick import-meta

  abbrev pub import_base : (b : Bool) {c : Scope} → Option TokenAndSpan → Option TokenAndSpan → Choice F C K (Base b) c
  import_base b u v = if at_token is_dot u then import_dot b v else import_call b

  abbrev pub base : (b : Bool) (c : Scope) → List TokenAndSpan → Choice F C K (Base b) c
  base b c ts =
      if at_token is_new (first ts) then pick new-target else
      (if at_token is_super (first ts) then super_base b (second ts) else
      (if at_token is_import (first ts) then import_base b (second ts) (third ts) else pick base-primary))

  abbrev pub constructed : Bool → Scope → Plan F C K (Tree F C K)
  constructed b c = take (λ t. do
    l ← symbol (sym (Lhs false)) (inner c)
    must (not (is_chain l))
    symbol (constructs b t.span l) (inner c))

  abbrev pub constructed_with : Bool → Span → Tree F C K → Scope → Plan F C K (Tree F C K)
  constructed_with b s l c = take (λ t. do
    es ← symbol (sym (Args false)) (with_in c)
    symbol (links b (new_e (to s (span_of es)) l (items_of es))) c)

  abbrev pub lhs : (b : Bool) (c : Scope) → List TokenAndSpan → Plan F C K (Tree F C K)
  lhs b c ts =
      if begins_new ts then constructed b c else (symbol (sym (Base b)) c >>= (λ e. symbol (links b e) (inner c)))

  abbrev pub call_args : (i : Bool) (c : Scope) → List TokenAndSpan → Choice F C K (Arguments i) c
  call_args i c ts = pick arguments

  abbrev pub args : (i : Bool) (c : Scope) → List TokenAndSpan → Choice F C K (Args i) c
  args i c ts = if at_token is_rparen (first ts) then pick args-end else pick args-more

  abbrev pub args_tail : (i : Bool) (c : Scope) → List TokenAndSpan → Choice F C K (ArgsTail i) c
  args_tail i c ts = if at_token is_comma (first ts) then pick args-tail-more else pick args-tail-end

  -- `async`, after which no `function` comes
  abbrev pub async_primary : (c : Scope) → Option TokenAndSpan → Choice F C K Primary c
  async_primary c u = if c.head && is_lparen_here u then pick_apart async-call else pick async-ident

  abbrev pub primary : (c : Scope) → List TokenAndSpan → Choice F C K Primary c
  primary c ts =
      if at_token (is_identifier c.context) (first ts) then pick ident-expr else
      (if at_token is_lit (first ts) then pick primary-literal else
      (if at_token is_lparen (first ts) then pick_apart paren-expr else
      (if at_token is_hash (first ts) then pick private-expr else
      (if at_token is_this (first ts) then pick this-expr else
      (if at_token is_lbracket (first ts) then pick array-lit else
      (if begins_function ts then pick fn-expr else
      (if at_token is_async (first ts) then async_primary c (second ts) else
      (if begins is_class ts then pick class-expr else
      (if at_token is_brace (first ts) then pick object-lit else
      (if at_token is_backquote (first ts) then pick primary-template else
      (if at_token is_slash (first ts) then pick regex-slash else
      (if at_token is_regex (first ts) then pick regex-alone else none))))))))))))

  abbrev pub tpl : (is_tagged : Bool) (c : Scope) → List TokenAndSpan → Choice F C K (Template is_tagged) c
  tpl is_tagged c ts = pick template

  abbrev pub parts : (is_tagged : Bool) (c : Scope) → List TokenAndSpan → Choice F C K (Parts is_tagged) c
  parts is_tagged c ts = if at_token is_backquote (second ts) then pick parts-end else pick parts-more

  abbrev pub literal : (c : Scope) → List TokenAndSpan → Choice F C K Literal c
  literal c ts = pick lit

  abbrev pub elements : (c : Scope) → List TokenAndSpan → Choice F C K Elements c
  elements c ts =
      if at_token is_comma (first ts) then pick elements-hole else
      (if at_token is_rbracket (first ts) then pick elements-end else pick elements-more)

  abbrev pub elements_tail : (c : Scope) → List TokenAndSpan → Choice F C K ElementsTail c
  elements_tail c ts = if at_token is_comma (first ts) then pick tail-more else pick tail-end

  abbrev pub item : (c : Scope) → List TokenAndSpan → Choice F C K Item c
  item c ts = if at_token is_dots (first ts) then pick item-spread else pick item-expr

  abbrev pub props : (c : Scope) → List TokenAndSpan → Choice F C K Props c
  props c ts = if at_token is_rbrace (first ts) then pick props-end else pick props-more

  abbrev pub props_tail : (c : Scope) → List TokenAndSpan → Choice F C K PropsTail c
  props_tail c ts = if at_token is_comma (first ts) then pick props-tail-more else pick props-tail-end

  abbrev pub async_method : {c : Scope} → Option TokenAndSpan → Choice F C K Prop c
  async_method u = if at_token is_star u then pick prop-async-generator else pick prop-async

  -- A property that begins with a word: first by the token after it, then by the word. A `?` there is a fault.
  abbrev pub prop_word : {c : Scope} → Option TokenAndSpan → Option TokenAndSpan → Choice F C K Prop c
  prop_word t u =
      if at_token ends_prop u then pick prop-short else
      (if at_token is_equals u then pick prop-cover else
      (if at_token follows_key u then pick prop-key else
      (if at_token is_question u then none else
      (if at_token is_get t then pick prop-getter else
      (if at_token is_set t then pick prop-setter else
      (if at_token is_async t then async_method u else none))))))

  abbrev pub prop : (c : Scope) → List TokenAndSpan → Choice F C K Prop c
  prop c ts =
      if at_token is_dots (first ts) then pick prop-spread else
      (if at_token is_star (first ts) then pick prop-generator else
      (if at_token is_word (first ts) then prop_word (first ts) (second ts) else pick prop-key))

  abbrev pub key : (c : Scope) → List TokenAndSpan → Choice F C K Key c
  key c ts =
      if at_token is_word (first ts) then pick key-name else
      (if at_token is_lbracket (first ts) then pick key-computed else pick key-literal)

  abbrev pub after_key : (c : Scope) → List TokenAndSpan → Choice F C K AfterKey c
  after_key c ts = if at_token is_colon (first ts) then pick after-value else pick after-shell

  abbrev pub shell : (is_async is_generator : Bool) (c : Scope) → List TokenAndSpan
      → Choice F C K (Shell is_async is_generator) c
  shell is_async is_generator c ts = pick shell-block

  -- patterns
  abbrev pub pat : (c : Scope) → List TokenAndSpan → Choice F C K Pat c
  pat c ts =
      if at_token is_lbracket (first ts) then pick pat-array else
      (if at_token is_brace (first ts) then pick pat-object else pick pat-bind)

  abbrev pub element : Scope → Plan F C K (Tree F C K)
  element c = do
    p ← symbol (sym Pat) c
    symbol (defaults p) c

  abbrev pub pat_elements : (c : Scope) → List TokenAndSpan → Choice F C K PatElements c
  pat_elements c ts =
      if at_token is_comma (first ts) then pick pat-elements-hole else
      (if at_token is_rbracket (first ts) then pick pat-elements-end else
      (if at_token is_dots (first ts) then pick pat-elements-rest else pick pat-elements-more))

  abbrev pub pat_tail : (c : Scope) → List TokenAndSpan → Choice F C K PatElementsTail c
  pat_tail c ts = if at_token is_comma (first ts) then pick pat-tail-more else pick pat-tail-end

  abbrev pub pat_props : (c : Scope) → List TokenAndSpan → Choice F C K PatProps c
  pat_props c ts =
      if at_token is_rbrace (first ts) then pick pat-props-end else
      (if at_token is_dots (first ts) then pick pat-props-rest else pick pat-props-more)

  abbrev pub pat_props_tail : (c : Scope) → List TokenAndSpan → Choice F C K PatPropsTail c
  pat_props_tail c ts = if at_token is_comma (first ts) then pick pat-props-tail-more else pick pat-props-tail-end

  -- a property that begins with a word, by the token after it
  abbrev pub pat_prop_word : {c : Scope} → Option TokenAndSpan → Choice F C K PatProp c
  pat_prop_word u =
      if at_token is_colon u then pick pat-prop-key else
      (if at_token is_equals u then pick pat-prop-default else pick pat-prop-short)

  abbrev pub pat_prop : (c : Scope) → List TokenAndSpan → Choice F C K PatProp c
  pat_prop c ts = if at_token is_word (first ts) then pat_prop_word (second ts) else pick pat-prop-key

  abbrev pub params : (c : Scope) → List TokenAndSpan → Choice F C K Params c
  params c ts =
      if at_token is_rparen (first ts) then pick params-end else
      (if at_token is_dots (first ts) then pick params-rest else pick params-more)

  abbrev pub params_tail : (c : Scope) → List TokenAndSpan → Choice F C K ParamsTail c
  params_tail c ts = if at_token is_comma (first ts) then pick params-tail-more else pick params-tail-end

  abbrev pub arrow_block : (is_async : Bool) (c : Scope) → List TokenAndSpan → Choice F C K (ArrowBody is_async) c
  arrow_block is_async c ts = if begins is_brace ts then pick body-block else pick body-expr

  -- after an operator: what is right of it, and their node, with the least precedence to go on with
  abbrev pub bin_op : BinaryOp → Tree F C K → ℕ → Scope → Plan F C K (Tree F C K × Option ℕ)
  bin_op op l m c = do
    must (exp_ok op l)
    r ← symbol (sym (Level (suc (min_right op)))) (inner c)
    must (nullish_ok op l r)
    gives (bin_e (to (span_of l) (span_of r)) op l r, Some m)

  -- one operator above the precedence m with what is right of it, or none
  abbrev pub turn : Option BinaryOp → Tree F C K → ℕ → Scope → Plan F C K (Tree F C K × Option ℕ)
  turn None l m c = gives (l, None)
  turn (Some op) l m c = if nat_le (precedence_of op) m then gives (l, None) else take (λ t. bin_op op l m c)

  -- after a turn
  abbrev pub go_on : Tree F C K → Option ℕ → Scope → Plan F C K (Tree F C K)
  go_on t None c = gives t
  go_on t (Some m) c = symbol (climb t m) c

  abbrev pub turned : Tree F C K → Option ℕ → Scope → Plan F C K (Tree F C K)
  turned t o c = check (left_ok t) (go_on t o c)

  -- what is run at each call
  abbrev pub step : (k : Call F C K) → Scope → List TokenAndSpan → Plan F C K (Ans F C K k)
  step (sym Expr) c ts = expr c
  step (sym Exprs) c ts = never
  step (sym Assign) c ts = assign c ts
  step (sym (Level zero)) c ts = never
  step (sym (Level (suc m))) c ts = level m c ts
  step (sym Unary) c ts = unary c ts
  step (sym (Lhs b)) c ts = lhs b c ts
  step (sym (Left b)) c ts = never
  step (sym (Base b)) c ts = chosen (base b c ts)
  step (sym (Arguments i)) c ts = chosen (call_args i c ts)
  step (sym (Args i)) c ts = chosen (args i c ts)
  step (sym (ArgsTail i)) c ts = chosen (args_tail i c ts)
  step (sym Primary) c ts = chosen (primary c ts)
  step (sym Literal) c ts = chosen (literal c ts)
  step (sym (Template is_tagged)) c ts = chosen (tpl is_tagged c ts)
  step (sym (Parts is_tagged)) c ts = chosen (parts is_tagged c ts)
  step (sym Elements) c ts = chosen (elements c ts)
  step (sym ElementsTail) c ts = chosen (elements_tail c ts)
  step (sym Item) c ts = chosen (item c ts)
  step (sym Props) c ts = chosen (props c ts)
  step (sym PropsTail) c ts = chosen (props_tail c ts)
  step (sym Prop) c ts = chosen (prop c ts)
  step (sym Key) c ts = chosen (key c ts)
  step (sym AfterKey) c ts = chosen (after_key c ts)
  step (sym (Shell is_async is_generator)) c ts = chosen (shell is_async is_generator c ts)
  step (sym Pat) c ts = chosen (pat c ts)
  step (sym Element) c ts = element c
  step (sym Rest) c ts = chosen (pick (pat-rest {c = c}))
  step (sym PatElements) c ts = chosen (pat_elements c ts)
  step (sym PatElementsTail) c ts = chosen (pat_tail c ts)
  step (sym PatProps) c ts = chosen (pat_props c ts)
  step (sym PatPropsTail) c ts = chosen (pat_props_tail c ts)
  step (sym PatProp) c ts = chosen (pat_prop c ts)
  step (sym Params) c ts = chosen (params c ts)
  step (sym ParamsTail) c ts = chosen (params_tail c ts)
  step (sym ArrowParams) c ts = chosen (pick (covered-params {c = c}))
  step (sym (ArrowBody is_async)) c ts = chosen (arrow_block is_async c ts)
  step (parens s es) c ts = if at_token is_arrow (first ts) then plan (arrow_params_tail c s es) else paren_tail c s es
  step (asyncs n es) c ts =
      if at_token is_arrow (first ts) then plan (async_params_tail c n es) else async_tail c n es
  step (defaults p) c ts = if at_token is_equals (first ts) then plan (default_tail c p) else gives p
  step (links b l) c ts = linked (link b c ts) l
  step (constructs b s l) c ts =
      if at_token is_lparen (first ts) then constructed_with b s l c else gives (bare_new_e (to s (span_of l)) l)
  step (updates l) c ts = if no_update_at (first ts) then gives l else plan (update_tail c l)
  step (assigns e) c ts =
      if at_token is_question (first ts) then plan (cond_tail c e) else
      (if at_token is_assign (first ts) && not (is_operation e) then plan (writes_tail c e) else gives e)
  step (seqs es) c ts =
      if at_token is_comma (first ts) then exprs_tail c es else gives (seq_of es)
  step (climb l m) c ts = turn (operator_at c.context (first ts)) l m c >>= (λ r. turned r.0 r.1 c)

-- closed by as many steps as the measure of the call, which is enough
abbrev pub run_at : {F C K : Type 0} → Hook F C K → ℕ → Runs F C K
run_at hook zero k c ts = None
run_at hook (suc n) k c ts = exec hook (run_at hook n) (Some (rank k)) (step k c ts) ts

unfoldable pub run : {F C K : Type 0} → Hook F C K → Runs F C K
run hook k c ts = run_at hook (suc (measure k ts)) k c ts
