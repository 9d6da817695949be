-- The written grammar, after ECMA-262, whose sections are beside it. `Production symbol c side` says that in the scope
-- c the right-hand side is one of the symbol's. What it means that a right-hand side is followed is said in Reads.
use Rattle.std.specs.Prelude.{ℕ, suc, Bool, true, false, not, ◌||◌, ◌&&◌, None, IsTrue, codes, nat_eq, nat_lt}
use Rattle.swc_context.specs.Contexts.{arrow_body, method_block, method_params}
use Rattle.swc_context.specs.{Operators.precedence_of, Reserved.is_reserved_word, declared.operator.AssignOp.AssignOp as write, declared.operator.BinaryOp.BinaryOp as binary}
use Rattle.swc_input.specs.Kinds.{is_hash}
use Rattle.swc_ast.specs.Patterns.{array_p, object_p, default_p, rest_p, name_p, put_element, holds_ident}
use Rattle.swc_ast.specs.Tree.{node, nil, cons, span_of, dots}
use Rattle.swc_ast.specs.Trees.{key_value_e, params_e, setter_e, getter_ok, setter_ok, to, ident_e, this_e, array_e, listed, items_of, comma_of, put_first, behind_comma, hole_e, item_e, spread_e, fn_e, class_e, private_e, unary_e, paren_e, bin_e, object_e, name_e, computed_e, spread_prop_e, short_e, cover_e, value_e, block_e, function_e, method_e, getter_e, at_place, parts_e, put_part, tpl_e, tagged_e, new_e, bare_new_e, meta_e, link_e, is_chain, super_e, import_e, super_prop_e, comma_ok, covers_ok, arrow_e, prop_of, member_e, call_e, nullish_ok, logical_ok, delete_ok, is_unary, paren_ok, trees_append, held_exprs, update_e, await_e, yield_e, cond_e, assign_e, exprs_e, seq_of}
use Rattle.swc_ast.specs.{Targets.is_target as is_simple_target, declared.expr.ImportPhase.ImportPhase as phase, declared.expr.MetaPropKind.MetaPropKind as kind}
use Rattle.swc_bodies.specs.Readings.{is_async, is_brace}
use Rattle.swc_grammar.specs.Scope.{Scope, in_context, at_head, inner}
use Rattle.swc_grammar.specs.Rule.{gives, ◌>>=◌, ◌>>◌, symbol, token, one, token_on_line, one_on_line, given, must, ahead, ahead_two, body}
use Rattle.swc_grammar.specs.Symbols.{Symbol, Expr, Exprs, Assign, Level, Unary, Lhs, Left, Arguments, Args, ArgsTail, Primary, Literal, Template, Parts, Base, Elements, ElementsTail, Item, Props, PropsTail, Prop, Key, AfterKey, Shell, Side, function, class, block, Pat, Element, Rest, PatElements, PatElementsTail, PatProps, PatPropsTail, PatProp, Params, ParamsTail, ArrowParams, ArrowBody}
use Rattle.swc_grammar.specs.Arrows.{is_arrow, arrow_name, is_block, is_sign, async_name, async_param, goes_on_async, of_arrow}
use Rattle.swc_grammar.specs.Names.{is_joined}
use Rattle.swc_grammar.specs.Tokens.{with_in, is_this, is_lparen, is_rparen, is_lbracket, is_rbracket, is_comma, is_dots, is_dot, is_question, is_backquote, is_dollar_brace, is_slash, is_new, is_target, new_target_ok, is_super, is_import, is_meta, is_source, super_ok, import_comma_ok, is_in, is_await, is_yield, await_ok, await_ident_ok, ends_await, yield_ok, goes_on_yield, is_power, is_rbrace, is_colon, is_star, is_equals, is_get, is_set}
use Rattle.swc_grammar.specs.Parts.{reference, binding, any_name, lit_of, regex_of, text_of, key_lit_of, prefix_here, update_here, assign_here, operator_here, import_args_ok, private_ok}
use Rattle.swc_grammar.specs.Cover.{as_literal, as_params, arrow_params_ok}

pub data Production {F C K : Type 0} : (s : Symbol) → Scope → Side F C K s → Type 0 where
  -- Identifier references (13.1), of which `async` is one where nothing after it makes it more
  ident-expr : {c : Scope} → Production Primary c (do
    n ← one (reference c)
    gives (ident_e n.at n.text))
  async-ident : {c : Scope} → Production Primary c (do
    n ← one (async_name c)
    ahead (goes_on_async c)
    ahead_two (of_arrow c)
    gives (ident_e n.at n.text))
  -- CoverCallExpressionAndAsyncArrowHead (13.3), as a call of `async`: like parentheses it holds no object with a cover
  -- name directly
  async-call : {c : Scope} → Production Primary c (do
    n ← one (async_name c)
    must c.head
    token_on_line is_lparen
    es ← symbol (Args false) (with_in c)
    must (covers_ok c.syntax.pedantic es)
    gives (call_e (to n.at (span_of es)) (ident_e n.at n.text) (items_of es)))
  -- `this` (13.2.1)
  this-expr : {c : Scope} → Production Primary c (do
    s ← token is_this
    gives (this_e s))
  -- Literals (13.2.3), by one table
  lit : {c : Scope} → Production Literal c (do
    e ← one lit_of
    gives e)
  primary-literal : {c : Scope} → Production Primary c (symbol Literal (inner c))
  -- Regular expressions (13.2.7), as a token alone, or after the slash at which a lexer found it
  regex-alone : {c : Scope} → Production Primary c (do
    e ← one regex_of
    gives e)
  regex-slash : {c : Scope} → Production Primary c (do
    s ← token is_slash
    e ← one regex_of
    gives (at_place (to s (span_of e)) e))
  -- Template literals (13.2.8), in whose expressions `in` is an operator
  primary-template : {c : Scope} → Production Primary c (symbol (Template false) (inner c))
  template : {c : Scope} {is_tagged : Bool} → Production (Template is_tagged) c (do
    s ← token is_backquote
    ps ← symbol (Parts is_tagged) c
    gives (tpl_e (to s (span_of ps)) ps))
  parts-end : {c : Scope} {is_tagged : Bool} → Production (Parts is_tagged) c (do
    t ← one (text_of is_tagged true)
    s ← token is_backquote
    gives (parts_e s (cons t nil) nil))
  parts-more : {c : Scope} {is_tagged : Bool} → Production (Parts is_tagged) c (do
    t ← one (text_of is_tagged false)
    token is_dollar_brace
    e ← symbol Expr (with_in c)
    token is_rbrace
    ps ← symbol (Parts is_tagged) c
    gives (put_part t e ps))
  -- Array literals (13.2.4), in which `in` is an operator
  array-lit : {c : Scope} → Production Primary c (do
    s ← token is_lbracket
    es ← symbol Elements (with_in c)
    gives (array_e (comma_of es) (to s (span_of es)) (items_of es)))
  elements-end : {c : Scope} → Production Elements c (do
    s ← token is_rbracket
    gives (listed None s nil))
  elements-hole : {c : Scope} → Production Elements c (do
    token is_comma
    es ← symbol Elements c
    gives (put_first hole_e es))
  elements-more : {c : Scope} → Production Elements c (do
    e ← symbol Item c
    es ← symbol ElementsTail c
    gives (put_first e es))
  tail-end : {c : Scope} → Production ElementsTail c (do
    s ← token is_rbracket
    gives (listed None s nil))
  tail-more : {c : Scope} → Production ElementsTail c (do
    s ← token is_comma
    es ← symbol Elements c
    gives (behind_comma s es))
  item-expr : {c : Scope} → Production Item c (do
    e ← symbol Assign c
    gives (item_e e))
  item-spread : {c : Scope} → Production Item c (do
    s ← token is_dots
    e ← symbol Assign c
    gives (spread_e s e))
  -- Object literals (13.2.5)
  object-lit : {c : Scope} → Production Primary c (do
    s ← token is_brace
    ps ← symbol Props (inner c)
    gives (object_e (comma_of ps) (to s (span_of ps)) (items_of ps)))
  props-end : {c : Scope} → Production Props c (do
    s ← token is_rbrace
    gives (listed None s nil))
  props-more : {c : Scope} → Production Props c (do
    p ← symbol Prop c
    ps ← symbol PropsTail c
    gives (put_first p ps))
  props-tail-end : {c : Scope} → Production PropsTail c (do
    s ← token is_rbrace
    gives (listed None s nil))
  props-tail-more : {c : Scope} → Production PropsTail c (do
    s ← token is_comma
    ps ← symbol Props c
    gives (behind_comma s ps))
  prop-spread : {c : Scope} → Production Prop c (do
    s ← token is_dots
    e ← symbol Assign (with_in c)
    gives (spread_prop_e s e))
  prop-short : {c : Scope} → Production Prop c (do
    n ← one (any_name c)
    must (not (is_reserved_word c.context n.text))
    gives (short_e n.at n.text))
  prop-cover : {c : Scope} → Production Prop c (do
    n ← one (any_name c)
    must (not (is_reserved_word c.context n.text))
    token is_equals
    e ← symbol Assign (with_in c)
    gives (cover_e (to n.at (span_of e)) (ident_e n.at n.text) e))
  prop-key : {c : Scope} → Production Prop c (do
    k ← symbol Key c
    x ← symbol AfterKey c
    gives (prop_of k x))
  -- Methods (15.4), and generators and async ones (15.5, 15.6, 15.8). A getter has no parameter, and a setter one.
  prop-generator : {c : Scope} → Production Prop c (do
    s ← token is_star
    k ← symbol Key c
    f ← symbol (Shell false true) c
    gives (method_e (to s (span_of f)) k f))
  prop-async : {c : Scope} → Production Prop c (do
    s ← token is_async
    k ← symbol Key c
    f ← symbol (Shell true false) c
    gives (method_e (to s (span_of f)) k f))
  prop-async-generator : {c : Scope} → Production Prop c (do
    s ← token is_async
    token is_star
    k ← symbol Key c
    f ← symbol (Shell true true) c
    gives (method_e (to s (span_of f)) k f))
  prop-getter : {c : Scope} → Production Prop c (do
    s ← token is_get
    k ← symbol Key c
    f ← symbol (Shell false false) c
    must (getter_ok f)
    gives (getter_e (to s (span_of f)) k f))
  prop-setter : {c : Scope} → Production Prop c (do
    s ← token is_set
    k ← symbol Key c
    f ← symbol (Shell false false) c
    must (setter_ok f)
    gives (setter_e (to s (span_of f)) k f))
  after-value : {c : Scope} → Production AfterKey c (do
    token is_colon
    e ← symbol Assign (with_in c)
    gives (value_e (span_of e) e))
  after-shell : {c : Scope} → Production AfterKey c (symbol (Shell false false) c)
  shell-block : {c : Scope} {is_async is_generator : Bool} → Production (Shell is_async is_generator) c (do
    s ← token is_lparen
    ps ← symbol Params (in_context (method_params is_async is_generator) c)
    (v, s') ← body block (in_context (method_block is_async is_generator) c)
    gives (function_e (to s s') is_async is_generator (block_e s' v) (params_e (items_of ps))))
  -- Keys (PropertyName, 13.2.5)
  key-name : {c : Scope} → Production Key c (do
    n ← one (any_name c)
    gives (name_e n.at n.text))
  key-literal : {c : Scope} → Production Key c (do
    e ← one key_lit_of
    gives e)
  key-computed : {c : Scope} → Production Key c (do
    s ← token is_lbracket
    e ← symbol Assign (with_in c)
    s' ← token is_rbracket
    gives (computed_e (to s s') e))
  -- Functions (13.2.6; 15.2, 15.5, 15.6, 15.8) and classes (15.7), which the hook reads
  fn-expr : {c : Scope} → Production Primary c (do
    (f, s) ← body function c
    gives (fn_e s f))
  class-expr : {c : Scope} → Production Primary c (do
    (v, s) ← body class c
    gives (class_e s v))
  -- Parentheses (13.2.9), in which `in` is an operator. As the standard has it, what is read there covers more than an
  -- expression: a list like that of arguments, of which then only some are expressions in parentheses.
  paren-expr : {c : Scope} → Production Primary c (do
    s ← token is_lparen
    es ← symbol (Args false) (with_in c)
    must (paren_ok c.syntax.pedantic es)
    gives (paren_e (to s (span_of es)) (seq_of (held_exprs (items_of es)))))
  -- Left-hand sides (13.3): with links, or `new` without arguments (NewExpression, 13.3.5), after which no link is
  -- read. What is constructed is no optional chain.
  lhs-left : {c : Scope} {b : Bool} → Production (Lhs b) c (symbol (Left b) c)
  new-bare : {c : Scope} {b : Bool} → Production (Lhs b) c (do
    s ← token is_new
    l ← symbol (Lhs false) (inner c)
    must (not (is_chain l))
    gives (bare_new_e (to s (span_of l)) l))
  -- Left-hand sides with links, with calls among these or without. They begin with a base, or with `new` and its
  -- arguments (MemberExpression, 13.3.5).
  left-base : {c : Scope} {b : Bool} → Production (Left b) c (symbol (Base b) c)
  left-new : {c : Scope} {b : Bool} → Production (Left b) c (do
    s ← token is_new
    l ← symbol (Left false) (inner c)
    must (not (is_chain l))
    token is_lparen
    es ← symbol (Args false) (with_in c)
    gives (new_e (to s (span_of es)) l (items_of es)))
  -- Bases: primary expressions; `new.target` and `import.meta` (13.3.12); a property of `super` (13.3.7), by a name or
  -- in brackets, in which `in` is an operator
  base-primary : {c : Scope} {b : Bool} → Production (Base b) c (symbol Primary c)
  new-target : {c : Scope} {b : Bool} → Production (Base b) c (do
    s ← token is_new
    token is_dot
    s' ← token is_target
    must (new_target_ok c.context)
    gives (meta_e (to s s') kind.NewTarget))
  super-name : {c : Scope} {b : Bool} → Production (Base b) c (do
    s ← token is_super
    token is_dot
    n ← one (any_name c)
    must (super_ok c)
    gives (super_prop_e (to s n.at) s (name_e n.at n.text)))
  super-computed : {c : Scope} {b : Bool} → Production (Base b) c (do
    s ← token is_super
    s' ← token is_lbracket
    e ← symbol Expr (with_in c)
    s'' ← token is_rbracket
    must (super_ok c)
    gives (super_prop_e (to s s'') s (computed_e (to s' s'') e)))
  import-meta : {c : Scope} {b : Bool} → Production (Base b) c (do
    s ← token is_import
    token is_dot
    s' ← token is_meta
    must c.context.can_be_module
    gives (meta_e (to s s') kind.ImportMeta))
  -- and calls: of `super` (13.3.7), of `import` (13.3.10), and of `import.source` (source phase imports, a proposal)
  super-call : {c : Scope} → Production (Base true) c (do
    s ← token is_super
    token is_lparen
    es ← symbol (Args false) (with_in c)
    gives (call_e (to s (span_of es)) (super_e s) (items_of es)))
  import-call : {c : Scope} → Production (Base true) c (do
    s ← token is_import
    token is_lparen
    es ← symbol (Args true) (with_in c)
    must (import_args_ok c true es)
    gives (call_e (to s (span_of es)) (import_e s phase.Evaluation) (items_of es)))
  import-source : {c : Scope} → Production (Base true) c (do
    s ← token is_import
    token is_dot
    s' ← token is_source
    token is_lparen
    es ← symbol (Args true) (with_in c)
    must (import_args_ok c true es)
    gives (call_e (to s (span_of es)) (import_e (to s s') phase.Source) (items_of es)))
  -- Members (13.3.2), by a name, by `#` and a name that begins where it ends, and in brackets, in which `in` is an
  -- operator
  member-name : {c : Scope} {b : Bool} → Production (Left b) c (do
    l ← symbol (Left b) c
    token is_dot
    n ← one (any_name c)
    gives (link_e false l (member_e (to (span_of l) n.at) l (name_e n.at n.text))))
  member-private : {c : Scope} {b : Bool} → Production (Left b) c (do
    l ← symbol (Left b) c
    token is_dot
    s ← token is_hash
    n ← one (any_name c)
    must (is_joined s n.at)
    gives (link_e false l (member_e (to (span_of l) n.at) l (private_e (to s n.at) n.text))))
  member-computed : {c : Scope} {b : Bool} → Production (Left b) c (do
    l ← symbol (Left b) c
    s ← token is_lbracket
    e ← symbol Expr (with_in c)
    s' ← token is_rbracket
    gives (link_e false l (member_e (to (span_of l) s') l (computed_e (to s s') e))))
  -- Calls (13.3.6), and arguments (13.3.8), in which `in` is an operator
  call : {c : Scope} → Production (Left true) c (do
    l ← symbol (Left true) c
    token is_lparen
    es ← symbol (Args false) (with_in c)
    gives (link_e false l (call_e (to (span_of l) (span_of es)) l (items_of es))))
  -- Optional chains (13.3.9): `?` and `.`, which are two tokens, before a name, a private name, brackets or arguments
  chain-name : {c : Scope} {b : Bool} → Production (Left b) c (do
    l ← symbol (Left b) c
    token is_question
    token is_dot
    n ← one (any_name c)
    gives (link_e true l (member_e (to (span_of l) n.at) l (name_e n.at n.text))))
  chain-private : {c : Scope} {b : Bool} → Production (Left b) c (do
    l ← symbol (Left b) c
    token is_question
    token is_dot
    s ← token is_hash
    n ← one (any_name c)
    must (is_joined s n.at)
    gives (link_e true l (member_e (to (span_of l) n.at) l (private_e (to s n.at) n.text))))
  chain-computed : {c : Scope} {b : Bool} → Production (Left b) c (do
    l ← symbol (Left b) c
    token is_question
    token is_dot
    s ← token is_lbracket
    e ← symbol Expr (with_in c)
    s' ← token is_rbracket
    gives (link_e true l (member_e (to (span_of l) s') l (computed_e (to s s') e))))
  chain-call : {c : Scope} {b : Bool} → Production (Left b) c (do
    l ← symbol (Left b) c
    token is_question
    token is_dot
    token is_lparen
    es ← symbol (Args false) (with_in c)
    gives (link_e true l (call_e (to (span_of l) (span_of es)) l (items_of es))))
  -- Tagged templates (13.3.11), of which the tag is no optional chain
  tagged-tpl : {c : Scope} {b : Bool} → Production (Left b) c (do
    l ← symbol (Left b) c
    s ← token is_backquote
    ps ← symbol (Parts true) (inner c)
    must (not (is_chain l))
    gives (tagged_e (to (span_of l) (span_of ps)) l (tpl_e (to s (span_of ps)) ps)))
  arguments : {c : Scope} {i : Bool} → Production (Arguments i) c (do
    token is_lparen
    es ← symbol (Args i) (with_in c)
    must (import_args_ok c i es)
    gives es)
  args-end : {c : Scope} {i : Bool} → Production (Args i) c (do
    s ← token is_rparen
    gives (listed None s nil))
  args-more : {c : Scope} {i : Bool} → Production (Args i) c (do
    e ← symbol Item c
    es ← symbol (ArgsTail i) c
    gives (put_first e es))
  args-tail-end : {c : Scope} {i : Bool} → Production (ArgsTail i) c (do
    s ← token is_rparen
    gives (listed None s nil))
  args-tail-more : {c : Scope} {i : Bool} → Production (ArgsTail i) c (do
    s ← token is_comma
    es ← symbol (Args i) c
    must (comma_ok (not i || import_comma_ok c) es)
    gives (behind_comma s es))
  -- UpdateExpression (13.4): what is written to is a valid simple target, and an operator after it is on its line.
  -- No left-hand side that is an operand by itself begins with `await`.
  unary-left : {c : Scope} → Production Unary c (do
    ahead (λ t. is_await t.token)
    symbol (Lhs true) c)
  update-postfix : {c : Scope} → Production Unary c (do
    ahead (λ t. is_await t.token)
    l ← symbol (Lhs true) c
    (op, s) ← one_on_line update_here
    must (is_simple_target c.context.strict l)
    gives (update_e (to (span_of l) s) op false l))
  update-prefix : {c : Scope} → Production Unary c (do
    (op, s) ← one update_here
    e ← symbol Unary (inner c)
    must (is_simple_target c.context.strict e)
    gives (update_e (to s (span_of e)) op true e))
  -- `await` (15.8), and the identifier `await` (13.1), which is outside async code where no operand can follow. A `*`
  -- follows neither.
  await-expr : {c : Scope} → Production Unary c (do
    s ← token is_await
    must (await_ok c.context)
    ahead (λ t. is_star t.token || (not c.context.in_async && ends_await t))
    e ← symbol Unary (inner c)
    gives (await_e (to s (span_of e)) e))
  await-ident : {c : Scope} → Production Unary c (do
    s ← token is_await
    must (await_ident_ok c.context)
    ahead (λ t. is_star t.token || not (ends_await t))
    gives (ident_e s (codes "await")))
  -- UnaryExpression (13.5)
  unary-op : {c : Scope} → Production Unary c (do
    (op, s) ← one prefix_here
    e ← symbol Unary (inner c)
    must (delete_ok c.context op e)
    gives (unary_e (to s (span_of e)) op e))
  -- ExponentiationExpression (13.6): it groups to the right, and no prefix operator is on its left
  exp-unary : {c : Scope} → Production (Level 11) c (symbol Unary c)
  exp-op : {c : Scope} → Production (Level 11) c (do
    l ← symbol Unary c
    token is_power
    must (not (is_unary l))
    r ← symbol (Level 11) (inner c)
    gives (bin_e (to (span_of l) (span_of r)) binary.Exp l r))
  -- Binary operators (13.7 to 13.13): level k is that of the operators of precedence k. They group to the left.
  level-up : {c : Scope} {k : ℕ} → IsTrue (nat_lt k 11) → Production (Level k) c (symbol (Level (suc k)) c)
  bin-op : {c : Scope} {k : ℕ} → IsTrue (nat_lt k 11) → Production (Level k) c (do
    l ← symbol (Level k) c
    op ← one (operator_here c)
    must (nat_eq (precedence_of op) k)
    r ← symbol (Level (suc k)) (inner c)
    must (nullish_ok op l r)
    must (logical_ok op l)
    gives (bin_e (to (span_of l) (span_of r)) op l r))
  -- `#` and a name, which the standard has on the left of `in` alone (13.10): where the syntax isn't pedantic it is a
  -- primary expression like any other; and where it is, the name begins where the `#` ends.
  private-expr : {c : Scope} → Production Primary c (do
    s ← token is_hash
    n ← one (any_name c)
    must (not c.syntax.pedantic)
    gives (private_e (to s n.at) n.text))
  private-in : {c : Scope} → Production (Level 7) c (do
    s ← token is_hash
    n ← one (any_name c)
    must (private_ok c s n.at)
    token is_in
    r ← symbol (Level 8) (inner c)
    gives (bin_e (to (to s n.at) (span_of r)) binary.In (private_e (to s n.at) n.text) r))
  -- AssignmentExpression (13.15), with ConditionalExpression (13.14), in whose middle `in` is an operator, and
  -- YieldExpression (15.5), whose operand begins on the line of `yield`. What is written to is a valid simple target.
  assign-level : {c : Scope} → Production Assign c (symbol (Level 1) (at_head c))
  cond-expr : {c : Scope} → Production Assign c (do
    t ← symbol (Level 1) (at_head c)
    token is_question
    e ← symbol Assign (with_in c)
    token is_colon
    a ← symbol Assign c
    gives (cond_e (to (span_of t) (span_of a)) t e a))
  assign-expr : {c : Scope} → Production Assign c (do
    l ← symbol Unary (at_head c)
    op ← one assign_here
    must (is_simple_target c.context.strict l)
    r ← symbol Assign c
    gives (assign_e (to (span_of l) (span_of r)) op l r))
  yield-alone : {c : Scope} → Production Assign c (do
    s ← token is_yield
    must (c.context.in_generator && yield_ok c.context)
    ahead goes_on_yield
    gives (yield_e s false hole_e))
  yield-expr : {c : Scope} → Production Assign c (do
    s ← token is_yield
    must (c.context.in_generator && yield_ok c.context)
    ahead (λ t. is_star t.token || not (goes_on_yield t))
    e ← symbol Assign c
    gives (yield_e (to s (span_of e)) false e))
  yield-star : {c : Scope} → Production Assign c (do
    s ← token is_yield
    must (c.context.in_generator && yield_ok c.context)
    token_on_line is_star
    e ← symbol Assign c
    gives (yield_e (to s (span_of e)) true e))
  -- Expression (13.16)
  exprs-one : {c : Scope} → Production Exprs c (do
    e ← symbol Assign c
    gives (exprs_e (cons e nil)))
  exprs-more : {c : Scope} → Production Exprs c (do
    es ← symbol Exprs c
    token is_comma
    e ← symbol Assign c
    gives (exprs_e (trees_append (items_of es) (cons e nil))))
  seq-expr : {c : Scope} → Production Expr c (do
    es ← symbol Exprs c
    gives (seq_of (items_of es)))
  -- Assignments to arrays and objects (13.15.5): the literal on the left is a pattern of what is written to.
  assign-pattern : {c : Scope} → Production Assign c (do
    l ← symbol Unary (at_head c)
    token is_equals
    p ← given (as_literal c.context.strict l)
    e ← symbol Assign c
    gives (assign_e (to (span_of l) (span_of e)) write.Assign p e))
  -- Binding patterns (14.3.3)
  pat-bind : {c : Scope} → Production Pat c (do
    n ← one (binding c)
    gives (ident_e n.at n.text))
  pat-array : {c : Scope} → Production Pat c (do
    s ← token is_lbracket
    es ← symbol PatElements c
    gives (array_p (to s (span_of es)) (items_of es)))
  pat-object : {c : Scope} → Production Pat c (do
    s ← token is_brace
    ps ← symbol PatProps c
    gives (object_p (to s (span_of ps)) (items_of ps)))
  -- with an initialiser (SingleNameBinding, BindingElement), in which `in` is an operator; and after dots
  element-pat : {c : Scope} → Production Element c (symbol Pat c)
  element-default : {c : Scope} → Production Element c (do
    p ← symbol Pat c
    token is_equals
    e ← symbol Assign (with_in c)
    gives (default_p (to (span_of p) (span_of e)) p e))
  pat-rest : {c : Scope} → Production Rest c (do
    s ← token is_dots
    p ← symbol Pat c
    gives (rest_p (to s (span_of p)) (node dots s nil) p))
  -- ArrayBindingPattern: holes at the end leave nothing, and a rest is directly before the bracket
  pat-elements-end : {c : Scope} → Production PatElements c (do
    s ← token is_rbracket
    gives (listed None s nil))
  pat-elements-hole : {c : Scope} → Production PatElements c (do
    token is_comma
    es ← symbol PatElements c
    gives (listed None (span_of es) (put_element true hole_e (items_of es))))
  pat-elements-more : {c : Scope} → Production PatElements c (do
    p ← symbol Element c
    es ← symbol PatElementsTail c
    gives (put_first p es))
  pat-elements-rest : {c : Scope} → Production PatElements c (do
    p ← symbol Rest c
    s ← token is_rbracket
    gives (listed None s (cons p nil)))
  pat-tail-end : {c : Scope} → Production PatElementsTail c (do
    s ← token is_rbracket
    gives (listed None s nil))
  pat-tail-more : {c : Scope} → Production PatElementsTail c (do
    token is_comma
    es ← symbol PatElements c
    gives es)
  -- ObjectBindingPattern: what a rest binds is a name
  pat-props-end : {c : Scope} → Production PatProps c (do
    s ← token is_rbrace
    gives (listed None s nil))
  pat-props-more : {c : Scope} → Production PatProps c (do
    p ← symbol PatProp c
    ps ← symbol PatPropsTail c
    gives (put_first p ps))
  pat-props-rest : {c : Scope} → Production PatProps c (do
    p ← symbol Rest c
    must (holds_ident p)
    s ← token is_rbrace
    gives (listed None s (cons p nil)))
  pat-props-tail-end : {c : Scope} → Production PatPropsTail c (do
    s ← token is_rbrace
    gives (listed None s nil))
  pat-props-tail-more : {c : Scope} → Production PatPropsTail c (do
    token is_comma
    ps ← symbol PatProps c
    gives ps)
  -- BindingProperty. A name alone is no reserved word; before `=` that isn't looked at.
  pat-prop-key : {c : Scope} → Production PatProp c (do
    k ← symbol Key c
    token is_colon
    p ← symbol Element c
    gives (key_value_e (to (span_of k) (span_of p)) k p))
  pat-prop-short : {c : Scope} → Production PatProp c (do
    n ← one (any_name c)
    must (not (is_reserved_word c.context n.text))
    gives (name_p n.at (ident_e n.at n.text) hole_e))
  pat-prop-default : {c : Scope} → Production PatProp c (do
    n ← one (any_name c)
    token is_equals
    e ← symbol Assign (with_in c)
    gives (name_p (to n.at (span_of e)) (ident_e n.at n.text) e))
  -- FormalParameters (15.1)
  params-end : {c : Scope} → Production Params c (do
    s ← token is_rparen
    gives (listed None s nil))
  params-more : {c : Scope} → Production Params c (do
    p ← symbol Element c
    ps ← symbol ParamsTail c
    gives (put_first p ps))
  params-rest : {c : Scope} → Production Params c (do
    p ← symbol Rest c
    s ← token is_rparen
    gives (listed None s (cons p nil)))
  params-tail-end : {c : Scope} → Production ParamsTail c (do
    s ← token is_rparen
    gives (listed None s nil))
  params-tail-more : {c : Scope} → Production ParamsTail c (do
    token is_comma
    ps ← symbol Params c
    gives ps)
  -- CoverParenthesizedExpressionAndArrowParameterList (13.2.9, 15.3), as the parameters of an arrow function
  covered-params : {c : Scope} → Production ArrowParams c (do
    s ← token is_lparen
    es ← symbol (Args false) (with_in c)
    ps ← given (as_params es)
    must (arrow_params_ok c.context ps)
    gives (listed None (to s (span_of es)) ps))
  -- Arrow functions (15.3), whose `=>` is on the line of what is before it, and whose body is a block at `{`
  arrow-name : {c : Scope} → Production Assign c (do
    n ← one (arrow_name c)
    token_on_line is_arrow
    b ← symbol (ArrowBody false) c
    gives (arrow_e (to n.at (span_of b)) false b (cons (ident_e n.at n.text) nil)))
  arrow-params : {c : Scope} → Production Assign c (do
    hs ← symbol ArrowParams c
    token_on_line is_arrow
    b ← symbol (ArrowBody false) c
    ahead (λ t. is_block b && is_sign t.token)
    gives (arrow_e (to (span_of hs) (span_of b)) false b (items_of hs)))
  -- Async arrow functions (15.9): the word after `async` is on its line, and so is the `(`.
  arrow-async-name : {c : Scope} → Production Assign c (do
    s ← one (async_name c)
    n ← one_on_line (async_param c)
    ahead (λ t. c.syntax.pedantic && t.had_line_break)
    token is_arrow
    b ← symbol (ArrowBody true) c
    gives (arrow_e (to s.at (span_of b)) true b (cons (ident_e n.at n.text) nil)))
  arrow-async-params : {c : Scope} → Production Assign c (do
    s ← one (async_name c)
    ahead (λ t. t.had_line_break)
    hs ← symbol ArrowParams c
    token_on_line is_arrow
    b ← symbol (ArrowBody true) c
    ahead (λ u. is_block b && is_sign u.token)
    gives (arrow_e (to s.at (span_of b)) true b (items_of hs)))
  body-block : {c : Scope} {is_async : Bool} → Production (ArrowBody is_async) c (do
    (v, s) ← body block (in_context (arrow_body is_async) c)
    gives (block_e s v))
  body-expr : {c : Scope} {is_async : Bool} → Production (ArrowBody is_async) c (do
    ahead (λ t. is_brace t.token)
    symbol Assign (in_context (arrow_body is_async) c))
