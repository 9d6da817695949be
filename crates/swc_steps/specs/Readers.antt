-- What the steps of the code read, by the clean parser: right-hand sides of productions, and what is left of them
-- after their first parts.
use Rattle.std.specs.Prelude.{ℕ, List, Option, Some, None, Bool, true, false, not, ◌&&◌, if◌then◌else◌}
use Rattle.swc_context.specs.{declared.operator.BinaryOp.BinaryOp, declared.operator.UnaryOp.UnaryOp, declared.span.Span.Span, Spans.from_to, declared.span.BytePos.BytePos}
use Rattle.swc_input.specs.{declared.token.TokenAndSpan.TokenAndSpan, Kinds.at_token, Kinds.is_hash}
use Rattle.swc_ast.specs.Tree.{Tree, span_of, node}
use Rattle.swc_ast.specs.Trees.{to, ident_e, private_e, unary_e, bin_e, delete_ok, nullish_ok}
use Rattle.swc_grammar.specs.Rule.{gives, check, ◌>>=◌, ◌>>◌, symbol, one, must}
use Rattle.swc_grammar.specs.Symbols.{Symbol, Expr, Assign, Unary, Answer, Side}
use Rattle.swc_grammar.specs.Clean.{Out, first, sym, links, updates, climb, Plan, plan, exec, operator_at, run, apart, bin_op as bin_op_plan, turn as turn_plan, turned as turned_plan}
use Rattle.swc_grammar.specs.Words.{rest, word, ◌>>=◌ as ◌▸◌}
use Rattle.swc_grammar.specs.{Scope.Scope, Scope.inner, Tokens.with_in, Tokens.is_in, Parts.any_name, Grammar.Production, Names.Spelling, Names.may_refer}
use Rattle.swc_bodies.specs.Readings.{Hook}
use Rattle.swc_steps.specs.Args.{hash_name}

-- nothing, of any list: what is read where a fault is always recorded
abbrev pub nothing : {A : Type 0} → Scope → List TokenAndSpan → Out A
nothing c ts = None

-- where the syntax is pedantic, a `#` that is free: no operator before it takes what it begins
abbrev pub is_private_here : Bool → Scope → List TokenAndSpan → Bool
is_private_here is_free c ts = is_free && (c.syntax.pedantic && at_token is_hash (first ts))

module _ {F C K : Type 0} (hook : Hook F C K) where
  unfoldable pub reading : {A : Type 0} → Plan F C K A → List TokenAndSpan → Out A
  reading x ts = exec hook (run hook) None x ts

  -- the right-hand side of a production
  unfoldable pub by_production : {s : Symbol} {r : Scope → Side F C K s} → ((c : Scope) → Production s c (r c))
      → Scope → List TokenAndSpan → Out (Answer F C K s)
  by_production {r = r} p c ts = reading (plan (r c)) ts

  -- the same, where no `=>` may come next
  unfoldable pub by_production_apart : {s : Symbol} {r : Scope → Side F C K s} → ((c : Scope) → Production s c (r c))
      → Scope → List TokenAndSpan → Out (Answer F C K s)
  by_production_apart {r = r} p c ts = reading (plan (r c) >>= apart) ts

  -- ---- prefix operators (13.5)

  -- after the prefix operator at s, and after its operand
  unfoldable pub unary_op_tail : Span → UnaryOp → Scope → List TokenAndSpan → Out (Tree F C K)
  unary_op_tail s op c ts = reading (plan (do
    e ← symbol Unary (inner c)
    must (delete_ok c.context op e)
    gives (unary_e (to s (span_of e)) op e))) ts

  unfoldable pub unary_op_node : Span → UnaryOp → Scope → Tree F C K → List TokenAndSpan → Out (Tree F C K)
  unary_op_node s op c e ts = reading (plan (do
    must (delete_ok c.context op e)
    gives (unary_e (to s (span_of e)) op e))) ts

  -- from the prefix operator on
  abbrev pub unary_op_by : UnaryOp → Option TokenAndSpan → Scope → List TokenAndSpan → Out (Tree F C K)
  unary_op_by op None c us = None
  unary_op_by op (Some t) c us = unary_op_tail t.span op c us

  unfoldable pub unary_op : UnaryOp → Scope → List TokenAndSpan → Out (Tree F C K)
  unary_op op c ts = unary_op_by op (first ts) c (rest ts)

  -- ---- binary operators (13.6 to 13.13)

  -- one operator above the precedence m with what is right of it, or none; what is after the operator, and
  -- after its right operand
  unfoldable pub turn : Tree F C K → ℕ → Scope → List TokenAndSpan → Out (Tree F C K × Option ℕ)
  turn l m c ts = reading (turn_plan (operator_at c.context (first ts)) l m c) ts

  unfoldable pub bin_op : BinaryOp → Tree F C K → ℕ → Scope → List TokenAndSpan → Out (Tree F C K × Option ℕ)
  bin_op op l m c ts = reading (bin_op_plan op l m c) ts

  unfoldable pub bin_op_node : BinaryOp → Tree F C K → ℕ → Tree F C K → List TokenAndSpan → Out (Tree F C K × Option ℕ)
  bin_op_node op l m r ts =
      reading (check (nullish_ok op l r) (gives (bin_e (to (span_of l) (span_of r)) op l r, Some m))) ts

  -- after a turn
  unfoldable pub turned : Tree F C K → Option ℕ → Scope → List TokenAndSpan → Out (Tree F C K)
  turned t o c ts = reading (turned_plan t o c) ts

  abbrev pub go_on : Tree F C K → Option ℕ → Scope → List TokenAndSpan → Out (Tree F C K)
  go_on t None c ts = Some (t, ts)
  go_on t (Some m) c ts = run hook (climb t m) c ts

  -- ---- `#` and a name (13.10)

  -- after the `#` at s
  unfoldable pub private_expr_tail : Span → Scope → List TokenAndSpan → Out (Tree F C K)
  private_expr_tail s c ts = reading (plan (do
    n ← one (any_name c)
    must (not c.syntax.pedantic)
    gives (private_e (to s n.at) n.text))) ts

  -- Where the syntax is pedantic, a `#` and a name before `in`, as its left operand.
  abbrev pub before_in : Spelling → Scope → List TokenAndSpan → Out (Tree F C K)
  before_in n c ts =
      if c.context.include_in_expr && at_token is_in (first ts) then Some (private_e n.at n.text, ts) else None

  unfoldable pub private_operand : Scope → List TokenAndSpan → Out (Tree F C K)
  private_operand c ts = hash_name c ts ▸ (λ p. before_in p.0.0 c p.1)

  -- After what begins a left-hand side: its links, and `++` or `--`.
  unfoldable pub behind_operand : Tree F C K → Scope → List TokenAndSpan → Out (Tree F C K)
  behind_operand e c ts = run hook (links true e) (inner c) ts ▸ (λ p. run hook (updates p.0) (inner c) p.1)

  -- an operand of a binary operator: such a `#` and a name, where they are free, or a unary expression
  unfoldable pub operand : Bool → Scope → List TokenAndSpan → Out (Tree F C K)
  operand is_free c ts =
      if is_private_here is_free c ts then private_operand c ts ▸ (λ p. behind_operand p.0 c p.1) else
      run hook (sym Unary) c ts

  -- ---- assignment expressions (13.15)

  -- an assignment expression in which `in` is an operator
  unfoldable pub inside : Scope → List TokenAndSpan → Out (Tree F C K)
  inside c ts = run hook (sym Assign) (with_in c) ts

  -- ---- expressions (13.16)

  -- an expression in which `in` is an operator
  unfoldable pub whole_inside : Scope → List TokenAndSpan → Out (Tree F C K)
  whole_inside c ts = run hook (sym Expr) (with_in c) ts

module _ {F C K : Type 0} where
  -- an identifier reference, as an expression
  unfoldable pub named_expr : Scope → List TokenAndSpan → Out (Tree F C K)
  named_expr c ts = word may_refer c ts ▸ (λ p. Some (ident_e p.0.at p.0.text, p.1))

  -- the same node, but where it begins, if that is told
  abbrev pub begun_if : Bool → BytePos → Tree F C K → Tree F C K
  begun_if true lo (node k s ts) = node k (from_to lo s.hi) ts
  begun_if false lo t = t
