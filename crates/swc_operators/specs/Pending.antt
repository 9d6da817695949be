-- What is read after an operand, while operators below it wait for their right operands (13.6 to 13.13), by the clean
-- parser.
use Rattle.std.specs.Prelude.{ℕ, if◌then◌else◌, nat_le, nat_lt, List, [], ◌∷◌, Option, Some, None}
use Rattle.swc_context.specs.{Operators.precedence_of, declared.operator.BinaryOp.BinaryOp}
use Rattle.swc_input.specs.declared.token.TokenAndSpan.{TokenAndSpan}
use Rattle.swc_ast.specs.Tree.{Tree, span_of}
use Rattle.swc_ast.specs.Trees.{to, bin_e, exp_ok, nullish_ok, min_right}
use Rattle.swc_bodies.specs.Readings.{Hook}
use Rattle.swc_grammar.specs.Clean.{Out, climb, run}
use Rattle.swc_grammar.specs.{Scope.Scope, Words.◌>>=◌, Words.rest}
use Rattle.swc_nodes.specs.{Rising.least_above, declared.node.ExprId.ExprId, declared.pending.PendingOperator.PendingOperator}
use Rattle.swc_steps.specs.Readers.{bin_op_node, operand, turned}

-- the operator, if it binds tighter than the precedence m
abbrev pub operator_above : ℕ → Option BinaryOp → Option BinaryOp
operator_above m None = None
operator_above m (Some op) = if nat_le (precedence_of op) m then None else Some op

module _ {F C K : Type 0} where
  -- an operator, which is first, is taken after its left operand l
  unfoldable pub operator_taken : BinaryOp → Tree F C K → Scope → List TokenAndSpan → Out (Unit {0})
  operator_taken op l c ts = if exp_ok op l then Some (tt, rest ts) else None

  -- the node of an operator and its operands
  abbrev pub joined : BinaryOp → Tree F C K → Tree F C K → Tree F C K
  joined op l r = bin_e (to (span_of l) (span_of r)) op l r

module _ {F C K : Type 0} (hook : Hook F C K) where
  -- an operator and its operands, which were read
  unfoldable pub join : BinaryOp → Tree F C K → Tree F C K → Scope → List TokenAndSpan → Out (Tree F C K)
  join op l r c ts = if nullish_ok op l r then turned hook (joined op l r) None c ts else None

  -- After the right operand r of an operator, the left one of which is l: the node of both, and then on, through
  -- operators above the precedence m.
  abbrev pub on_joined : BinaryOp → Tree F C K → ℕ → Tree F C K → Scope → List TokenAndSpan → Out (Tree F C K)
  on_joined op l m r c ts = bin_op_node hook op l m r ts >>= (λ p. turned hook p.0.0 p.0.1 c p.1)

  -- after that operator, from its right operand on
  abbrev pub on_operand : BinaryOp → Tree F C K → ℕ → Scope → List TokenAndSpan → Out (Tree F C K)
  on_operand op l m c ts =
      (operand hook (nat_lt (min_right op) 7) c ts >>= (λ p. run hook (climb p.0 (min_right op)) c p.1))
      >>= (λ q. on_joined op l m q.0 c q.1)

  -- What is read through all operators that wait, the lowest of which is on the precedence m: the one on top waits
  -- for o.
  abbrev pub through : (ExprId → Tree F C K) → ℕ → List PendingOperator → Scope → Out (Tree F C K) → Out (Tree F C K)
  through tree m [] c o = o
  through tree m (w ∷ ws) c o = through tree (min_right w.op) ws c o >>= (λ p. on_joined w.op (tree w.left) m p.0 c p.1)

  -- after the operand e, which was read above them
  unfoldable pub pending_reads : (ExprId → Tree F C K) → List PendingOperator → ExprId → Scope → List TokenAndSpan
      → Out (Tree F C K)
  pending_reads tree ws e c ts = through tree 0 ws c (run hook (climb (tree e) (least_above 0 ws)) c ts)

  -- after the operand e, where no operator follows that belongs to it
  abbrev pub pending_left : (ExprId → Tree F C K) → List PendingOperator → ExprId → Scope → List TokenAndSpan
      → Out (Tree F C K)
  pending_left tree ws e c ts = through tree 0 ws c (Some (tree e, ts))

  -- after an operator that was taken above them, from its right operand on; its left one is e
  abbrev pub pending_operand : (ExprId → Tree F C K) → List PendingOperator → ExprId → BinaryOp → Scope
      → List TokenAndSpan → Out (Tree F C K)
  pending_operand tree ws e op c ts = through tree 0 ws c (on_operand op (tree e) (least_above 0 ws) c ts)
