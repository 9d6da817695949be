-- How operators whose right operands are being read are on one another, from bottom to top.
use Rattle.std.specs.Prelude.{ℕ, Bool, true, ◌&&◌, nat_lt, List, [], ◌∷◌}
use Rattle.swc_context.specs.{Operators.precedence_of, declared.operator.BinaryOp.BinaryOp}
use Rattle.swc_ast.specs.Trees.{min_right}
use Rattle.swc_nodes.specs.{declared.node.ExprId.ExprId, declared.pending.PendingOperator.PendingOperator}

-- an operator and its left operand
abbrev pub waiting : ExprId → BinaryOp → PendingOperator
waiting left op = record { left = left; op = op }

-- Above operators that are on m: the precedence above which operators belong to the right operand of the one on top.
abbrev pub least_above : ℕ → List PendingOperator → ℕ
least_above m [] = m
least_above m (w ∷ ws) = least_above (min_right w.op) ws

-- From bottom to top each operator binds tighter than m, which is what the one below it leaves to its right: so the
-- precedences rise, and only `**`, which groups to the right, is on one of its own precedence, on `**`.
abbrev pub rises : ℕ → List PendingOperator → Bool
rises m [] = true
rises m (w ∷ ws) = nat_lt m (precedence_of w.op) && rises (min_right w.op) ws
