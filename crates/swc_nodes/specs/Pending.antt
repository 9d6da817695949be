-- The operators that are pending, and their left operands.
use Rattle.std.specs.Prelude.{List, [], ◌∷◌, ◌++◌, option_to_list}
use Rattle.swc_nodes.specs.{NodeParts.Part, NodeParts.expr_part, declared.node.ExprId.ExprId, declared.pending.PendingOperator.PendingOperator, declared.pending.PendingOperators.PendingOperators}

-- all that are pending, the lowest one first
abbrev pub all_pending : PendingOperators → List PendingOperator
all_pending p = p.below.items ++ option_to_list p.top

-- their left operands from bottom to top, and then the operand that was read last, as parts of nodes
abbrev pub operand_parts : List PendingOperator → ExprId → List Part
operand_parts [] e = expr_part e ∷ []
operand_parts (w ∷ ws) e = expr_part w.left ∷ operand_parts ws e

-- the first one of these
abbrev pub first_operand : List PendingOperator → ExprId → ExprId
first_operand [] e = e
first_operand (w ∷ ws) e = w.left
