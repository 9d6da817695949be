-- The operand with which a node begins where it does, and the one with which it ends where it does, if there is such a
-- one.
use Rattle.std.specs.Prelude.{true, Option, Some, None}
use Rattle.swc_context.specs.declared.span.BytePos.{BytePos}
use Rattle.swc_nodes.specs.{declared.node.ExprId.ExprId, declared.node.Node.Node, declared.node.Node.Node as n}

abbrev pub left_operand : {F C K : Type 0} → Node F C K → Option ExprId
left_operand (n.Bin s op l r) = Some l
left_operand x = None

abbrev pub last_operand : {F C K : Type 0} → Node F C K → Option ExprId
last_operand (n.Unary s op a) = Some a
last_operand (n.Update s op true a) = Some a
last_operand (n.Bin s op l r) = Some r
last_operand (n.Cond s t c a) = Some a
last_operand x = None

-- where an operand that was refused begins, and where the token before it ends
abbrev pub own_start : {F C K : Type 0} → Node F C K → Option BytePos
own_start (n.Invalid i) = Some i.first
own_start x = None

abbrev pub own_end : {F C K : Type 0} → Node F C K → Option BytePos
own_end (n.Invalid i) = Some i.last
own_end x = None
