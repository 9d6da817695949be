use Rattle.std.proofs.Common.{sym, ◌∙◌}
use Rattle.swc_nodes.specs.NodeParts.{expr_part, one_expr}
use Rattle.swc_nodes.proofs.Held.{stood-is, stood-apart, from-apart, left-nullish}
use Rattle.swc_nodes.proofs.nodes.Nodes.has_nullish_left.Goals as goal

pub is_nullish-requires : goal.is_nullish-requires
is_nullish-requires g c = from-apart (expr_part c.in-Bin.left) (one_expr c.in-Bin.right)
    (stood-apart (stood-is _ c.in-Bin.is c.get.ensures) c.requires.within)

pub returns-then-is_logical_op : goal.returns-then-is_logical_op
returns-then-is_logical_op g c =
    left-nullish c.in-Bin.span c.in-Bin.op c.in-Bin.left c.in-Bin.right c.is_nullish.result
    (stood-is _ c.in-Bin.is c.get.ensures) c.requires.within
    (sym c.is_logical_op.ensures ∙ c.if-is_logical_op.true) c.is_nullish.ensures
