use Rattle.std.proofs.Common.{sym, ◌∙◌}
use Rattle.swc_nodes.proofs.Edges.{left-leads, left-same}
use Rattle.swc_nodes.proofs.nodes.Nodes.start.Goals as goal

pub loop-operand-smaller : goal.loop-operand-smaller
loop-operand-smaller g c =
    (left-leads _ c.in-Some.operand (sym c.left_operand.ensures ∙ c.in-Some.is) c.get-node.ensures
    c.loop-operand.invariant.from.within).below

pub loop-operand-preserved : goal.loop-operand-preserved
loop-operand-preserved g c =
    let start = c.loop-operand.invariant in
    let some = sym c.left_operand.ensures ∙ c.in-Some.is in
    record {
      from = (left-leads _ c.in-Some.operand some c.get-node.ensures start.from.within).from;
      same = left-same _ c.in-Some.operand some c.get-node.ensures start.from.within ∙ start.same;
    }
