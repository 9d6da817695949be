use Rattle.std.proofs.Common.{sym, ◌∙◌}
use Rattle.swc_nodes.proofs.Edges.{last-leads, last-same}
use Rattle.swc_nodes.proofs.nodes.Nodes.end.Goals as goal

pub loop-operand-smaller : goal.loop-operand-smaller
loop-operand-smaller g c =
    (last-leads _ c.in-Some.operand (sym c.last_operand.ensures ∙ c.in-Some.is) c.get-node.ensures
    c.loop-operand.invariant.from.within).below

pub loop-operand-preserved : goal.loop-operand-preserved
loop-operand-preserved g c =
    let start = c.loop-operand.invariant in
    let some = sym c.last_operand.ensures ∙ c.in-Some.is in
    record {
      from = (last-leads _ c.in-Some.operand some c.get-node.ensures start.from.within).from;
      same = last-same _ c.in-Some.operand some c.get-node.ensures start.from.within ∙ start.same;
    }
