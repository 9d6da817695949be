use Rattle.std.proofs.Common.{◌≡◌}
use Rattle.swc_nodes.specs.{NodeParts.expr_part, GrowingNodes.seat_at, GrowingNodes.From}
use Rattle.swc_nodes.proofs.nodes.Nodes.start.Given as goal

abbrev pub invariant-loop-operand : goal.invariant-loop-operand
invariant-loop-operand g l =
    record {
      from : From 0 l.self (expr_part l.first);
      same : (seat_at l.self l.first.0).refused_start ≡ (seat_at l.self l.fn.id.0).refused_start;
    }

abbrev pub decreases-loop-operand : goal.decreases-loop-operand
decreases-loop-operand g l = l.first.0
