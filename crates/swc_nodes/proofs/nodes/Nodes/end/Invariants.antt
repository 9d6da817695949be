use Rattle.std.proofs.Common.{◌≡◌}
use Rattle.swc_nodes.specs.{NodeParts.expr_part, GrowingNodes.seat_at, GrowingNodes.From}
use Rattle.swc_nodes.proofs.nodes.Nodes.end.Given as goal

abbrev pub invariant-loop-operand : goal.invariant-loop-operand
invariant-loop-operand g l =
    record {
      from : From 0 l.self (expr_part l.last);
      same : (seat_at l.self l.last.0).refused_end ≡ (seat_at l.self l.fn.id.0).refused_end;
    }

abbrev pub decreases-loop-operand : goal.decreases-loop-operand
decreases-loop-operand g l = l.last.0
