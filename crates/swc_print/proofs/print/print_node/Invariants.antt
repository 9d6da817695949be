use Rattle.std.proofs.Common.{◌≡◌, ◌++◌, []}
use Rattle.std.specs.Option.{option_to_list}
use Rattle.swc_print.specs.Numbers.{numbers}
use Rattle.swc_nodes.specs.Weights.{left_over, AreNumbers}
use Rattle.swc_print.proofs.print.print_node.Given as goal

abbrev pub invariant-loop-next : goal.invariant-loop-next
invariant-loop-next g l = record {
  valid : AreNumbers l.nodes (numbers l.stack.items ++ option_to_list l.next);
  none : numbers l.pieces.waiting.items ≡ [];
}

abbrev pub decreases-loop-next : goal.decreases-loop-next
decreases-loop-next g l = left_over l.nodes (numbers l.stack.items ++ option_to_list l.next)
