use Rattle.std.proofs.Common.{◌≡◌, ◌++◌, map, reverse}
use Rattle.swc_nodes.specs.GrowingNodes.{tree_at}
use Rattle.swc_ecma_parser.specs.Dues.{due_of, names_due, steps_left, AreWithin}
use Rattle.swc_ecma_parser.proofs.verifier.find_due.Given as goal

-- what is due, and then what was found, from the last one on, is all that is to be found
abbrev pub invariant-loop-last : goal.invariant-loop-last
invariant-loop-last g l = record {
  valid : AreWithin l.nodes (map due_of l.due.items);
  rest : names_due l.in_arrows (tree_at l.nodes) (map due_of l.due.items) ++ reverse l.names.items
      ≡ names_due l.in_arrows (tree_at l.nodes) (map due_of l.fn.due.items);
}

abbrev pub decreases-loop-last : goal.decreases-loop-last
decreases-loop-last g l = steps_left l.nodes (map due_of l.due.items)
