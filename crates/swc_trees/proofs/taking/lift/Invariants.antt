use Rattle.std.proofs.Common.{map}
use Rattle.swc_nodes.specs.{GrowingNodes.count, Walking.part_of}
use Rattle.swc_trees.proofs.Lifting.{Lifting}
use Rattle.swc_trees.proofs.taking.lift.Given as goal

abbrev pub invariant-loop-part : goal.invariant-loop-part
invariant-loop-part g l = Lifting (map part_of l.initial.due.items) l.fn.nodes
    (map part_of l.due.items) l.lifted.items l.nodes

abbrev pub decreases-loop-part : goal.decreases-loop-part
decreases-loop-part g l = count l.nodes
