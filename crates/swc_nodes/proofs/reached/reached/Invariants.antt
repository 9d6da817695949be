use Rattle.std.proofs.Common.{map, reverse}
use Rattle.swc_nodes.specs.{Walking.part_of, Weights.ats, Weights.left_over}
use Rattle.swc_nodes.proofs.Reaching.{Going}
use Rattle.swc_nodes.proofs.reached.reached.Given as goal

-- what is reached was found, or is still to be reached from what is due
abbrev pub invariant-loop-part : goal.invariant-loop-part
invariant-loop-part g l =
    Going l.nodes (g.T.Parts.parts l.item) (map part_of l.due.items) (map part_of (reverse l.found.items))

abbrev pub decreases-loop-part : goal.decreases-loop-part
decreases-loop-part g l = left_over l.nodes (ats (map part_of l.due.items))
