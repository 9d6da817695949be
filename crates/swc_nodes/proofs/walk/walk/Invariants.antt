use Rattle.std.proofs.Common.{length, map, reverse}
use Rattle.swc_nodes.specs.{Visits.IsReady, Walking.part_of, Weights.ats, Weights.left_over}
use Rattle.swc_nodes.proofs.Visited.{Walks}
use Rattle.swc_nodes.proofs.walk.walk.Given as goal

-- what is reached was left, or is still to be reached from what is due
abbrev pub invariant-loop-part : goal.invariant-loop-part
invariant-loop-part g l = record {
  walks : Walks l.nodes (g.T.Parts.parts l.item) l.due.items l.around.items l.visits.items;
  ready : IsReady (length l.due.items) (reverse l.around.items);
}

abbrev pub decreases-loop-part : goal.decreases-loop-part
decreases-loop-part g l = left_over l.nodes (ats (map part_of l.due.items))
