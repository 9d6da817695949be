use Rattle.std.proofs.Common.{◌≡◌, ℕ, map}
use Rattle.swc_nodes.specs.Commas.{comma_at, part_commas, recalled}
use Rattle.swc_nodes.specs.Weights.{ats, left_over, AreNumbers}
use Rattle.swc_nodes.specs.{GrowingNodes.tree_at, Walking.part_of}
use Rattle.swc_nodes.proofs.commas.TrailingCommas.remember_all.Given as goal

-- what is due, after what is remembered, is all that was to be remembered
abbrev pub invariant-loop-part : goal.invariant-loop-part
invariant-loop-part g l = record {
  valid : AreNumbers l.nodes (ats (map part_of l.due.items));
  rest : (at : ℕ) → recalled (part_commas (tree_at l.nodes) (map part_of l.due.items)) at (comma_at l.self at)
      ≡ recalled (part_commas (tree_at l.nodes) (g.T.Parts.parts l.item)) at (comma_at l.fn.self at);
}

abbrev pub decreases-loop-part : goal.decreases-loop-part
decreases-loop-part g l = left_over l.nodes (ats (map part_of l.due.items))
