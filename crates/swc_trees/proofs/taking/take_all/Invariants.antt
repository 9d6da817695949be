use Rattle.std.proofs.Common.{map, vec_len}
use Rattle.swc_nodes.specs.{GrowingNodes.bare_at, Walking.part_of}
use Rattle.swc_trees.proofs.Lifting.{Raising}
use Rattle.swc_trees.proofs.taking.take_all.Given as goal

abbrev pub invariant-loop-part : goal.invariant-loop-part
invariant-loop-part g l = Raising g.F.Spanned.place g.C.Spanned.place g.K.Spanned.place (bare_at l.fn.nodes)
    (map part_of l.fn.parts.items) l.lifted.items l.built.items

abbrev pub decreases-loop-part : goal.decreases-loop-part
decreases-loop-part g l = vec_len l.lifted
