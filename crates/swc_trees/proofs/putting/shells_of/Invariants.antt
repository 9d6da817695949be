use Rattle.std.proofs.Common.{reverse}
use Rattle.swc_trees.specs.{Building.built_tree, Shells.Reads}
use Rattle.swc_trees.proofs.Weights.{weight_of}
use Rattle.swc_trees.proofs.putting.shells_of.Given as goal

-- the nodes that were made, read back over what is due, are the trees
abbrev pub invariant-loop-tree : goal.invariant-loop-tree
invariant-loop-tree g l =
    Reads g.F.Spanned.place g.C.Spanned.place g.K.Spanned.place (reverse l.shells.items) l.due.items l.fn.due.items

abbrev pub decreases-loop-tree : goal.decreases-loop-tree
decreases-loop-tree g l = weight_of (built_tree g.F.Spanned.place g.C.Spanned.place g.K.Spanned.place) l.due.items
