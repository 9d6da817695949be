use Rattle.std.proofs.Common.{vec_len}
use Rattle.swc_trees.proofs.Assembled.{Making}
use Rattle.swc_trees.proofs.items.all.Given as goal

abbrev pub invariant-loop-item : goal.invariant-loop-item
invariant-loop-item g l = Making g.F.Spanned.place g.C.Spanned.place g.K.Spanned.place g.T.Item.parts g.T.Item.of
    g.T.Item.tree l.fn.items.items l.items.items l.fn.built.items l.whole.items l.built.items

abbrev pub decreases-loop-item : goal.decreases-loop-item
decreases-loop-item g l = vec_len l.items
