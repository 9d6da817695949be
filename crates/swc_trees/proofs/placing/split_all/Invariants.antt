use Rattle.swc_trees.proofs.Splits.{Splitting}
use Rattle.swc_trees.proofs.placing.split_all.Given as goal

abbrev pub invariant-loop-item : goal.invariant-loop-item
invariant-loop-item g l = Splitting g.F.Spanned.place g.C.Spanned.place g.K.Spanned.place g.T.Whole.parts g.T.Whole.of
    g.T.Whole.tree l.fn.items.items l.item-items l.item-index l.fn.built.items l.numbered.items l.built.items
