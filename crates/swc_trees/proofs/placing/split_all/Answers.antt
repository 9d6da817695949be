use Rattle.std.proofs.Common.{arith}
use Rattle.swc_trees.proofs.Splits.{splitting-starts, splitting-more, splitting-ends}
use Rattle.swc_trees.proofs.placing.split_all.Goals as goal

pub loop-item-init : goal.loop-item-init
loop-item-init g c = splitting-starts g.F.Spanned.place g.C.Spanned.place g.K.Spanned.place g.T.Whole.parts g.T.Whole.of
    g.T.Whole.tree c.args.items.now.items _ c.deref_mut-item-items.ensures.value c.new-numbered.ensures.items

pub loop-item-preserved : goal.loop-item-preserved
loop-item-preserved g c =
    let l = c.loop-item.auto.item-items in
    let h = c.loop-item-test.true in
    splitting-more g.F.Spanned.place g.C.Spanned.place g.K.Spanned.place g.T.Whole.parts g.T.Whole.of g.T.Whole.tree
    c.item-item.result _ (omega arith) c.loop-item.invariant c.in_ok-split.ensures c.in_ok-push.ensures.items

pub returns : goal.returns
returns g c =
    let l = c.loop-item.auto.item-items in
    let h = c.loop-item-test.false in
    splitting-ends g.F.Spanned.place g.C.Spanned.place g.K.Spanned.place g.T.Whole.parts g.T.Whole.of g.T.Whole.tree
    c.loop-item.numbered (omega arith) c.loop-item.invariant
