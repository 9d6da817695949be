use Rattle.swc_trees.proofs.Assembled.{making-starts, next-offers, making-more}
use Rattle.swc_trees.proofs.items.all.Goals as goal

pub loop-item-init : goal.loop-item-init
loop-item-init g c = making-starts g.T.Item.parts g.T.Item.of g.T.Item.tree c.args.items.items
    c.in_ok-whole.ensures.items

pub assemble-requires : goal.assemble-requires
assemble-requires g c = next-offers g.T.Item.parts g.T.Item.of g.T.Item.tree c.pop.new.self.items c.in-Some.item
    c.in-Some.ensures.items c.requires c.loop-item.invariant

pub loop-item-preserved : goal.loop-item-preserved
loop-item-preserved g c = making-more g.T.Item.parts g.T.Item.of g.T.Item.tree c.pop.new.self.items c.in-Some.item
    c.in-Some.ensures.items c.in_ok-push.ensures.items c.loop-item.invariant c.in_ok-assemble.ensures
