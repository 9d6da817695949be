use Rattle.std.proofs.Common.{rules}
use Rattle.swc_trees.proofs.Lifting.{raising-starts, raising-offers, raising-view, raising-more, taken-out}
use Rattle.swc_trees.proofs.taking.take_all.Goals as goal

pub loop-part-init : goal.loop-part-init
loop-part-init g c = raising-starts c.new-built.ensures.items c.in_ok-lifted.ensures.lifted

pub assemble-requires-clause-offers : goal.assemble-requires-clause-offers
assemble-requires-clause-offers g c = raising-offers c.pop.new.self.items c.in-Some.field-0 c.in-Some.ensures.items
    c.loop-part.invariant

pub assemble-requires-clause-view : goal.assemble-requires-clause-view
assemble-requires-clause-view g c = raising-view c.pop.new.self.items c.in-Some.field-0 c.in-Some.ensures.items
    c.loop-part.invariant

pub loop-part-preserved : goal.loop-part-preserved
loop-part-preserved g c =
    raising-more c.pop.new.self.items c.in-Some.field-0 c.in_ok-tree.tree c.in-Some.ensures.items
    c.in_ok-tree.ensures.kind c.in_ok-tree.ensures.tree
    c.in_ok-push.ensures.items c.loop-part.invariant

pub returns : goal.returns
returns g c = taken-out c.in_ok-lifted.ensures.left (search rules) c.loop-part.invariant
