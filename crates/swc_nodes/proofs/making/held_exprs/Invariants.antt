use Rattle.std.proofs.Common.{◌≡◌, ◌++◌, drop, map}
use Rattle.swc_nodes.proofs.making.held_exprs.Given as goal

abbrev pub invariant-loop-item : goal.invariant-loop-item
invariant-loop-item l =
    l.exprs.items ++ map (λ item. item.expr) (drop l.item-index l.items.items) ≡ map (λ item. item.expr) l.items.items
