use Rattle.std.proofs.Common.{◌≡◌, ◌++◌, drop, map}
use Rattle.swc_cover.specs.Items.{item_due}
use Rattle.swc_nodes.specs.{Roles.due, declared.role.Role.TheVariants.Bind}
use Rattle.swc_cover.proofs.items.item_roots.Given as goal

abbrev pub invariant-loop-item : goal.invariant-loop-item
invariant-loop-item l = map due l.roots.items ++ map (item_due Bind) (drop l.item-index l.item-items) ≡ map
    (item_due Bind) l.item-items
