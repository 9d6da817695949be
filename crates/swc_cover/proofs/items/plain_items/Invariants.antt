use Rattle.std.proofs.Common.{◌≡◌, ◌++◌, drop}
use Rattle.swc_cover.specs.Items.{listed}
use Rattle.swc_nodes.specs.NodeParts.{flat}
use Rattle.swc_cover.proofs.items.plain_items.Given as goal

abbrev pub invariant-loop-item : goal.invariant-loop-item
invariant-loop-item l = l.pats.items ++ flat listed (drop l.item-index l.item-items) ≡ flat listed l.item-items
