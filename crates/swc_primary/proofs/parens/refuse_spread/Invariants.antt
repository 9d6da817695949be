use Rattle.std.proofs.Common.{◌≡◌, true, take}
use Rattle.swc_primary.proofs.ParenItems.{all_pass, plain_item}
use Rattle.swc_primary.proofs.parens.refuse_spread.Given as goal

abbrev pub invariant-loop-item : goal.invariant-loop-item
invariant-loop-item g l = (l.input ≡ l.fn.input) × (all_pass plain_item (take l.item-index l.item-items) ≡ true)
