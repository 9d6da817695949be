use Rattle.std.proofs.Common.{◌≤◌, take}
use Rattle.swc_input.specs.Buffer.{to_come}
use Rattle.swc_input.specs.Calls.{Checks}
use Rattle.swc_steps.specs.Parsing.{tree_of}
use Rattle.swc_primary.proofs.ParenItems.{all_pass, whole_item}
use Rattle.swc_primary.proofs.parens.check_item_covers.Given as goal

abbrev pub invariant-loop-item : goal.invariant-loop-item
invariant-loop-item g l =
    Checks g.I.Tokens.model (all_pass (whole_item (tree_of l.nodes)) (take l.item-index l.item-items)) l.fn.input
    l.input
    × (to_come g.I.Tokens.model l.input ≤ to_come g.I.Tokens.model l.fn.input)
