use Rattle.std.proofs.Common.{not, ◌≤◌, take}
use Rattle.swc_input.specs.Buffer.{to_come}
use Rattle.swc_nodes.specs.Lists.{has_cover}
use Rattle.swc_input.specs.Calls.{Checks}
use Rattle.swc_primary.proofs.parens.check_props.Given as goal

abbrev pub invariant-loop-prop : goal.invariant-loop-prop
invariant-loop-prop g l =
    Checks g.I.Tokens.model (not (has_cover (take l.prop-index l.prop-items))) l.fn.input l.input
    × (to_come g.I.Tokens.model l.input ≤ to_come g.I.Tokens.model l.fn.input)
