use Rattle.std.proofs.Common.{◌≤◌, take, map}
use Rattle.swc_input.specs.Buffer.{to_come}
use Rattle.swc_ast.specs.Tree.{trees}
use Rattle.swc_patterns.specs.Answers.{pat_prop_at}
use Rattle.swc_patterns.proofs.PropRests.{RestsSeen}
use Rattle.swc_patterns.proofs.object.check_rests.Given as goal

abbrev pub invariant-loop-prop : goal.invariant-loop-prop
invariant-loop-prop g l =
    RestsSeen g.I.Tokens.model (trees (map (pat_prop_at l.nodes) (take l.prop-index l.prop-items))) l.last
    l.fn.input l.input
    × (to_come g.I.Tokens.model l.input ≤ to_come g.I.Tokens.model l.fn.input)
