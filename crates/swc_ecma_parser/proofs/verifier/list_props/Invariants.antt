use Rattle.std.proofs.Common.{◌≡◌, ◌++◌, drop, map}
use Rattle.swc_nodes.specs.NodeParts.{flat}
use Rattle.swc_ecma_parser.specs.Dues.{due_of, prop_dues}
use Rattle.swc_ecma_parser.proofs.verifier.list_props.Given as goal

abbrev pub invariant-loop-prop : goal.invariant-loop-prop
invariant-loop-prop g l =
    map due_of l.due.items ++ flat prop_dues (drop l.prop-index l.props)
    ≡ map due_of l.fn.due.items ++ flat prop_dues l.props
