use Rattle.std.proofs.Common.{◌≡◌, ◌++◌, drop, map, take}
use Rattle.swc_nodes.specs.NodeParts.{flat}
use Rattle.swc_nodes.specs.Recasting.{bare_prop}
use Rattle.swc_nodes.specs.Roles.{due, pat_prop_dues}
use Rattle.swc_nodes.proofs.recasting.rebind_props.Given as goal

abbrev pub invariant-loop-prop : goal.invariant-loop-prop
invariant-loop-prop l = record {
  items : l.prop-items ≡ map bare_prop (take l.prop-index l.fn.props.items) ++ drop l.prop-index l.fn.props.items;
  dues : map due l.due.items ++ flat pat_prop_dues (drop l.prop-index l.fn.props.items)
      ≡ map due l.fn.due.items ++ flat pat_prop_dues l.fn.props.items;
}
