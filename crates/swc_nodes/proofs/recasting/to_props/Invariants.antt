use Rattle.std.proofs.Common.{◌≡◌, ◌++◌, map}
use Rattle.swc_nodes.specs.NodeParts.{flat}
use Rattle.swc_nodes.specs.Recasting.{props_for}
use Rattle.swc_nodes.specs.Roles.{due, prop_dues}
use Rattle.swc_nodes.specs.Turning.{node_at}
use Rattle.swc_nodes.proofs.recasting.to_props.Given as goal

abbrev pub invariant-loop-prop : goal.invariant-loop-prop
invariant-loop-prop g l = record {
  pats : l.pats.items ≡ props_for (node_at l.nodes.items) l.role l.yielded;
  dues : map due l.due.items ≡ map due l.fn.due.items ++ flat (prop_dues l.role) l.yielded;
}
