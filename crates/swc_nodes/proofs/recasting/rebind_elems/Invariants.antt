use Rattle.std.proofs.Common.{◌≡◌, ◌++◌, drop, map, take}
use Rattle.swc_nodes.specs.NodeParts.{flat}
use Rattle.swc_nodes.specs.Recasting.{bare_some}
use Rattle.swc_nodes.specs.Roles.{due, pat_elem_dues}
use Rattle.swc_nodes.proofs.recasting.rebind_elems.Given as goal

abbrev pub invariant-loop-elem : goal.invariant-loop-elem
invariant-loop-elem l = record {
  items : l.elem-items ≡ map bare_some (take l.elem-index l.fn.elems.items) ++ drop l.elem-index l.fn.elems.items;
  dues : map due l.due.items ++ flat pat_elem_dues (drop l.elem-index l.fn.elems.items)
      ≡ map due l.fn.due.items ++ flat pat_elem_dues l.fn.elems.items;
}
