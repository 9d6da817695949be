use Rattle.std.proofs.Common.{◌≡◌, ◌++◌, drop, map}
use Rattle.swc_nodes.specs.Recasting.{elems_for}
use Rattle.swc_nodes.specs.Roles.{due, elem_dues}
use Rattle.swc_nodes.specs.Turning.{node_at, place_in}
use Rattle.swc_nodes.proofs.recasting.to_elems.Given as goal

abbrev pub invariant-loop-i : goal.invariant-loop-i
invariant-loop-i g l =
    let xs = l.nodes.items in
    let es = l.elems.items in
    let made = elems_for (node_at xs) (place_in g.F.Spanned.place g.C.Spanned.place g.K.Spanned.place xs) l.role in
    record {
      pats : l.pats.items ++ made (drop l.i es) ≡ made es;
      dues : map due l.due.items ++ elem_dues l.role (drop l.i es) ≡ map due l.fn.due.items ++ elem_dues l.role es;
    }
