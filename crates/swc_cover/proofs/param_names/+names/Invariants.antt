use Rattle.std.proofs.Common.{◌≡◌, ◌+◌, ◌*◌, ◌++◌, drop}
use Rattle.swc_cover.proofs.Fitting.{pats_of, pat_props_of}
use Rattle.swc_cover.specs.{Below.part_size, Below.pat_elem_size, Below.pat_prop_size, ReservedNames.all_reserved, ReservedNames.props_reserved}
use Rattle.swc_cover.proofs.param_names.+names.Given as goal

abbrev pub decreases-add_names : goal.decreases-add_names
decreases-add_names g l = l.id.0 * 4 + 2

abbrev pub decreases-add_elems_names : goal.decreases-add_elems_names
decreases-add_elems_names g l = l.id.0 * 4 + 1

abbrev pub decreases-add_props_names : goal.decreases-add_props_names
decreases-add_props_names g l = l.id.0 * 4 + 1

abbrev pub decreases-add_elem_names : goal.decreases-add_elem_names
decreases-add_elem_names g l = pat_elem_size l.elem

abbrev pub decreases-add_part_names : goal.decreases-add_part_names
decreases-add_part_names g l = part_size l.part

abbrev pub decreases-add_prop_names : goal.decreases-add_prop_names
decreases-add_prop_names g l = pat_prop_size l.prop.now

abbrev pub invariant-add_elems_names-loop-i : goal.invariant-add_elems_names-loop-i
invariant-add_elems_names-loop-i g l =
    l.spans.items ++ all_reserved (pats_of l.nodes (drop l.i l.elems.items)) ≡ l.fn.spans.items ++ all_reserved
    (pats_of l.nodes l.elems.items)

abbrev pub invariant-add_props_names-loop-i : goal.invariant-add_props_names-loop-i
invariant-add_props_names-loop-i g l =
    l.spans.items ++ props_reserved (pat_props_of l.nodes (drop l.i l.props.items)) ≡ l.fn.spans.items ++
    props_reserved (pat_props_of l.nodes l.props.items)
