use Rattle.std.proofs.Common.{◌+◌, ◌*◌, drop}
use Rattle.swc_cover.proofs.{Fitting.elems_of, Fitting.props_of, Recording.Remains}
use Rattle.swc_cover.specs.{Below.elem_size, Below.prop_size, Checking.way_of, Faults.elems_verdict, Faults.props_verdict}
use Rattle.swc_cover.proofs.faults.+check.Given as goal

abbrev pub decreases-check_expr : goal.decreases-check_expr
decreases-check_expr g l = l.id.0 * 4 + 2

abbrev pub decreases-check_elems : goal.decreases-check_elems
decreases-check_elems g l = l.id.0 * 4 + 1

abbrev pub decreases-check_props : goal.decreases-check_props
decreases-check_props g l = l.id.0 * 4 + 1

abbrev pub decreases-check_held : goal.decreases-check_held
decreases-check_held g l = l.held.0 * 4 + 3

abbrev pub decreases-check_elem : goal.decreases-check_elem
decreases-check_elem g l = elem_size l.elem.now

abbrev pub decreases-check_prop : goal.decreases-check_prop
decreases-check_prop g l = prop_size l.prop.now

abbrev pub invariant-check_elems-loop-i : goal.invariant-check_elems-loop-i
invariant-check_elems-loop-i g l =
    Remains l.fn.faults.items (elems_verdict (way_of l.way) l.trailing_comma (elems_of l.nodes l.elems.items))
    l.faults.items (elems_verdict (way_of l.way) l.trailing_comma (elems_of l.nodes (drop l.i l.elems.items)))

abbrev pub invariant-check_props-loop-i : goal.invariant-check_props-loop-i
invariant-check_props-loop-i g l =
    Remains l.fn.faults.items (props_verdict (way_of l.way) l.trailing_comma (props_of l.nodes l.props.items))
    l.faults.items (props_verdict (way_of l.way) l.trailing_comma (props_of l.nodes (drop l.i l.props.items)))
