use Rattle.std.proofs.Common.{◌≡◌, ◌+◌, ◌*◌, ◌++◌, drop}
use Rattle.swc_cover.proofs.Fitting.{pats_of, pat_props_of}
use Rattle.swc_cover.specs.{Below.part_size, Below.pat_elem_size, Below.pat_prop_size, Faults.all_again, Faults.props_again}
use Rattle.swc_cover.proofs.faults.+again.Given as goal

abbrev pub decreases-record_again : goal.decreases-record_again
decreases-record_again g l = l.id.0 * 4 + 2

abbrev pub decreases-again_elems : goal.decreases-again_elems
decreases-again_elems g l = l.id.0 * 4 + 1

abbrev pub decreases-again_props : goal.decreases-again_props
decreases-again_props g l = l.id.0 * 4 + 1

abbrev pub decreases-again_elem : goal.decreases-again_elem
decreases-again_elem g l = pat_elem_size l.elem

abbrev pub decreases-again_part : goal.decreases-again_part
decreases-again_part g l = part_size l.part

abbrev pub decreases-again_prop : goal.decreases-again_prop
decreases-again_prop g l = pat_prop_size l.prop.now

abbrev pub invariant-again_elems-loop-i : goal.invariant-again_elems-loop-i
invariant-again_elems-loop-i g l =
    l.faults.items ++ all_again (pats_of l.nodes (drop l.i l.elems.items)) ≡ l.fn.faults.items ++ all_again
    (pats_of l.nodes l.elems.items)

abbrev pub invariant-again_props-loop-i : goal.invariant-again_props-loop-i
invariant-again_props-loop-i g l =
    l.faults.items ++ props_again (pat_props_of l.nodes (drop l.i l.props.items)) ≡ l.fn.faults.items ++ props_again
    (pat_props_of l.nodes l.props.items)
