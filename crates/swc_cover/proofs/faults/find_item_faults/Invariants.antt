use Rattle.std.proofs.Common.{drop}
use Rattle.swc_cover.proofs.Recording.{Remains, items_of}
use Rattle.swc_cover.specs.Faults.{params_verdict}
use Rattle.swc_cover.proofs.faults.find_item_faults.Given as goal

abbrev pub invariant-loop-i : goal.invariant-loop-i
invariant-loop-i g l =
    Remains l.fn.faults.items (params_verdict l.trailing_comma (items_of l.nodes l.items.items)) l.faults.items
    (params_verdict l.trailing_comma (items_of l.nodes (drop l.i l.items.items)))
