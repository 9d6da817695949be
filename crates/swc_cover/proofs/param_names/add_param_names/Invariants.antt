use Rattle.std.proofs.Common.{◌≡◌, ◌++◌, drop}
use Rattle.swc_cover.proofs.Named.{arrow_params_of}
use Rattle.swc_cover.specs.ReservedNames.{all_reserved}
use Rattle.swc_cover.proofs.param_names.add_param_names.Given as goal

abbrev pub invariant-loop-i : goal.invariant-loop-i
invariant-loop-i g l =
    l.spans.items ++ all_reserved (arrow_params_of l.nodes (drop l.i l.pats.items)) ≡ l.fn.spans.items ++ all_reserved
    (arrow_params_of l.nodes l.pats.items)
