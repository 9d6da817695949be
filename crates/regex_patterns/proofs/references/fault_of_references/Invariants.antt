use Rattle.std.proofs.Common.{◌≡◌, ◌-◌, length, drop}
use Rattle.regex_patterns.specs.Conditions.{are_known, group_names}
use Rattle.regex_patterns.proofs.references.fault_of_references.Given as goal

abbrev pub invariant-loop-number : goal.invariant-loop-number
invariant-loop-number l = are_known l.units (group_names l.units l.pieces) (drop l.number l.pieces) ≡ are_known l.units (group_names l.units l.pieces) l.pieces

abbrev pub decreases-loop-number : goal.decreases-loop-number
decreases-loop-number l = length l.pieces - l.number
