use Rattle.std.proofs.Common.{◌≡◌, ◌-◌, length, drop}
use Rattle.regex_patterns.specs.Conditions.{has_names}
use Rattle.regex_patterns.proofs.pattern.has_names.Given as goal

abbrev pub invariant-loop-number : goal.invariant-loop-number
invariant-loop-number l = has_names (drop l.number l.pieces) ≡ has_names l.pieces

abbrev pub decreases-loop-number : goal.decreases-loop-number
decreases-loop-number l = length l.pieces - l.number
