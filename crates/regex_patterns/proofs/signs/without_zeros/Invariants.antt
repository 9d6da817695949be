use Rattle.std.proofs.Common.{◌≡◌, ◌≤◌, ◌-◌, length, drop}
use Rattle.regex_patterns.specs.Signs.{without_zeros}
use Rattle.regex_patterns.proofs.signs.without_zeros.Given as goal

abbrev pub invariant-loop-at : goal.invariant-loop-at
invariant-loop-at l = record {
  within : l.at ≤ length l.digits;
  same : without_zeros (drop l.at l.digits) ≡ without_zeros l.digits;
}

abbrev pub decreases-loop-at : goal.decreases-loop-at
decreases-loop-at l = length l.digits - l.at
