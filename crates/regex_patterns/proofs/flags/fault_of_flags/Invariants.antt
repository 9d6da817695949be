use Rattle.std.proofs.Common.{◌≡◌, ◌≤◌, ◌-◌, length, drop, take}
use Rattle.std.proofs.Common.{[]}
use Rattle.regex_patterns.specs.Patterns.{are_flags}
use Rattle.regex_patterns.proofs.flags.fault_of_flags.Given as goal

abbrev pub invariant-loop-at : goal.invariant-loop-at
invariant-loop-at l = record {
  within : l.at ≤ length l.flags;
  left : are_flags (take l.at l.flags) (drop l.at l.flags) ≡ are_flags [] l.flags;
}

abbrev pub decreases-loop-at : goal.decreases-loop-at
decreases-loop-at l = length l.flags - l.at
