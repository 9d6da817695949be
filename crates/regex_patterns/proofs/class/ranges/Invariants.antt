use Rattle.std.proofs.Common.{◌≡◌, ◌≤◌, ◌-◌, length, drop}
use Rattle.regex_patterns.specs.Classes.{longer_by, ranges_from}
use Rattle.regex_patterns.proofs.class.ranges.Given as goal

abbrev pub invariant-loop-at : goal.invariant-loop-at
invariant-loop-at l = record {
  within : l.at ≤ length l.rest;
  left : longer_by l.at (ranges_from l.mode 0 (drop l.at l.rest)) ≡ ranges_from l.mode 0 l.rest;
}

abbrev pub decreases-loop-at : goal.decreases-loop-at
decreases-loop-at l = length l.rest - l.at
