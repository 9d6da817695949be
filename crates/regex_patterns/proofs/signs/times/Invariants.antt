use Rattle.std.proofs.Common.{◌≡◌, ◌≤◌, ◌+◌, ◌-◌, length, drop}
use Rattle.regex_patterns.specs.Signs.{times}
use Rattle.regex_patterns.proofs.signs.times.Given as goal

abbrev pub invariant-loop-at : goal.invariant-loop-at
invariant-loop-at l = record {
  few : l.count ≤ l.at;
  within : l.at ≤ length l.units;
  sum : l.count + times l.sign (drop l.at l.units) ≡ times l.sign l.units;
}

abbrev pub decreases-loop-at : goal.decreases-loop-at
decreases-loop-at l = length l.units - l.at
