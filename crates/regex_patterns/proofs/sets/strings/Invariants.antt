use Rattle.std.proofs.Common.{◌≡◌, ◌≤◌, ◌-◌, length, drop}
use Rattle.std.proofs.Common.{false}
use Rattle.regex_patterns.specs.Sets.{strings_from}
use Rattle.regex_patterns.proofs.Shifts.{shifted}
use Rattle.regex_patterns.proofs.sets.strings.Given as goal

abbrev pub invariant-loop-at : goal.invariant-loop-at
invariant-loop-at l = record {
  few : l.count ≤ l.at;
  within : l.at ≤ length l.rest;
  left : shifted l.at (strings_from l.mode l.count l.others 0 (drop l.at l.rest)) ≡ strings_from l.mode 0 false 0 l.rest;
}

abbrev pub decreases-loop-at : goal.decreases-loop-at
decreases-loop-at l = length l.rest - l.at
