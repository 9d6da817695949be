use Rattle.std.proofs.Common.{◌≡◌, ◌≤◌, ◌-◌, length, drop, reverse}
use Rattle.regex_patterns.specs.Classes.{longer_by}
use Rattle.regex_patterns.specs.Sets.{sets_from, set_class}
use Rattle.regex_patterns.proofs.sets.set_class.Given as goal

abbrev pub invariant-loop-at : goal.invariant-loop-at
invariant-loop-at l = record {
  within : l.at ≤ length l.rest;
  left : longer_by l.at (sets_from l.mode (reverse l.open.items) l.set l.at 0 (drop l.at l.rest)) ≡ set_class l.mode l.rest;
}

abbrev pub decreases-loop-at : goal.decreases-loop-at
decreases-loop-at l = length l.rest - l.at
