use Rattle.std.proofs.Common.{◌≡◌, ◌≤◌, ◌-◌, length, drop, ◌++◌}
use Rattle.std.specs.String.{string_bytes}
use Rattle.regex_patterns.specs.Names.{name_from}
use Rattle.regex_patterns.proofs.name.name.Given as goal

abbrev pub invariant-loop-at : goal.invariant-loop-at
invariant-loop-at l = record {
  within : l.at ≤ length l.rest;
  made : string_bytes l.name ++ name_from 0 (drop l.at l.rest) ≡ name_from 0 l.rest;
}

abbrev pub decreases-loop-at : goal.decreases-loop-at
decreases-loop-at l = length l.rest - l.at
