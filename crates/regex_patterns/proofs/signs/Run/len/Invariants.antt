use Rattle.std.proofs.Common.{◌≡◌, ◌≤◌, ◌+◌, ◌-◌, length, drop}
use Rattle.regex_patterns.specs.Signs.{while_len, has}
use Rattle.regex_patterns.proofs.signs.Run.len.Given as goal

abbrev pub invariant-loop-at : goal.invariant-loop-at
invariant-loop-at l = record {
  within : l.at ≤ length l.rest;
  sum : l.at + while_len (has l.self) (drop l.at l.rest) ≡ while_len (has l.self) l.rest;
}

abbrev pub decreases-loop-at : goal.decreases-loop-at
decreases-loop-at l = length l.rest - l.at
