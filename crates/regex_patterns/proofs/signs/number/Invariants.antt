use Rattle.std.proofs.Common.{◌≡◌, ◌-◌, length, drop}
use Rattle.regex_patterns.specs.Signs.{number_from}
use Rattle.regex_patterns.proofs.signs.number.Given as goal

abbrev pub invariant-loop-at : goal.invariant-loop-at
invariant-loop-at l = number_from l.value (drop l.at l.rest) ≡ number_from 0 l.rest

abbrev pub decreases-loop-at : goal.decreases-loop-at
decreases-loop-at l = length l.rest - l.at
