use Rattle.std.proofs.Common.{◌≡◌, ◌-◌, length, drop}
use Rattle.regex_patterns.specs.Signs.{is_up_to}
use Rattle.regex_patterns.proofs.signs.is_up_to.Given as goal

abbrev pub invariant-loop-at : goal.invariant-loop-at
invariant-loop-at l = is_up_to (drop l.at l.first) (drop l.at l.second) ≡ is_up_to l.first l.second

abbrev pub decreases-loop-at : goal.decreases-loop-at
decreases-loop-at l = length l.first - l.at
