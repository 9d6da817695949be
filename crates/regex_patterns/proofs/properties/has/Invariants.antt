use Rattle.std.proofs.Common.{◌≡◌, ◌-◌, length, drop}
use Rattle.regex_patterns.specs.Properties.{has, has_from}
use Rattle.regex_patterns.proofs.properties.has.Given as goal

abbrev pub invariant-loop-at : goal.invariant-loop-at
invariant-loop-at l = has_from l.word l.found (drop l.at l.list) ≡ has l.fn.list l.word

abbrev pub decreases-loop-at : goal.decreases-loop-at
decreases-loop-at l = length l.list - l.at
