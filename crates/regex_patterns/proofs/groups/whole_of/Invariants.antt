use Rattle.std.proofs.Common.{◌≡◌, ◌-◌, length, drop, reverse}
use Rattle.std.proofs.Common.{[], false}
use Rattle.regex_patterns.specs.Groups.{accepts}
use Rattle.regex_patterns.proofs.groups.whole_of.Given as goal

abbrev pub invariant-loop-number : goal.invariant-loop-number
invariant-loop-number l = accepts l.mode (reverse l.open.items) l.last (drop l.number l.pieces) ≡ accepts l.mode [] false l.pieces

abbrev pub decreases-loop-number : goal.decreases-loop-number
decreases-loop-number l = length l.pieces - l.number
