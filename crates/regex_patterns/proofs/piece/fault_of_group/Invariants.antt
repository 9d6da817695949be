use Rattle.std.proofs.Common.{◌-◌, length}
use Rattle.regex_patterns.proofs.piece.fault_of_group.Given as goal

abbrev pub decreases-loop-at : goal.decreases-loop-at
decreases-loop-at l = length l.rest - l.at
