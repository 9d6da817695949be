use Rattle.std.proofs.Common.{◌≡◌, ◌≤◌, ◌-◌, length, drop}
use Rattle.regex_patterns.specs.Pieces.{pieces_from, pieces}
use Rattle.regex_patterns.proofs.Shifts.{with_before}
use Rattle.regex_patterns.proofs.piece.pieces_of.Given as goal

abbrev pub invariant-loop-at : goal.invariant-loop-at
invariant-loop-at l = record {
  within : l.at ≤ length l.units;
  left : with_before l.list.items (pieces_from l.mode 0 l.at (drop l.at l.units)) ≡ pieces l.mode l.units;
}

abbrev pub decreases-loop-at : goal.decreases-loop-at
decreases-loop-at l = length l.units - l.at
