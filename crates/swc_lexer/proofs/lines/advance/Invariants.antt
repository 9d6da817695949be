use Rattle.std.proofs.Common.{◌≡◌, ◌≤◌, ◌-◌}
use Rattle.swc_lexer.specs.Lines.{point_of}
use Rattle.swc_lexer.proofs.lines.advance.Given as goal

abbrev pub invariant-loop-at : goal.invariant-loop-at
invariant-loop-at l = record { is : l.point ≡ point_of l.text l.at; below : l.at ≤ l.to }

abbrev pub decreases-loop-at : goal.decreases-loop-at
decreases-loop-at l = l.to - l.at
