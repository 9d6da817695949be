use Rattle.std.proofs.Common.{◌-◌, length}
use Rattle.swc_lexer.specs.Lines.{MarkedTo}
use Rattle.swc_lexer.proofs.lines.marks_of.Given as goal

abbrev pub invariant-loop-at : goal.invariant-loop-at
invariant-loop-at l = MarkedTo l.text l.marks.items l.at l.point

abbrev pub decreases-loop-at : goal.decreases-loop-at
decreases-loop-at l = length l.text - l.at
