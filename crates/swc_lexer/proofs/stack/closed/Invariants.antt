use Rattle.swc_lexer.proofs.Stacks.{ClosedTo}
use Rattle.swc_lexer.proofs.stack.closed.Given as goal

abbrev pub invariant-loop-depth : goal.invariant-loop-depth
invariant-loop-depth l = ClosedTo l.mark l.frames l.part.depth l.part.place l.depth l.kind

abbrev pub decreases-loop-depth : goal.decreases-loop-depth
decreases-loop-depth l = l.depth
