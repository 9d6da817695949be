use Rattle.swc_lexer.proofs.Stacks.{PassedTo}
use Rattle.swc_lexer.proofs.stack.below.Given as goal

abbrev pub invariant-loop-depth : goal.invariant-loop-depth
invariant-loop-depth l = PassedTo l.frames l.depth

abbrev pub decreases-loop-depth : goal.decreases-loop-depth
decreases-loop-depth l = l.depth
