use Rattle.swc_lexer.proofs.Stacks.{BracelessTo}
use Rattle.swc_lexer.proofs.stack.has_brace.Given as goal

abbrev pub invariant-loop-depth : goal.invariant-loop-depth
invariant-loop-depth l = BracelessTo l.frames l.depth

abbrev pub decreases-loop-depth : goal.decreases-loop-depth
decreases-loop-depth l = l.depth
