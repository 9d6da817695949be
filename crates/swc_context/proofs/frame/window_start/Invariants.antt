use Rattle.std.proofs.Common.{◌≤◌}
use Rattle.swc_context.proofs.frame.window_start.Given as goal

abbrev pub invariant-loop-start : goal.invariant-loop-start
invariant-loop-start l = l.start ≤ l.lo

abbrev pub decreases-loop-start : goal.decreases-loop-start
decreases-loop-start l = l.start
