use Rattle.std.proofs.Common.{◌≤◌, length}
use Rattle.swc_nodes.proofs.turning.drop_settled.Given as goal

abbrev pub invariant-loop-len : goal.invariant-loop-len
invariant-loop-len l = l.len ≤ length l.settled.items

abbrev pub decreases-loop-len : goal.decreases-loop-len
decreases-loop-len l = l.len
