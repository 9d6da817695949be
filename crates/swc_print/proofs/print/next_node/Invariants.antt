use Rattle.std.proofs.Common.{◌≡◌, vec_len}
use Rattle.swc_print.specs.Numbers.{numbers}
use Rattle.swc_print.proofs.print.next_node.Given as goal

abbrev pub invariant-loop-piece : goal.invariant-loop-piece
invariant-loop-piece l = numbers l.stack.items ≡ numbers l.fn.stack.items

abbrev pub decreases-loop-piece : goal.decreases-loop-piece
decreases-loop-piece l = vec_len l.stack
