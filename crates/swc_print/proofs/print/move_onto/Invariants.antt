use Rattle.std.proofs.Common.{◌≡◌, vec_len}
use Rattle.swc_print.proofs.Added.{all_moved}
use Rattle.swc_print.proofs.print.move_onto.Given as goal

abbrev pub invariant-loop-piece : goal.invariant-loop-piece
invariant-loop-piece l = all_moved l.stack.items l.pieces.items ≡ all_moved l.fn.stack.items l.fn.pieces.items

abbrev pub decreases-loop-piece : goal.decreases-loop-piece
decreases-loop-piece l = vec_len l.pieces
