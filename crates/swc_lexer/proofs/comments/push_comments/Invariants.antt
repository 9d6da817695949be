use Rattle.std.proofs.Common.{◌-◌, length}
use Rattle.swc_lexer.specs.Comments.{ReadsTo}
use Rattle.swc_lexer.proofs.comments.push_comments.Given as goal

abbrev pub invariant-loop-at : goal.invariant-loop-at
invariant-loop-at l = ReadsTo l.blanks l.lo l.at l.comments.items l.fn.comments.items

abbrev pub decreases-loop-at : goal.decreases-loop-at
decreases-loop-at l = length l.blanks - l.at
