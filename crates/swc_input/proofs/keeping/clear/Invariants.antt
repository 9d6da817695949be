use Rattle.std.proofs.Common.{length, vec_capacity}
use Rattle.swc_input.proofs.Kept.{Clearing}
use Rattle.swc_input.proofs.keeping.clear.Given as goal

-- what is left in the end stays the same
abbrev pub invariant-loop-at : goal.invariant-loop-at
invariant-loop-at l = Clearing l.at l.fn.tokens.items (vec_capacity l.fn.tokens) l.tokens.items (vec_capacity l.tokens)

abbrev pub decreases-loop-at : goal.decreases-loop-at
decreases-loop-at l = length l.tokens.items
