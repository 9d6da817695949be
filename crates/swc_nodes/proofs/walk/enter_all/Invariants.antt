use Rattle.std.proofs.Common.{◌≡◌, ℕ, List, length, reverse, vec_len}
use Rattle.swc_nodes.specs.{NodeParts.Part, Visits.Goes, Visits.left_in}
use Rattle.swc_nodes.proofs.walk.enter_all.Given as goal

-- the innermost nodes were entered so far, and nothing was left
abbrev pub invariant-loop-inner : goal.invariant-loop-inner
invariant-loop-inner l = record {
  goes : (at : ℕ → List Part) (ps ds : List Part) → length ds ≡ l.due
      → Goes at ps ds l.initial.visits.items l.initial.around.items
      → Goes at ps ds l.visits.items l.around.items;
  left : left_in (reverse l.visits.items) ≡ left_in (reverse l.initial.visits.items);
}

abbrev pub decreases-loop-inner : goal.decreases-loop-inner
decreases-loop-inner l = vec_len l.around
