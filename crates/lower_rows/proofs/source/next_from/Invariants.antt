use Rattle.std.specs.Prelude.{◌≤◌, length}
use Rattle.lower_rows.specs.Source.{SameList}
use Rattle.lower_rows.proofs.source.next_from.Given as goal

abbrev pub invariant-loop-token : goal.invariant-loop-token
invariant-loop-token l = SameList l.initial.list l.list × (length l.list.rest.items ≤ length l.initial.list.rest.items)

abbrev pub decreases-loop-token : goal.decreases-loop-token
decreases-loop-token l = length l.list.rest.items
