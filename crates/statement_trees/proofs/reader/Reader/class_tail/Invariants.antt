use Rattle.std.proofs.Common.{◌≡◌}
use Rattle.statement_trees.specs.Contexts.{context_of, work}
use Rattle.statement_trees.proofs.reader.Reader.class_tail.Given as goal

abbrev pub decreases-loop-self : goal.decreases-loop-self
decreases-loop-self l = work l.self

abbrev pub invariant-loop-self : goal.invariant-loop-self
invariant-loop-self l = context_of l.self ≡ context_of l.fn.self
