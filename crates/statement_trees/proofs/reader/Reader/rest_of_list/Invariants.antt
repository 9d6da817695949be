use Rattle.statement_trees.specs.Contexts.{work, SameModule}
use Rattle.statement_trees.proofs.reader.Reader.rest_of_list.Given as goal

abbrev pub decreases-loop-frame : goal.decreases-loop-frame
decreases-loop-frame l = work l.self

abbrev pub invariant-loop-frame : goal.invariant-loop-frame
invariant-loop-frame l = SameModule l.fn.self l.self
