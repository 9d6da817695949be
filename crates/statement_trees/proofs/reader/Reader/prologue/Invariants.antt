use Rattle.std.proofs.Common.{◌≤◌}
use Rattle.statement_trees.specs.Contexts.{work, SameModule}
use Rattle.statement_trees.proofs.reader.Reader.prologue.Given as goal

abbrev pub decreases-loop-goes_on : goal.decreases-loop-goes_on
decreases-loop-goes_on l = work l.self

abbrev pub invariant-loop-goes_on : goal.invariant-loop-goes_on
invariant-loop-goes_on l = record { kind : SameModule l.fn.self l.self; lower : work l.self ≤ work l.fn.self }
