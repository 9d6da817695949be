use Rattle.std.proofs.Common.{◌≡◌}
use Rattle.statement_trees.specs.Contexts.{context_of, work, Takes}
use Rattle.statement_trees.proofs.reader.Reader.variables.Given as goal

abbrev pub decreases-loop-declarators : goal.decreases-loop-declarators
decreases-loop-declarators l = work l.self

abbrev pub invariant-loop-declarators : goal.invariant-loop-declarators
invariant-loop-declarators l = record {
  context : context_of l.self ≡ context_of l.fn.self;
  takes : Takes l.fn.self l.self;
}
