use Rattle.std.proofs.Common.{◌≡◌, ◌≤◌}
use Rattle.statement_trees.specs.Contexts.{context_of, work}
use Rattle.statement_trees.proofs.reader.Reader.attributes.Given as goal

abbrev pub decreases-loop-is_over : goal.decreases-loop-is_over
decreases-loop-is_over l = work l.self

abbrev pub invariant-loop-is_over : goal.invariant-loop-is_over
invariant-loop-is_over l = record {
  context : context_of l.self ≡ context_of l.fn.self;
  lower : work l.self ≤ work l.fn.self;
}
