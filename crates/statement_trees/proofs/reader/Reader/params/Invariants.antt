use Rattle.std.proofs.Common.{◌≡◌, ◌≤◌}
use Rattle.statement_trees.specs.Contexts.{context_of, work}
use Rattle.statement_trees.proofs.reader.Reader.params.Given as goal

abbrev pub invariant-loop-param : goal.invariant-loop-param
invariant-loop-param l = record {
  context : context_of l.self ≡ context_of l.fn.self;
  lower : work l.self ≤ work l.fn.self;
}
