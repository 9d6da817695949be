use Rattle.std.proofs.Common.{◌≡◌, ◌++◌, length, reverse}
use Rattle.statement_trees.specs.Contexts.{kept_bodies}
use Rattle.statement_trees.proofs.program.Passes.collect.Given as goal

-- each body that is taken waits no more
abbrev pub decreases-loop-body : goal.decreases-loop-body
decreases-loop-body l = length (kept_bodies l.self.reader)

abbrev pub invariant-loop-body : goal.invariant-loop-body
invariant-loop-body l = record {
  waits : l.self.waiting.items ++ reverse (kept_bodies l.self.reader) ≡ l.fn.self.waiting.items ++ reverse
      (kept_bodies l.fn.self.reader);
  read : l.self.bodies ≡ l.fn.self.bodies;
}
