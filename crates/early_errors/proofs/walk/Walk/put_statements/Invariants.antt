use Rattle.std.proofs.Common.{◌≡◌}
use Rattle.early_errors.specs.Strictness.{codes_of}
use Rattle.early_errors.proofs.walk.Walk.put_statements.Given as goal

abbrev pub invariant-loop-id : goal.invariant-loop-id
invariant-loop-id l = (l.self.code ≡ l.initial.self.code) × (codes_of l.self.tasks.items ≡ codes_of l.initial.self.tasks.items)
