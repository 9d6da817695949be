use Rattle.std.proofs.Common.{◌≡◌}
use Rattle.early_errors.specs.Strictness.{codes_of}
use Rattle.early_errors.proofs.walk.Walk.begin_parameters.Given as goal

abbrev pub invariant-loop-param : goal.invariant-loop-param
invariant-loop-param l = (l.self.code ≡ l.initial.self.code) × (codes_of l.self.tasks.items ≡ codes_of l.initial.self.tasks.items)
