use Rattle.std.proofs.Common.{◌≡◌}
use Rattle.early_errors.proofs.walk.Walk.check_directives.Given as goal

abbrev pub invariant-loop-id : goal.invariant-loop-id
invariant-loop-id l = l.self.code ≡ l.initial.self.code
