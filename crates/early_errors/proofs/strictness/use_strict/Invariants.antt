use Rattle.std.proofs.Common.{◌≡◌, ◌-◌, length, drop}
use Rattle.early_errors.specs.Strictness.{use_strict}
use Rattle.early_errors.proofs.strictness.use_strict.Given as goal

abbrev pub invariant-loop-at : goal.invariant-loop-at
invariant-loop-at l = use_strict l.text l.program (drop l.at l.statements) ≡ use_strict l.fn.text l.fn.program l.fn.statements

abbrev pub decreases-loop-at : goal.decreases-loop-at
decreases-loop-at l = length l.statements - l.at
