use Rattle.std.proofs.Common.{◌∙◌, ap}
use Rattle.swc_operators.specs.Pending.{operator_above}
use Rattle.swc_operators.proofs.ops.next_operator.Goals as goal

pub returns-clause-value : goal.returns-clause-value
returns-clause-value g c = c.above.ensures.value ∙ ap (operator_above c.args.min_prec) c.in_ok-op.ensures.value
