use Rattle.std.proofs.Common.{not}
use Rattle.swc_steps.proofs.Refused.{err_is}
use Rattle.swc_primary.specs.Methods.{just_one, begins_rest}
use Rattle.swc_steps.proofs.Steps.{check_later}
use Rattle.swc_primary.proofs.methods.check_setter.Goals as goal

pub returns-in_err-check_count-clause-checks : goal.returns-in_err-check_count-clause-checks
returns-in_err-check_count-clause-checks g c = rw (err_is c.from_residual.ensures.1) c.in_err-check_count.ensures.checks

pub returns-clause-checks : goal.returns-clause-checks
returns-clause-checks g c =
    check_later g.I.Tokens.model (not (just_one c.args.params.now.items))
    (begins_rest c.args.nodes.now c.args.params.now.items) _ _ _
    c.check_rest.result c.in_ok-check_count.ensures.checks c.check_rest.ensures.checks
