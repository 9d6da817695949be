use Rattle.std.proofs.Common.{not, ap}
use Rattle.swc_steps.proofs.Steps.{check_passes}
use Rattle.swc_patterns.specs.Rests.{has_rest}
use Rattle.swc_patterns.proofs.rest.check_last.Goals as goal

pub returns-in-No-clause-checks : goal.returns-in-No-clause-checks
returns-in-No-clause-checks g c =
    check_passes (not (has_rest c.args.rest)) g.met.I.Tokens.laws _ (ap (λ r. not (has_rest r)) c.in-No.is)
