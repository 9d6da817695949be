use Rattle.std.proofs.Common.{rules}
use Rattle.swc_steps.specs.Params.{params_at}
use Rattle.swc_primary.specs.Methods.{accessor_ok}
use Rattle.swc_steps.proofs.Steps.{check_passes}
use Rattle.swc_primary.proofs.methods.check_params.Goals as goal

pub returns-in_default-clause-checks : goal.returns-in_default-clause-checks
returns-in_default-clause-checks g c =
    check_passes (accessor_ok c.args.kind (params_at c.args.nodes.now c.args.params.now)) g.met.I.Tokens.laws _
    (search rules)
