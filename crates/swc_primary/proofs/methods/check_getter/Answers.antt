use Rattle.std.proofs.Common.{not, sym, ap, ◌∙◌}
use Rattle.std.specs.Option.{is_some}
use Rattle.swc_nodes.specs.Lists.{first_param_pat}
use Rattle.swc_steps.proofs.Steps.{check_passes}
use Rattle.swc_primary.proofs.methods.check_getter.Goals as goal

pub returns-in-None-clause-checks : goal.returns-in-None-clause-checks
returns-in-None-clause-checks g c =
    check_passes (not (is_some (first_param_pat c.args.params.now.items))) g.met.I.Tokens.laws _
    (ap (λ o. not (is_some o)) (sym c.first_param_pat.ensures ∙ c.in-None.is))
