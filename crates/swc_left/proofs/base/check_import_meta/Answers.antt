use Rattle.std.proofs.Common.{ap, sym, ◌∙◌}
use Rattle.swc_input.specs.Buffer.{context}
use Rattle.swc_steps.proofs.Steps.{check_passes}
use Rattle.swc_left.proofs.base.check_import_meta.Goals as goal

pub returns-then-ctx-clause-checks : goal.returns-then-ctx-clause-checks
returns-then-ctx-clause-checks g c =
    check_passes (context g.I.Tokens.model c.args.input.now).can_be_module g.met.I.Tokens.laws _
    (ap (λ v. v.can_be_module) (sym c.get_ctx-ctx.ensures) ∙ c.if-ctx.true)
