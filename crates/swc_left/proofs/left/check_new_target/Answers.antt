use Rattle.std.proofs.Common.{ap, sym, ◌∙◌}
use Rattle.swc_input.specs.Buffer.{context}
use Rattle.swc_grammar.specs.Tokens.{new_target_ok}
use Rattle.swc_steps.proofs.Steps.{check_passes}
use Rattle.swc_left.proofs.left.check_new_target.Goals as goal

pub returns-then-may_be_new_target-clause-checks : goal.returns-then-may_be_new_target-clause-checks
returns-then-may_be_new_target-clause-checks g c =
    check_passes (new_target_ok (context g.I.Tokens.model c.args.input.now)) g.met.I.Tokens.laws _
    (ap new_target_ok (sym c.get_ctx-ctx.ensures) ∙ sym c.may_be_new_target.ensures ∙ c.if-may_be_new_target.true)
