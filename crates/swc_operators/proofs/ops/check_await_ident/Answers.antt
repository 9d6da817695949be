use Rattle.std.proofs.Common.{not, ◌||◌, sym, ap, ◌∙◌}
use Rattle.swc_input.specs.Buffer.{context}
use Rattle.swc_grammar.specs.Tokens.{await_ident_ok}
use Rattle.swc_steps.proofs.Steps.{check_passes}
use Rattle.swc_operators.proofs.ops.check_await_ident.Goals as goal

pub returns-clause-checks : goal.returns-clause-checks
returns-clause-checks g c =
    check_passes (await_ident_ok (context g.I.Tokens.model c.args.input.now)) g.met.I.Tokens.laws _
    (ap await_ident_ok (sym c.get_ctx-ctx.ensures) ∙ ap (λ b. not (b || c.get_ctx-ctx.result.«module»)) c.if-ctx.false
    ∙ ap not c.if-ctx-2.false)
