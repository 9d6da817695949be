use Rattle.std.proofs.Common.{sym, ap, ◌∙◌}
use Rattle.swc_input.specs.Buffer.{context}
use Rattle.swc_steps.proofs.Steps.{check_passes}
use Rattle.swc_arrows.proofs.names.check_async_of.Goals as goal

pub returns-then-ctx-clause-checks : goal.returns-then-ctx-clause-checks
returns-then-ctx-clause-checks g c =
    check_passes (context g.I.Tokens.model c.args.input.now).expr_ctx.for_await_loop_init g.met.I.Tokens.laws _
    (ap (λ x. x.expr_ctx.for_await_loop_init) (sym c.get_ctx-ctx.ensures) ∙ c.if-ctx.true)
