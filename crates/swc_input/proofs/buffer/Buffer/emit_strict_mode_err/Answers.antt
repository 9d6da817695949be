use Rattle.std.proofs.Common.{◌∙◌, ap, refl, sym}
use Rattle.swc_input.specs.Laws.{Read-same}
use Rattle.swc_input.proofs.Calls.{checks_strict, strict_checked}
use Rattle.swc_input.proofs.buffer.Buffer.emit_strict_mode_err.Goals as goal

pub returns-then-get_ctx-clause-checks : goal.returns-then-get_ctx-clause-checks
returns-then-get_ctx-clause-checks g c =
    checks_strict g.I.Tokens.model g.met.I.Tokens.laws _ _ (record { span = c.args.span; kind = c.args.kind })
    (Read-same g.met.I.Tokens.laws c.args.self.now) (λ i. refl)
    (λ i. let t = sym c.if-get_ctx.true ∙ ap (λ x. x.ignore_error) c.get_ctx.ensures ∙ i in cc)

pub returns-clause-checks : goal.returns-clause-checks
returns-clause-checks g c =
    strict_checked g.I.Tokens.model g.met.I.Tokens.laws _ _ c.record_for_modules.result c.new-error.result
    c.record_for_modules.ensures.read
    (λ i. let t = sym c.if-get_ctx.false ∙ ap (λ x. x.ignore_error) c.get_ctx.ensures ∙ i in cc)
    (λ i. c.record_for_modules.ensures.recorded) c.record_for_modules.ensures.refused
