use Rattle.std.proofs.Common.{not, ap}
use Rattle.swc_context.specs.declared.context.Context.{Context}
use Rattle.swc_ident.specs.Verdicts.{ident_verdict, reference_verdict}
use Rattle.swc_ident.proofs.Finding.{names_as}
use Rattle.swc_ident.proofs.ident.parse_ident_ref.Goals as goal

pub returns-clause-names : goal.returns-clause-names
returns-clause-names g c =
    names_as g.I.Tokens.model (ident_verdict (not c.get_ctx-ctx.result.in_generator)
    (not c.get_ctx-ctx.result.in_async)) reference_verdict (λ i. i.sym) (λ i. i.span) _ _ c.parse_ident.result
    (λ w. ap (λ (x : Context). ident_verdict (not x.in_generator) (not x.in_async)
    (g.I.Tokens.model.state c.args.input.now.iter).context w) c.get_ctx-ctx.ensures) c.parse_ident.ensures.names
