use Rattle.std.proofs.Common.{refl, sym, ap, ◌∙◌}
use Rattle.swc_context.specs.Contexts.{view as deciding}
use Rattle.swc_grammar.specs.ForHead.{for_context}
use Rattle.swc_operators.proofs.InContext.{within_inner}
use Rattle.swc_ecma_parser.specs.ForHeads.{own_for_context}
use Rattle.swc_ecma_parser.proofs.for_heads.parse_head_expr.Goals as goal

pub returns-clause-produces : goal.returns-clause-produces
returns-clause-produces g c =
    within_inner (for_context c.args.is_await) (λ x. refl) (λ x ts. refl) c.get_ctx.ensures
    (ap deciding c.head_context-ctx.ensures)
    c.replace_ctx-before.ensures.before c.replace_ctx-before.ensures.moves c.replace_ctx-before.ensures.context
    c.parse_expr-expr.ensures refl c.replace_ctx.ensures.moves c.replace_ctx.ensures.context

pub returns-clause-own : goal.returns-clause-own
returns-clause-own g c = λ own.
    within_inner own_for_context (λ x. refl) (λ x ts. refl) c.get_ctx.ensures
    (ap deciding (c.head_context-ctx.ensures ∙ ap (λ a. for_context a c.get_ctx.result) own
    ∙ ap (λ x. for_context x.expr_ctx.for_await_loop_init c.get_ctx.result) (sym c.get_ctx.ensures)))
    c.replace_ctx-before.ensures.before c.replace_ctx-before.ensures.moves c.replace_ctx-before.ensures.context
    c.parse_expr-expr.ensures refl c.replace_ctx.ensures.moves c.replace_ctx.ensures.context
