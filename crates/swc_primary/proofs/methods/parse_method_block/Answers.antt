use Rattle.std.proofs.Common.{refl, ap, ◌∙◌}
use Rattle.swc_context.specs.Contexts.{method_block, view as deciding}
use Rattle.swc_steps.specs.Parsing.{by_hook}
use Rattle.swc_steps.proofs.Keys as key
use Rattle.swc_steps.proofs.Steps as s
use Rattle.swc_primary.proofs.methods.parse_method_block.Goals as goal

pub returns-clause-reads : goal.returns-clause-reads
returns-clause-reads g c =
    s.parses_within g.I.Tokens.model g.B.Bodies.is_faithful (λ v. v) _ (by_hook g.B.BodyForms.forms.block)
    c.parse_block-block.result
    (method_block c.args.is_async c.args.is_generator) (λ x. refl)
    (λ x ts. key.method_body_block _ c.args.is_async c.args.is_generator x ts) c.replace_ctx-before.ensures.moves
    (ap deciding (c.replace_ctx-before.ensures.context ∙ c.method_block-ctx.ensures)
    ∙ ap (λ x. deciding (method_block c.args.is_async c.args.is_generator x)) c.get_ctx.ensures)
    c.parse_block-block.ensures.reads c.replace_ctx.ensures.moves
    (c.replace_ctx.ensures.context ∙ c.replace_ctx-before.ensures.before)
