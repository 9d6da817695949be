use Rattle.std.proofs.Common.{not, ap, ◌∙◌, sym}
use Rattle.swc_context.specs.Reserved.{is_reserved_word}
use Rattle.swc_input.specs.Buffer.{context}
use Rattle.swc_steps.proofs.Steps.{check_passes}
use Rattle.swc_patterns.proofs.object.check_name.Goals as goal

pub returns-clause-checks : goal.returns-clause-checks
returns-clause-checks g c =
    check_passes (not (is_reserved_word (context g.I.Tokens.model c.args.input.now) c.args.name.now.sym))
    g.met.I.Tokens.laws _
    (ap (λ x. not (is_reserved_word x c.args.name.now.sym)) (sym c.get_ctx.ensures)
    ∙ ap not (sym c.is_reserved_word.ensures ∙ c.if-is_reserved_word.false))
