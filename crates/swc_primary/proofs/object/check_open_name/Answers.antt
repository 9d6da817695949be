use Rattle.std.proofs.Common.{not, ap, ◌∙◌, sym}
use Rattle.swc_context.specs.Reserved.{is_reserved_word}
use Rattle.swc_input.specs.Buffer.{context}
use Rattle.swc_steps.proofs.Steps.{check_passes, check_notes}
use Rattle.swc_primary.proofs.object.check_open_name.Goals as goal

pub returns-then-is_reserved_word-clause-checks : goal.returns-then-is_reserved_word-clause-checks
returns-then-is_reserved_word-clause-checks g c =
    check_notes g.I.Tokens.model (not (is_reserved_word
    (context g.I.Tokens.model c.args.input.now) c.args.name.now.sym)) _ _ c.emit_err.result
    (ap (λ x. not (is_reserved_word x c.args.name.now.sym)) (sym c.get_ctx.ensures) ∙ ap not
    (sym c.is_reserved_word.ensures ∙ c.if-is_reserved_word.true)) c.emit_err.ensures.tries c.emit_err.ensures.notes

pub returns-clause-checks : goal.returns-clause-checks
returns-clause-checks g c =
    check_passes (not (is_reserved_word (context g.I.Tokens.model c.args.input.now) c.args.name.now.sym))
    g.met.I.Tokens.laws _
    (ap (λ x. not (is_reserved_word x c.args.name.now.sym)) (sym c.get_ctx.ensures) ∙ ap not
    (sym c.is_reserved_word.ensures ∙ c.if-is_reserved_word.false))
