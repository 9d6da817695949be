use Rattle.std.proofs.Common.{sym, ◌∙◌}
use Rattle.swc_ident.proofs.{Reading.none_to_note, Finding.no_binding_faults}
use Rattle.swc_ident.proofs.words.note_binding.Goals as goal

pub returns : goal.returns
returns g c = none_to_note (no_binding_faults c.get_ctx.result _ c.args.name.now c.get_ctx.ensures
    (sym c.is_reserved_in_strict_bind.ensures ∙ c.if-is_reserved_in_strict_bind.false)
    (sym c.is_yield_of_generator.ensures ∙ c.if-is_yield_of_generator.false))
