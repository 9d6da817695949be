use Rattle.std.proofs.Common.{◌≡◌, ap, sym, ◌∙◌, refl, length}
use Rattle.std.proofs.lemmas.Bool.{ltb-true}
use Rattle.std.proofs.lemmas.Option.{slice_get_read}
use Rattle.early_errors.specs.Strictness.{place_of_kind}
use Rattle.early_errors.proofs.Directives.{not-directive, read}
use Rattle.early_errors.proofs.strictness.directive.Goals as goal

pub returns-in-Directive : goal.returns-in-Directive
returns-in-Directive c =
    let xs = c.deref.result.now in let i = c.args.id.0 in let s = c.in_ok-expr.field-0.now in
    read c.args.program.now xs c.args.id s _ c.deref.ensures.value
    (slice_get_read xs (length xs) i s refl (ltb-true i (length xs) (sym c.in_ok-expr.ensures.lookup.0)) c.in_ok-expr.ensures.lookup.1)
    (c.place_of.ensures ∙ ap (place_of_kind c.args.program.now) (sym c.in-Directive.is))

pub returns-in_default : goal.returns-in_default
returns-in_default c =
    let xs = c.deref.result.now in let i = c.args.id.0 in let s = c.in_ok-expr.field-0.now in
    read c.args.program.now xs c.args.id s _ c.deref.ensures.value
    (slice_get_read xs (length xs) i s refl (ltb-true i (length xs) (sym c.in_ok-expr.ensures.lookup.0)) c.in_ok-expr.ensures.lookup.1)
    (sym (not-directive c.args.program.now s.kind c.in_default.not-Directive))
