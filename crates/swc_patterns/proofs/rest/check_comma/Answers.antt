use Rattle.std.proofs.Common.{not, sym, ap, ◌∙◌}
use Rattle.std.specs.Option.{is_some}
use Rattle.swc_steps.proofs.Steps.{check_notes, check_passes}
use Rattle.swc_patterns.specs.Rests.{has_comma}
use Rattle.swc_patterns.proofs.rest.check_comma.Goals as goal

pub returns-in-Some-clause-checks : goal.returns-in-Some-clause-checks
returns-in-Some-clause-checks g c =
    check_notes g.I.Tokens.model (not (has_comma c.args.rest)) _ _ c.emit_err.result
    (ap (λ o. not (is_some o)) (sym c.comma_behind.ensures ∙ c.in-Some.is))
    c.emit_err.ensures.tries c.emit_err.ensures.notes

pub returns-in-None-clause-checks : goal.returns-in-None-clause-checks
returns-in-None-clause-checks g c =
    check_passes (not (has_comma c.args.rest)) g.met.I.Tokens.laws _
    (ap (λ o. not (is_some o)) (sym c.comma_behind.ensures ∙ c.in-None.is))
