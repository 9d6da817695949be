use Rattle.std.proofs.Common.{not, ap, sym, ◌∙◌}
use Rattle.swc_input.specs.Recording.{is_some}
use Rattle.swc_grammar.specs.Parts.{repeated}
use Rattle.swc_steps.proofs.Steps.{check_passes, check_notes}
use Rattle.swc_steps.proofs.regex.check_once.Goals as goal

pub returns-in-None-clause-checks : goal.returns-in-None-clause-checks
returns-in-None-clause-checks g c =
    check_passes (not (is_some (repeated c.args.flags.now))) g.met.I.Tokens.laws _
    (ap (λ o. not (is_some o)) (sym c.repeated.ensures ∙ c.in-None.is))

pub returns-in-Some-clause-checks : goal.returns-in-Some-clause-checks
returns-in-Some-clause-checks g c =
    check_notes g.I.Tokens.model (not (is_some (repeated c.args.flags.now))) _ _ c.emit_err.result
    (ap (λ o. not (is_some o)) (sym c.repeated.ensures ∙ c.in-Some.is)) c.emit_err.ensures.tries
    c.emit_err.ensures.notes
