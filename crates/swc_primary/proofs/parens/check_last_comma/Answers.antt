use Rattle.std.proofs.Common.{not, ap}
use Rattle.swc_input.specs.Recording.{is_some}
use Rattle.swc_steps.proofs.Steps.{check_passes, check_notes}
use Rattle.swc_primary.proofs.parens.check_last_comma.Goals as goal

pub returns-in-Some-clause-checks : goal.returns-in-Some-clause-checks
returns-in-Some-clause-checks g c =
    check_notes g.I.Tokens.model (not (is_some c.args.comma)) _ _ c.emit_err.result
    (ap (λ v. not (is_some v)) c.in-Some.is)
    c.emit_err.ensures.tries c.emit_err.ensures.notes

pub returns-in-None-clause-checks : goal.returns-in-None-clause-checks
returns-in-None-clause-checks g c =
    check_passes (not (is_some c.args.comma)) g.met.I.Tokens.laws _ (ap (λ v. not (is_some v)) c.in-None.is)
