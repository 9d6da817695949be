use Rattle.std.proofs.Common.{false, refl}
use Rattle.swc_steps.proofs.Steps.{check_notes}
use Rattle.swc_primary.proofs.primary.emit_lone_private.Goals as goal

pub returns-clause-checks : goal.returns-clause-checks
returns-clause-checks g c =
    check_notes g.I.Tokens.model false _ _ c.emit_err.result refl c.emit_err.ensures.tries c.emit_err.ensures.notes
