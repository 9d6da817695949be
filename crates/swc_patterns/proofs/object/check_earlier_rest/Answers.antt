use Rattle.std.proofs.Common.{false, not, refl, sym, ap}
use Rattle.std.specs.Option.{is_some}
use Rattle.swc_steps.proofs.Emitted.{emit-noted, notes-none}
use Rattle.swc_steps.proofs.Steps.{check_notes, check_passes}
use Rattle.swc_patterns.proofs.object.check_earlier_rest.Goals as goal

pub returns-in-Some-clause-checks : goal.returns-in-Some-clause-checks
returns-in-Some-clause-checks g c =
    rw (c.in-Some.is)
    (check_notes g.I.Tokens.model false _ _ c.emit_err.result refl c.emit_err.ensures.tries c.emit_err.ensures.notes)

pub returns-in-Some-clause-notes : goal.returns-in-Some-clause-notes
returns-in-Some-clause-notes g c =
    let done = c.emit_err.ensures in
    rw (c.in-Some.is, sym c.in_order.ensures)
    (emit-noted g.I.Tokens.model _ _ _ c.emit_err.result done.silent done.recorded)

pub returns-in-None-clause-checks : goal.returns-in-None-clause-checks
returns-in-None-clause-checks g c =
    check_passes (not (is_some c.args.rest)) g.met.I.Tokens.laws _ (ap (λ o. not (is_some o)) c.in-None.is)

pub returns-in-None-clause-notes : goal.returns-in-None-clause-notes
returns-in-None-clause-notes g c = rw (c.in-None.is) (notes-none g.I.Tokens.model _)
