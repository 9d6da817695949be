use Rattle.std.proofs.Common.{not, ap, sym, ◌∙◌}
use Rattle.swc_grammar.specs.Parts.{has_unknown}
use Rattle.swc_steps.proofs.Steps.{check_passes, check_notes}
use Rattle.swc_steps.proofs.regex.check_known.Goals as goal

pub returns-then-not-has_unknown-clause-checks : goal.returns-then-not-has_unknown-clause-checks
returns-then-not-has_unknown-clause-checks g c =
    check_passes (not (has_unknown c.args.flags.now)) g.met.I.Tokens.laws _
    (ap not (sym c.has_unknown.ensures ∙ c.if-not-has_unknown.true))

pub returns-clause-checks : goal.returns-clause-checks
returns-clause-checks g c =
    check_notes g.I.Tokens.model (not (has_unknown c.args.flags.now)) _ _ c.emit_err.result
    (ap not (sym c.has_unknown.ensures ∙ c.if-not-has_unknown.false)) c.emit_err.ensures.tries c.emit_err.ensures.notes
