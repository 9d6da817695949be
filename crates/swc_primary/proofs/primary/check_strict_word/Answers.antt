use Rattle.std.proofs.Common.{not, ◌&&◌}
use Rattle.swc_input.specs.Buffer.{context}
use Rattle.swc_steps.proofs.Refused.{err_is}
use Rattle.swc_steps.proofs.Steps.{and_true, not_and, check_passes, forgoes_here}
use Rattle.swc_primary.proofs.primary.check_strict_word.Goals as goal

pub returns-then-not-is_strict-clause-checks : goal.returns-then-not-is_strict-clause-checks
returns-then-not-is_strict-clause-checks g c =
    check_passes (not ((context g.I.Tokens.model c.args.input.now).module && c.args.is_strict)) g.met.I.Tokens.laws _
    (not_and (context g.I.Tokens.model c.args.input.now).module c.args.is_strict c.if-not-is_strict.true)

pub returns-in_err-sym-clause-checks : goal.returns-in_err-sym-clause-checks
returns-in_err-sym-clause-checks g c =
    rw (err_is c.from_residual.ensures.1) (forgoes_here g.met.I.Tokens.laws _ _ _ c.in_err-sym.ensures.refused)

pub returns-clause-checks : goal.returns-clause-checks
returns-clause-checks g c = rw (c.if-not-is_strict.false, and_true (context g.I.Tokens.model c.args.input.now).module)
    c.emit_strict_mode_err.ensures.checks
