use Rattle.std.proofs.Common.{true, refl, arith}
use Rattle.swc_steps.proofs.Refused.{err_is}
use Rattle.swc_primary.proofs.Covers.{checks-more, checks-all}
use Rattle.swc_steps.proofs.Steps.{check_passes, forgoes_later}
use Rattle.swc_primary.proofs.parens.check_props.Goals as goal

pub loop-prop-init : goal.loop-prop-init
loop-prop-init g c = (check_passes true g.met.I.Tokens.laws _ refl, omega arith)

pub returns-in_err-check_prop-clause-checks : goal.returns-in_err-check_prop-clause-checks
returns-in_err-check_prop-clause-checks g c =
    rw (err_is c.from_residual.ensures.1)
    (forgoes_later c.loop-prop.invariant.0.leads c.in_err-check_prop.ensures.checks)

pub loop-prop-preserved : goal.loop-prop-preserved
loop-prop-preserved g c =
    let a = c.loop-prop.invariant.1 in let b = c.in_ok-check_prop.ensures.falls in let lt = c.loop-prop-test.true in (
      checks-more c.deref-prop-items.result.now c.loop-prop.prop-index c.prop-item.result
          (omega arith) c.prop-item.is c.loop-prop.invariant.0 c.in_ok-check_prop.ensures.checks,
      omega arith,
    )

pub returns-clause-checks : goal.returns-clause-checks
returns-clause-checks g c =
    checks-all c.deref-prop-items.result.now c.args.props.now.items c.loop-prop.prop-index
    c.deref-prop-items.ensures.value (let h = c.loop-prop-test.false in omega arith) c.loop-prop.invariant.0

pub returns-clause-falls : goal.returns-clause-falls
returns-clause-falls g c = c.loop-prop.invariant.1
