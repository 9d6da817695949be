use Rattle.std.proofs.Common.{sym, arith}
use Rattle.swc_steps.proofs.Refused.{err_is}
use Rattle.swc_cover.proofs.Checked.{names-none, names-more, names-all}
use Rattle.swc_cover.proofs.FaultsNoted.{none-strict}
use Rattle.swc_cover.proofs.FaultsNoted as errors
use Rattle.swc_steps.proofs.Steps.{forgoes_later}
use Rattle.swc_cover.proofs.param_names.record_names.Goals as goal

pub loop-span-init : goal.loop-span-init
loop-span-init g c = (names-none g.met.I.Tokens.laws _ _, omega arith, none-strict _)

pub returns-in_err-emit_strict_mode_err-clause-checks : goal.returns-in_err-emit_strict_mode_err-clause-checks
returns-in_err-emit_strict_mode_err-clause-checks g c =
    rw (err_is c.from_residual.ensures.1)
    (forgoes_later c.loop-span.invariant.0.leads c.in_err-emit_strict_mode_err.ensures.checks)

pub loop-span-preserved : goal.loop-span-preserved
loop-span-preserved g c =
    let done = c.in_ok-emit_strict_mode_err.ensures in
    let found = errors.names-more c.deref-span-items.result.now c.loop-span.span-index _ c.loop-span-test.true in (
      names-more c.deref-span-items.result.now c.loop-span.span-index c.loop-span-test.true c.loop-span.invariant.0
          done.checks,
      let a = c.loop-span.invariant.1 in let b = done.falls in omega arith,
      rw (found) (errors.strict-more _ c.loop-span.invariant.0.leads.read.context
          c.loop-span.invariant.2 (λ i. (done.silent i).1) done.recorded done.rest),
    )

pub returns-clause-checks : goal.returns-clause-checks
returns-clause-checks g c =
    names-all c.deref-span-items.result.now c.args.spans.now.items c.loop-span.span-index
    c.deref-span-items.ensures.value
    (let h = c.loop-span-test.false in omega arith) c.loop-span.invariant.0

pub returns-clause-notes : goal.returns-clause-notes
returns-clause-notes g c =
    let all = errors.names-all c.deref-span-items.result.now c.args.spans.now.items c.loop-span.span-index
    c.deref-span-items.ensures.value (let h = c.loop-span-test.false in omega arith) in
    rw (sym all) c.loop-span.invariant.2

pub returns-clause-falls : goal.returns-clause-falls
returns-clause-falls g c = c.loop-span.invariant.1
