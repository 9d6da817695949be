use Rattle.std.proofs.Common.{true, refl, sym, arith}
use Rattle.swc_steps.proofs.Refused.{err_is}
use Rattle.swc_cover.proofs.{Checked.faults-more, Checked.faults-all, Clear.stays-then, FaultsNoted.errors-all, FaultsNoted.errors-more}
use Rattle.swc_steps.proofs.Emitted.{fit_seen, notes-none, notes-one, notes-then}
use Rattle.swc_steps.proofs.Steps.{check_passes, forgoes_later}
use Rattle.swc_cover.proofs.noting.record_all.Goals as goal

pub loop-fault-init : goal.loop-fault-init
loop-fault-init g c = (
  check_passes true g.met.I.Tokens.laws _ refl,
  omega arith,
  λ n. refl,
  notes-none g.I.Tokens.model _,
)

pub returns-in_err-emit_err-clause-checks : goal.returns-in_err-emit_err-clause-checks
returns-in_err-emit_err-clause-checks g c =
    rw (err_is c.from_residual.ensures.1) (forgoes_later c.loop-fault.invariant.0.leads
    c.in_err-emit_err.ensures.tries)

pub loop-fault-preserved : goal.loop-fault-preserved
loop-fault-preserved g c =
    let done = c.in_ok-emit_err.ensures in
    let found = errors-more c.deref-fault-items.result.now c.loop-fault.fault-index _ c.in_order.result c.kind_of.result
    c.loop-fault-test.true c.in_order.ensures c.kind_of.ensures.is in (
      faults-more c.deref-fault-items.result.now c.loop-fault.fault-index c.loop-fault-test.true
          c.loop-fault.invariant.0 done.tries done.notes,
      let a = c.loop-fault.invariant.1 in let b = done.falls in omega arith,
      stays-then _ _ _ c.loop-fault.invariant.2 (λ n. done.kept (fit_seen _ n)),
      rw (found) (notes-then g.I.Tokens.model c.loop-fault.invariant.0.leads c.loop-fault.invariant.3
          (notes-one g.I.Tokens.model _ _ _ (λ s. (done.silent s).1) done.recorded)),
    )

pub returns-clause-checks : goal.returns-clause-checks
returns-clause-checks g c =
    faults-all c.deref-fault-items.result.now c.args.faults.now.items c.loop-fault.fault-index
    c.deref-fault-items.ensures.value
    (let h = c.loop-fault-test.false in omega arith) c.loop-fault.invariant.0

pub returns-clause-notes : goal.returns-clause-notes
returns-clause-notes g c =
    let all = errors-all c.deref-fault-items.result.now c.args.faults.now.items c.loop-fault.fault-index
    c.deref-fault-items.ensures.value (let h = c.loop-fault-test.false in omega arith) in
    rw (sym all) c.loop-fault.invariant.3

pub returns-clause-falls : goal.returns-clause-falls
returns-clause-falls g c = c.loop-fault.invariant.1

pub returns-clause-kept : goal.returns-clause-kept
returns-clause-kept g c = c.loop-fault.invariant.2
