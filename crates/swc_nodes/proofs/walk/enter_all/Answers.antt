use Rattle.std.proofs.Common.{◌∙◌, arith}
use Rattle.swc_nodes.specs.Visits.{opened}
use Rattle.swc_nodes.proofs.Visited.{goes_enter, entered_after}
use Rattle.swc_nodes.proofs.walk.enter_all.Goals as goal

pub loop-inner-preserved : goal.loop-inner-preserved
loop-inner-preserved c =
    let taken = rw c.in-Some.is at c.in_ok-inner.ensures in
    let put = rw c.deref.ensures.value at c.in_ok-enter.ensures in
    let vs = c.loop-inner.visits.items in
    let us = c.enter.new.visits.items in
    let ws = c.take_done.new.around.items in
    record {
      goes = λ at ps ds e g. goes_enter at ps ds vs us c.loop-inner.around.items ws c.in-Some.inner taken.1 put
          (omega (arith, e, taken.0))
          (c.loop-inner.invariant.goes at ps ds e g);
      left = entered_after vs us c.in-Some.inner.part (opened ws) put ∙ c.loop-inner.invariant.left;
    }
