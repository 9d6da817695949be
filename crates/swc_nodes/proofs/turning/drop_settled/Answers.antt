use Rattle.std.proofs.Common.{◌≡◌, ◌-◌, take, sym, ap, subst, arith}
use Rattle.std.specs.Prelude.{slice_index_or}
use Rattle.swc_nodes.specs.Settled.{DroppedFrom}
use Rattle.swc_nodes.proofs.Going.{dropped-past}
use Rattle.swc_nodes.proofs.turning.drop_settled.Goals as goal
use Rattle.swc_nodes.proofs.turning.drop_settled.Goals.{then-loop-len-test+else-index-from, else-loop-len-test}

pub returns : goal.returns
returns c =
    let old = c.args.settled.now.items in
    let len = c.loop-len.len in
    let past : DroppedFrom c.args.from old (take len old) = elim c.loop-len-test.branch [
      | then-loop-len-test+else-index-from w ↦
          dropped-past c.args.from len old w.index.result.now c.loop-len.invariant (λ lt.
          let e : w.index.result.now.last ≡ (slice_index_or old (len - 1) w.index.result.now).last =
          ap (λ v. v.last) w.index.ensures in
          omega (arith, e, w.if-index-from.false))
      | else-loop-len-test w ↦
          dropped-past c.args.from len old (record { first = 0; last = 0 }) c.loop-len.invariant
          (λ lt. absurd (omega (arith, lt, w.loop-len-test.false)))
    ] in
    subst (λ v. DroppedFrom c.args.from old v) (sym c.truncate.ensures.items) past
