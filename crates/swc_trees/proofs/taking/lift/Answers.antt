use Rattle.std.proofs.Common.{map, arith, rules}
use Rattle.swc_nodes.specs.Walking.{part_of}
use Rattle.swc_trees.proofs.Lifting.{lifting-starts, lifting-step, lifting-left, lifting-ends, next-within, next-left}
use Rattle.swc_trees.proofs.taking.lift.Goals as goal

pub loop-part-init : goal.loop-part-init
loop-part-init g c = lifting-starts (map part_of c.args.parts.items) c.requires c.new-lifted.ensures.items

pub pop_at-requires : goal.pop_at-requires
pop_at-requires g c =
    let w = next-within _ c.in-Some.part c.in-Some.ensures.items c.loop-part.invariant in
    let n = c.number.ensures in
    omega arith

pub loop-part-smaller : goal.loop-part-smaller
loop-part-smaller g c =
    let w = next-within _ c.in-Some.part c.in-Some.ensures.items c.loop-part.invariant in
    let n = c.number.ensures in
    let k = c.pop_at.ensures.counted in
    omega arith

pub loop-part-preserved : goal.loop-part-preserved
loop-part-preserved g c =
    lifting-step _ c.list.new.list.items c.in-Some.part c.in-Some.ensures.items c.number.ensures c.pop_at.ensures
    c.in_ok-list.ensures
    c.into_inner.ensures c.in_ok-push.ensures.items c.loop-part.invariant

pub returns-in_err-list-clause-left : goal.returns-in_err-list-clause-left
returns-in_err-list-clause-left g c = next-left _ c.in-Some.part c.in-Some.ensures.items c.number.ensures
    c.pop_at.ensures c.loop-part.invariant

pub returns-in_err-push-clause-left : goal.returns-in_err-push-clause-left
returns-in_err-push-clause-left g c = next-left _ c.in-Some.part c.in-Some.ensures.items c.number.ensures
    c.pop_at.ensures c.loop-part.invariant

pub returns-clause-left : goal.returns-clause-left
returns-clause-left g c = lifting-left c.loop-part.invariant

pub returns-clause-lifted : goal.returns-clause-lifted
returns-clause-lifted g c = lifting-ends (search rules) c.loop-part.invariant
