use Rattle.std.proofs.Common.{◌<◌, ◌≤◌, map, reverse, sym, subst, arith}
use Rattle.swc_nodes.specs.{GrowingNodes.count, GrowingNodes.Stood, Walking.part_of}
use Rattle.swc_nodes.proofs.Reaching.{Going, going_first, going_past, going_on, going_done, past_less, on_less, taken_first, has-reached, parts-first, found-numbers, rising-apart, rising-one}
use Rattle.swc_nodes.proofs.Remembered.{taken}
use Rattle.swc_nodes.proofs.reached.reached.Goals as goal

pub loop-part-init : goal.loop-part-init
loop-part-init g c =
    let due = map part_of c.in_ok-due.due.items in
    subst (λ v. Going c.args.nodes.now (g.T.Parts.parts c.args.item.now) due (map part_of (reverse v)))
    (sym c.new-found.ensures.items) (going_first c.args.nodes.now
    (g.T.Parts.parts c.args.item.now) due c.in_ok-due.ensures)

pub loop-part-smaller-in-Continue-branch-3 : goal.loop-part-smaller-in-Continue-branch-3
loop-part-smaller-in-Continue-branch-3 g c =
    let p = part_of c.in-Some.part in
    let lt : p.at < count c.args.nodes.now =
    omega (arith, c.number.ensures, c.len.ensures, c.if-number-len.true) in
    let stood : Stood c.args.nodes.now p.at c.get.result.now =
    rw (sym c.number-then-number-len.ensures) c.get.ensures in
    on_less (map part_of c.pop.new.self.items) p (taken _ _ c.in-Some.part c.in-Some.ensures.items)
    c.loop-part.invariant
    stood lt c.in_ok-list.ensures

pub loop-part-preserved-in-Continue-branch-3 : goal.loop-part-preserved-in-Continue-branch-3
loop-part-preserved-in-Continue-branch-3 g c =
    let p = part_of c.in-Some.part in
    let lt : p.at < count c.args.nodes.now =
    omega (arith, c.number.ensures, c.len.ensures, c.if-number-len.true) in
    let stood : Stood c.args.nodes.now p.at c.get.result.now =
    rw (sym c.number-then-number-len.ensures) c.get.ensures in
    subst (Going c.args.nodes.now (g.T.Parts.parts c.args.item.now) (map part_of c.list.new.list.items))
    (sym (taken_first c.loop-part.found.items c.push.new.self.items c.in-Some.part c.in_ok-push.ensures.items))
    (going_on (map part_of c.pop.new.self.items) p (taken _ _ c.in-Some.part c.in-Some.ensures.items)
    c.loop-part.invariant
    stood lt c.in_ok-list.ensures)

pub loop-part-smaller : goal.loop-part-smaller
loop-part-smaller g c =
    past_less (map part_of c.pop.new.self.items) (part_of c.in-Some.part)
    (taken _ _ c.in-Some.part c.in-Some.ensures.items) c.loop-part.invariant

pub loop-part-preserved : goal.loop-part-preserved
loop-part-preserved g c =
    let p = part_of c.in-Some.part in
    let le : count c.args.nodes.now ≤ p.at =
    omega (arith, c.number.ensures, c.len.ensures, c.if-number-len.false) in
    going_past (map part_of c.pop.new.self.items) p (taken _ _ c.in-Some.part c.in-Some.ensures.items)
    c.loop-part.invariant le

pub returns-clause-has : goal.returns-clause-has
returns-clause-has g c =
    has-reached (going_done c.loop-part.due c.loop-part.found.items c.reverse.new.self.items
    c.in_default.ensures.cases.0 c.reverse.ensures.items c.loop-part.invariant)

pub returns-clause-parts_first : goal.returns-clause-parts_first
returns-clause-parts_first g c =
    parts-first (going_done c.loop-part.due c.loop-part.found.items c.reverse.new.self.items
    c.in_default.ensures.cases.0 c.reverse.ensures.items c.loop-part.invariant)

pub returns-clause-numbers : goal.returns-clause-numbers
returns-clause-numbers g c =
    let list = c.reverse.new.self.items in
    found-numbers list (going_done c.loop-part.due c.loop-part.found.items list c.in_default.ensures.cases.0
    c.reverse.ensures.items c.loop-part.invariant)

pub returns-clause-rising : goal.returns-clause-rising
returns-clause-rising g c =
    let list = c.reverse.new.self.items in
    rising-apart list (going_done c.loop-part.due c.loop-part.found.items list c.in_default.ensures.cases.0
    c.reverse.ensures.items c.loop-part.invariant)

pub returns-clause-rising_from_one : goal.returns-clause-rising_from_one
returns-clause-rising_from_one g c =
    let list = c.reverse.new.self.items in
    rising-one list (going_done c.loop-part.due c.loop-part.found.items list c.in_default.ensures.cases.0
    c.reverse.ensures.items c.loop-part.invariant)
