use Rattle.std.proofs.Common.{length, map, reverse, subst, arith, ◌≡◌}
use Rattle.swc_nodes.specs.{Visits.IsReady, Visits.left_in, Walking.part_of}
use Rattle.swc_nodes.proofs.Reaching.{going_first, has-reached, found-numbers, rising-apart}
use Rattle.swc_nodes.proofs.Remembered.{taken}
use Rattle.swc_nodes.proofs.Visited.{walks_first, turned, turned_less, entered, all_left, all_walked}
use Rattle.swc_nodes.proofs.walk.walk.Goals as goal

pub loop-part-init : goal.loop-part-init
loop-part-init g c =
    let ps = g.T.Parts.parts c.args.item.now in
    record {
      walks = rw (c.new-around.ensures.items, c.new-visits.ensures.items)
          (walks_first c.args.nodes.now ps c.in_ok-due.due.items c.in_ok-due.ensures
          (going_first c.args.nodes.now ps (map part_of c.in_ok-due.due.items) c.in_ok-due.ensures));
      ready = rw (c.new-around.ensures.items) tt;
    }

pub loop-part-preserved : goal.loop-part-preserved
loop-part-preserved g c =
    let ns = c.args.nodes.now in
    let ps = g.T.Parts.parts c.args.item.now in
    let due = c.turn.new.due.items in
    let same : c.len.result ≡ length due = let o = c.turn.new.due.ok.0 in omega (arith, c.len.ensures) in
    record {
      walks = entered ns ps due c.turn.new.around.items c.enter_all.new.around.items c.turn.new.visits.items
          c.enter_all.new.visits.items c.len.result same
          c.in_ok-enter_all.ensures.goes c.in_ok-enter_all.ensures.left
          (turned ns ps c.loop-part.due.items c.pop.new.self.items due c.in-Some.part c.loop-part.around.items
          c.turn.new.around.items
          c.loop-part.visits.items c.turn.new.visits.items
          (taken _ _ c.in-Some.part c.in-Some.ensures.items) c.loop-part.invariant.ready
          c.loop-part.invariant.walks c.in_ok-turn.ensures);
      ready = subst (λ v. IsReady v (reverse c.enter_all.new.around.items)) same c.in_ok-enter_all.ensures.ready;
    }

pub loop-part-smaller : goal.loop-part-smaller
loop-part-smaller g c =
    turned_less c.args.nodes.now (g.T.Parts.parts c.args.item.now) c.loop-part.due.items c.pop.new.self.items
    c.turn.new.due.items c.in-Some.part
    c.loop-part.around.items c.turn.new.around.items c.loop-part.visits.items c.turn.new.visits.items
    (taken _ _ c.in-Some.part c.in-Some.ensures.items) c.loop-part.invariant.walks c.in_ok-turn.ensures

pub returns-clause-walked : goal.returns-clause-walked
returns-clause-walked g c =
    all_walked c.args.nodes.now (g.T.Parts.parts c.args.item.now) c.loop-part.due c.loop-part.around.items
    c.loop-part.visits.items
    c.reverse.new.self.items c.in_default.ensures.cases.0 c.reverse.ensures.items c.loop-part.invariant.ready
    c.loop-part.invariant.walks

pub returns-clause-has : goal.returns-clause-has
returns-clause-has g c =
    has-reached (all_left c.args.nodes.now (g.T.Parts.parts c.args.item.now) c.loop-part.due c.loop-part.around.items
    c.loop-part.visits.items
    c.reverse.new.self.items c.in_default.ensures.cases.0 c.reverse.ensures.items c.loop-part.invariant.walks)

pub returns-clause-numbers : goal.returns-clause-numbers
returns-clause-numbers g c =
    found-numbers (left_in c.reverse.new.self.items) (all_left c.args.nodes.now
    (g.T.Parts.parts c.args.item.now) c.loop-part.due
    c.loop-part.around.items c.loop-part.visits.items c.reverse.new.self.items c.in_default.ensures.cases.0
    c.reverse.ensures.items
    c.loop-part.invariant.walks)

pub returns-clause-rising : goal.returns-clause-rising
returns-clause-rising g c =
    rising-apart (left_in c.reverse.new.self.items) (all_left c.args.nodes.now
    (g.T.Parts.parts c.args.item.now) c.loop-part.due
    c.loop-part.around.items c.loop-part.visits.items c.reverse.new.self.items c.in_default.ensures.cases.0
    c.reverse.ensures.items
    c.loop-part.invariant.walks)
