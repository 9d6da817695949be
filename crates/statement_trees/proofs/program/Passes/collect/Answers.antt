use Rattle.std.proofs.Common.{ap}
use Rattle.swc_bodies.specs.Deferred.{waiting}
use Rattle.statement_trees.specs.Contexts.{kept_bodies}
use Rattle.statement_trees.proofs.Passes.{turned}
use Rattle.statement_trees.proofs.program.Passes.collect.Goals as goal

pub loop-body-preserved : goal.loop-body-preserved
loop-body-preserved c =
    let turn = turned c.loop-body.self.waiting.items (waiting c.pop.new.self.kept) c.in-Some.body in
    let same = ap kept_bodies c.in_ok-kept.ensures.same in
    let pushed = rw c.in_ok-kept.ensures.kept at c.push-pushed.ensures.items in
    record {
      waits = cc (turn, same, pushed, c.in-Some.ensures, c.loop-body.invariant.waits);
      read = cc;
    }
