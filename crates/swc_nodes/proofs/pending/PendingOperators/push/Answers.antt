use Rattle.swc_nodes.specs.Rising.{waiting}
use Rattle.swc_nodes.proofs.Waiting.{rises_put}
use Rattle.swc_nodes.proofs.pending.PendingOperators.push.Goals as goal

pub invariant_of-self-2-clause-rising : goal.invariant_of-self-2-clause-rising
invariant_of-self-2-clause-rising c = rises_put c.args.self.now.top c.args.self.now.below.items c.put_below.new.below.items
    (waiting c.args.left c.args.op) c.in_ok-put_below.ensures c.args.self.now.rising c.requires
