use Rattle.swc_nodes.proofs.Waiting.{rises_taken}
use Rattle.swc_nodes.proofs.pending.PendingOperators.pop.Goals as goal

pub invariant_of-self-clause-rising : goal.invariant_of-self-clause-rising
invariant_of-self-clause-rising c = rises_taken c.args.self.now.top c.pop-self.result c.args.self.now.below.items
    c.pop-self.new.self.items c.pop-self.ensures.items c.args.self.now.rising
