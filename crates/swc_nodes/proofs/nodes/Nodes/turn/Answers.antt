use Rattle.std.proofs.Common.{map}
use Rattle.std.proofs.lemmas.Result.{IfOk-weaker}
use Rattle.swc_nodes.specs.Roles.{due}
use Rattle.swc_nodes.proofs.TurnedNodes.{turn-kept, turn-ready, turn-turned}
use Rattle.swc_nodes.proofs.nodes.Nodes.turn.Goals as goal

pub turn_all-requires : goal.turn_all-requires
turn_all-requires g c = turn-ready c.args.self.now (map due c.args.roots.items) c.requires.apart c.requires.suit

pub invariant_of-self : goal.invariant_of-self
invariant_of-self g c =
    let k = c.turn_all.ensures.kept in
    record { in_order = k.order; in_ranges = record { ranges = k.ranges } }

pub returns-clause-kept : goal.returns-clause-kept
returns-clause-kept g c = λ k a.
    turn-kept c.args.self.now (map due c.args.roots.items) _ c.turn_all.new.settled.items c.turn_all.ensures.kept k a

pub returns-clause-turned : goal.returns-clause-turned
returns-clause-turned g c =
    IfOk-weaker c.turn_all.result _ _
    (λ _ d k a. turn-turned c.args.self.now (map due c.args.roots.items) _ d k a) c.turn_all.ensures.turned
