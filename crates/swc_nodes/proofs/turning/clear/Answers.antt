use Rattle.std.proofs.Common.{arith}
use Rattle.swc_nodes.proofs.Onward.{cleared-next}
use Rattle.swc_nodes.proofs.turning.clear.Goals as goal

pub loop-number-preserved : goal.loop-number-preserved
loop-number-preserved g c =
    cleared-next c.args.from c.loop-number.number c.args.nodes.now.items c.loop-number.nodes.items c.no_node.result
    (omega arith) (omega arith) c.loop-number.invariant c.no_node.ensures
