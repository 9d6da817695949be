use Rattle.swc_nodes.specs.NodeParts.{args_parts}
use Rattle.swc_nodes.proofs.Walked.{walked_apart}
use Rattle.swc_nodes.proofs.nodes.Nodes.are_args_apart.Goals as goal

pub returns : goal.returns
returns g c =
    let parts = args_parts c.args.args.now in
    let told = walked_apart c.args.self.now parts c.is_some.result c.walk.result c.is_some.ensures c.walk.ensures in
    record { is = told.0; all = told.1 }
