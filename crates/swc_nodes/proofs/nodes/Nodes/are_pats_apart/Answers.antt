use Rattle.swc_nodes.specs.Lists.{pats_parts}
use Rattle.swc_nodes.proofs.Walked.{walked_apart}
use Rattle.swc_nodes.proofs.nodes.Nodes.are_pats_apart.Goals as goal

pub returns : goal.returns
returns g c =
    let parts = pats_parts c.args.pats.now in
    let told = walked_apart c.args.self.now parts c.is_some.result c.walk.result c.is_some.ensures c.walk.ensures in
    record { is = told.0; all = told.1 }
