use Rattle.std.proofs.Common.{◌++◌}
use Rattle.swc_nodes.specs.{Lists.pats_parts, NodeParts.body_parts}
use Rattle.swc_nodes.proofs.{ArrowNodes.walked-both, Walked.walked_apart}
use Rattle.swc_nodes.proofs.nodes.Nodes.is_arrow_apart.Goals as goal

pub returns : goal.returns
returns g c =
    let ns = c.args.self.now in
    let params = pats_parts c.args.params.now in
    let own = body_parts c.args.body.now in
    let both = walked-both ns params own c.walk.result c.walk-2.result c.walk.ensures c.walk-2.ensures in
    let told = walked_apart ns (params ++ own) c.is_some.result c.walk-2.result c.is_some.ensures both in
    record { is = told.0; all = told.1 }
