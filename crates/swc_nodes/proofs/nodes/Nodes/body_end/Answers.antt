use Rattle.swc_nodes.proofs.ArrowNodes.{body-from}
use Rattle.swc_nodes.proofs.nodes.Nodes.body_end.Goals as goal

pub end-requires : goal.end-requires
end-requires g c = body-from c.args.body.now c.in-Expr.expr c.in-Expr.is c.requires
