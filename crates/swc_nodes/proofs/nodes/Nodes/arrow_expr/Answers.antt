use Rattle.swc_nodes.specs.{Lists.pats_parts, NodeParts.body_parts}
use Rattle.swc_nodes.proofs.ArrowNodes.{apart-back, arrow-made}
use Rattle.swc_nodes.proofs.nodes.Nodes.arrow_expr.Goals as goal

pub body_end-requires : goal.body_end-requires
body_end-requires g c = apart-back (pats_parts c.args.params) (body_parts c.args.body) c.requires.apart

pub returns-clause-made : goal.returns-clause-made
returns-clause-made g c =
    arrow-made c.args.start c.body_end.result c.args.is_async c.args.params c.args.body c.in_ok-body.body
    c.in_ok-body.ensures.ok c.body_end.ensures c.requires.apart c.in_ok-push.ensures.added
