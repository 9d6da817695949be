use Rattle.std.proofs.Common.{refl, arith}
use Rattle.swc_nodes.proofs.Standing.{grows-same}
use Rattle.swc_steps.proofs.Making as m
use Rattle.swc_steps.proofs.Steps as s
use Rattle.swc_primary.proofs.primary.private_node.Goals as goal

pub returns : goal.returns
returns g c =
    m.node_on _ c.private_expr-node.result c.made.result (omega arith) c.private_expr-node.ensures.made
    c.made.ensures.ok c.made.ensures.refused (grows-same _) c.private_expr-node.ensures.grows
    (s.on_here g.met.I.Tokens.laws _ (λ x ts. refl))
