use Rattle.std.proofs.Common.{refl, arith}
use Rattle.swc_steps.proofs.Making as m
use Rattle.swc_steps.proofs.Steps as s
use Rattle.swc_nodes.proofs.Standing.{grows-same}
use Rattle.swc_left.proofs.base.import_meta.Goals as goal

pub returns : goal.returns
returns g c =
    m.node_on _ c.meta_prop-node.result c.made.result (omega arith) c.meta_prop-node.ensures.made c.made.ensures.ok
    c.made.ensures.refused (grows-same _) c.meta_prop-node.ensures.grows
    (s.on_here g.met.I.Tokens.laws _ (λ x ts. refl))
