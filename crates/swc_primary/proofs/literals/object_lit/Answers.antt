use Rattle.std.proofs.Common.{refl, arith}
use Rattle.swc_nodes.specs.Lists.{props_parts}
use Rattle.swc_nodes.proofs.Standing.{grows-same}
use Rattle.swc_steps.proofs.Building.{made_over}
use Rattle.swc_steps.proofs.Making as m
use Rattle.swc_steps.proofs.Steps as s
use Rattle.swc_primary.proofs.literals.object_lit.Goals as goal

pub returns : goal.returns
returns g c = λ k apart.
    m.node_on {k = k} {j = k} _ c.object_lit-node.result c.made.result (omega arith)
    (made_over _ _ _ (props_parts c.args.list.items) _ c.object_lit-node.result c.object_lit-node.ensures.made apart)
    c.made.ensures.ok c.made.ensures.refused (grows-same _) c.object_lit-node.ensures.grows
    (s.on_here g.met.I.Tokens.laws _ (λ x ts. refl))
