use Rattle.std.proofs.Common.{◌++◌, refl, arith}
use Rattle.swc_nodes.specs.NodeParts.{args_parts, callee_parts}
use Rattle.swc_steps.proofs.Building.{made_over}
use Rattle.swc_steps.proofs.Making as m
use Rattle.swc_steps.proofs.Steps as s
use Rattle.swc_nodes.proofs.Standing.{grows-same}
use Rattle.swc_left.proofs.base.callee_call.Goals as goal

pub returns : goal.returns
returns g c = λ k apart.
    m.node_on _ c.callee_call-node.result c.made.result (omega arith)
    (made_over _ _ k (callee_parts c.args.callee ++ args_parts c.args.list.items) _ c.callee_call-node.result
    c.callee_call-node.ensures.made apart)
    c.made.ensures.ok c.made.ensures.refused (grows-same _) c.callee_call-node.ensures.grows
    (s.on_here g.met.I.Tokens.laws _ (λ x ts. refl))
