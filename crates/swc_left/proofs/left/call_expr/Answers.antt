use Rattle.std.proofs.Common.{◌++◌, refl, arith}
use Rattle.swc_nodes.specs.NodeParts.{expr_part, one_expr, args_parts}
use Rattle.swc_nodes.proofs.{Held.from-apart, Standing.grows-same}
use Rattle.swc_steps.proofs.Building.{apart-first, made_over}
use Rattle.swc_steps.proofs.Making as m
use Rattle.swc_steps.proofs.Steps as s
use Rattle.swc_left.proofs.left.call_expr.Goals as goal

pub call_expr-node-requires-clause-from : goal.call_expr-node-requires-clause-from
call_expr-node-requires-clause-from g c = from-apart (expr_part c.args.callee) (args_parts c.args.list.items) c.requires

pub returns : goal.returns
returns g c =
    m.node_on _ c.call_expr-node.result c.made.result (omega arith)
    (made_over _ _ _ (one_expr c.args.callee ++ args_parts c.args.list.items) _ c.call_expr-node.result
    c.call_expr-node.ensures.made
    (apart-first (expr_part c.args.callee) (args_parts c.args.list.items) c.requires)) c.made.ensures.ok
    c.made.ensures.refused (grows-same _) c.call_expr-node.ensures.grows
    (s.on_here g.met.I.Tokens.laws _ (λ x ts. refl))
