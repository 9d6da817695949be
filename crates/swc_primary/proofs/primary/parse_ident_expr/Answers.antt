use Rattle.std.proofs.Common.{Some, arith}
use Rattle.swc_ast.specs.Trees.{ident_e}
use Rattle.swc_nodes.proofs.Standing.{grows-same}
use Rattle.swc_steps.proofs.Making as m
use Rattle.swc_steps.proofs.Rules as rule
use Rattle.swc_steps.proofs.Steps as s
use Rattle.swc_primary.proofs.primary.parse_ident_expr.Goals as goal

pub returns-in_err-ident : goal.returns-in_err-ident
returns-in_err-ident g c =
    m.refused c.from_residual.ensures.1
    (s.unheard_call (λ x p. Some (ident_e p.0.at p.0.text, p.1)) (λ x ts. rule.named_splits x ts)
    (c.in_err-ident.ensures.parses g.B.Bodies.is_faithful)) (grows-same _)

pub returns : goal.returns
returns g c =
    m.node _ c.ident_expr-node.result c.made.result (omega arith) c.ident_expr-node.ensures.made c.made.ensures.ok
    c.made.ensures.refused (grows-same _) c.ident_expr-node.ensures.grows
    (s.heard_as (λ n. ident_e n.at n.text) (λ x ts. rule.named_splits x ts)
    (c.in_ok-ident.ensures.parses g.B.Bodies.is_faithful))
