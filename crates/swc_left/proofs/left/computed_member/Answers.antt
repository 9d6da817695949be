use Rattle.std.proofs.Common.{◌++◌, Some, refl, arith}
use Rattle.swc_ast.specs.Tree.{span_of}
use Rattle.swc_ast.specs.Trees.{to, computed_e, member_e, link_e}
use Rattle.swc_nodes.specs.NodeParts.{expr_part, one_expr}
use Rattle.swc_nodes.proofs.{Held.from-apart, Standing.grows-same}
use Rattle.swc_steps.specs.Parsing.{tree_of}
use Rattle.swc_steps.proofs.Building.{apart-first, made_over}
use Rattle.swc_steps.proofs.Making as m
use Rattle.swc_steps.proofs.Steps as s
use Rattle.swc_left.proofs.left.computed_member.Goals as goal

pub returns-in_err-end : goal.returns-in_err-end
returns-in_err-end g c =
    let l = tree_of c.args.p.now.nodes c.args.obj in
    let e = tree_of c.args.p.now.nodes c.args.expr in
    m.refused c.from_residual.ensures.1
    (s.unheard_call (λ x q. Some (
      link_e c.args.optional l
          (member_e (to (span_of l) q.0) l (computed_e (to c.args.start q.0) e)),
      q.1,
    )) (λ x ts. refl)
    (c.in_err-end.ensures.expects g.B.Bodies.is_faithful)) (grows-same _)

pub member_expr-node-requires-clause-from : goal.member_expr-node-requires-clause-from
member_expr-node-requires-clause-from g c = from-apart (expr_part c.args.obj) (one_expr c.args.expr) c.requires

pub returns : goal.returns
returns g c =
    let l = tree_of c.args.p.now.nodes c.args.obj in
    let e = tree_of c.args.p.now.nodes c.args.expr in
    m.node _ c.member_expr-node.result c.made.result (omega arith)
    (made_over _ _ _ (one_expr c.args.obj ++ one_expr c.args.expr) _ c.member_expr-node.result
    c.member_expr-node.ensures.made
    (apart-first (expr_part c.args.obj) (one_expr c.args.expr) c.requires)) c.made.ensures.ok c.made.ensures.refused
    (grows-same _) c.member_expr-node.ensures.grows
    (s.heard_call (λ x q. Some (
      link_e c.args.optional l
          (member_e (to (span_of l) q.0) l (computed_e (to c.args.start q.0) e)),
      q.1,
    )) (λ x ts. refl) (λ x ts. refl)
    (c.in_ok-end.ensures.expects g.B.Bodies.is_faithful))
