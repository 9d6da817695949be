use Rattle.std.proofs.Common.{Some, refl, arith}
use Rattle.swc_nodes.specs.NodeParts.{one_expr, expr_part}
use Rattle.swc_nodes.proofs.{Held.apart-from, Held.from_self, Standing.grows-same}
use Rattle.swc_left.specs.Bases.{allowed, super_in}
use Rattle.swc_steps.specs.Parsing.{tree_of}
use Rattle.swc_steps.proofs.Building.{apart-down, made_over}
use Rattle.swc_steps.proofs.Making as m
use Rattle.swc_steps.proofs.Steps as s
use Rattle.swc_left.proofs.base.super_computed.Goals as goal

pub returns-in_err-end : goal.returns-in_err-end
returns-in_err-end g c =
    let e = tree_of c.args.p.now.nodes c.args.expr in
    m.refused c.from_residual.ensures.1
    (s.unheard_call (λ x q. allowed (super_in c.args.start c.args.bracket q.0 e) x q.1) (λ x ts. refl)
    (c.in_err-end.ensures.expects g.B.Bodies.is_faithful)) (grows-same _)

pub returns-in_err-require_super : goal.returns-in_err-require_super
returns-in_err-require_super g c =
    let e = tree_of c.args.p.now.nodes c.args.expr in
    m.refused c.from_residual-in_err-require_super.ensures.1
    (s.unheard_after (s.on_call (λ x q. allowed (super_in c.args.start c.args.bracket q.0 e) x q.1) (λ x ts. refl)
    (c.in_ok-end.ensures.expects g.B.Bodies.is_faithful).on)
    (s.unheard_call (λ x q. Some (super_in c.args.start c.args.bracket c.in_ok-end.end e, q.1)) (λ x ts. refl)
    (c.in_err-require_super.ensures.passes g.B.Bodies.is_faithful))) (grows-same _)

pub super_prop_expr-node-requires : goal.super_prop_expr-node-requires
super_prop_expr-node-requires g c = record {
  apart = apart-down (one_expr c.args.expr)
      (apart-from (expr_part c.args.expr) c.requires);
}

pub returns : goal.returns
returns g c =
    let e = tree_of c.args.p.now.nodes c.args.expr in
    let end = c.in_ok-end.end in
    m.node _ c.super_prop_expr-node.result c.made.result (omega arith)
    (made_over _ _ _ (one_expr c.args.expr) _ c.super_prop_expr-node.result c.super_prop_expr-node.ensures.made
    (apart-from (expr_part c.args.expr) (from_self c.requires)))
    c.made.ensures.ok c.made.ensures.refused (grows-same _) c.super_prop_expr-node.ensures.grows
    (s.heard_more (λ x q. allowed (super_in c.args.start c.args.bracket q.0 e) x q.1) (λ x ts. refl)
    (c.in_ok-end.ensures.expects g.B.Bodies.is_faithful)
    (s.on_call (λ x q. Some (super_in c.args.start c.args.bracket end e, q.1)) (λ x ts. refl)
    (c.in_ok-require_super.ensures.passes g.B.Bodies.is_faithful)))
