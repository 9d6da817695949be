use Rattle.std.proofs.Common.{Ok, Some, refl}
use Rattle.swc_ast.specs.Trees.{to, computed_e}
use Rattle.swc_nodes.specs.NodeParts.{expr_part}
use Rattle.swc_nodes.proofs.{Held.apart-from, Held.from_self, Standing.grows-same}
use Rattle.swc_steps.specs.Parsing.{tree_of}
use Rattle.swc_steps.proofs.Making as m
use Rattle.swc_steps.proofs.Steps as s
use Rattle.swc_primary.proofs.object.computed_prop_name.Goals as goal

pub returns-in_err-end : goal.returns-in_err-end
returns-in_err-end g c =
    let e = tree_of c.args.p.now.nodes c.args.expr in
    m.refused c.from_residual.ensures.1
    (s.unheard_call (λ x q. Some (computed_e (to c.args.start q.0) e, q.1)) (λ x ts. refl)
    (c.in_err-end.ensures.expects g.B.Bodies.is_faithful)) (grows-same _)

pub returns : goal.returns
returns g c =
    let e = tree_of c.args.p.now.nodes c.args.expr in
    m.yes (Ok _)
    (s.heard_call (λ x q. Some (computed_e (to c.args.start q.0) e, q.1)) (λ x ts. refl)
    (λ x ts. refl) (c.in_ok-end.ensures.expects g.B.Bodies.is_faithful))
    (grows-same _) (apart-from (expr_part c.args.expr) (from_self c.requires.from))
