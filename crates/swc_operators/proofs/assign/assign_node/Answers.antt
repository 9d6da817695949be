use Rattle.std.proofs.Common.{◌≡◌, ◌+◌, true, refl, sym, subst, arith}
use Rattle.swc_context.specs.declared.operator.AssignOp.{AssignOp, AssignOp as write}
use Rattle.swc_nodes.specs.GrowingNodes.{end_at, first_at, From}
use Rattle.swc_nodes.specs.{NodeParts.expr_part, NodeParts.target_part, declared.node.TargetNode.TargetNode}
use Rattle.swc_nodes.proofs.Standing.{grows-same}
use Rattle.swc_steps.specs.Parsing.{itself, tree_of, GoesOn}
use Rattle.swc_steps.proofs.Making as m
use Rattle.swc_steps.proofs.Steps as s
use Rattle.swc_operators.specs.Assignments.{assign_made, fits_op, target_at, target_number}
use Rattle.swc_operators.proofs.Assignments.{plain_is}
use Rattle.swc_operators.proofs.assign.assign_node.Goals as goal

pub assign_expr-node-requires-clause-left : goal.assign_expr-node-requires-clause-left
assign_expr-node-requires-clause-left g c =
    subst (λ v. From 0 c.args.p.now.nodes (target_part v)) c.in-Simple.is c.requires.left

pub assign_expr-node-requires-clause-right : goal.assign_expr-node-requires-clause-right
assign_expr-node-requires-clause-right g c =
    subst (λ v. From (target_number v + 1) c.args.p.now.nodes (expr_part c.args.right)) c.in-Simple.is c.requires.right

pub returns-in-Simple : goal.returns-in-Simple
returns-in-Simple g c =
    let now = c.args.p.now.nodes in
    let right = tree_of now c.args.right in
    let Done : TargetNode → Type 0 = λ v. GoesOn g.I.Tokens.model g.B.Bodies.is_faithful itself tree_of
    (assign_made c.args.op (target_at now v) (end_at now c.args.right.0) right) (first_at now (target_number v))
    c.args.p.now c.made.result (record c.args.p.now { nodes = c.assign_expr-node.new.self }) in
    subst Done (sym c.in-Simple.is)
    (m.node_on _ c.assign_expr-node.result c.made.result (omega arith) c.assign_expr-node.ensures.made c.made.ensures.ok
    c.made.ensures.refused (grows-same _) c.assign_expr-node.ensures.grows
    (s.on_here g.met.I.Tokens.laws c.args.p.now.input (λ x ts. refl)))

pub assign_pat_expr-node-requires-clause-left : goal.assign_pat_expr-node-requires-clause-left
assign_pat_expr-node-requires-clause-left g c =
    subst (λ v. From 0 c.args.p.now.nodes (target_part v)) c.in-Pat.is c.requires.left

pub assign_pat_expr-node-requires-clause-right : goal.assign_pat_expr-node-requires-clause-right
assign_pat_expr-node-requires-clause-right g c =
    subst (λ v. From (target_number v + 1) c.args.p.now.nodes (expr_part c.args.right)) c.in-Pat.is c.requires.right

pub returns-in-Pat : goal.returns-in-Pat
returns-in-Pat g c =
    let now = c.args.p.now.nodes in
    let right = tree_of now c.args.right in
    let plain = plain_is c.args.op (subst (λ v. fits_op c.args.op v ≡ true) c.in-Pat.is c.requires.plain) in
    let Done : AssignOp → TargetNode → Type 0 = λ o v. GoesOn g.I.Tokens.model g.B.Bodies.is_faithful itself tree_of
    (assign_made o (target_at now v) (end_at now c.args.right.0) right) (first_at now (target_number v))
    c.args.p.now c.made-in-Pat.result (record c.args.p.now { nodes = c.assign_pat_expr-node.new.self }) in
    subst (λ o. Done o c.args.target) (sym plain) (subst (Done write.Assign) (sym c.in-Pat.is)
    (m.node_on _ c.assign_pat_expr-node.result c.made-in-Pat.result (omega arith) c.assign_pat_expr-node.ensures.made
    c.made-in-Pat.ensures.ok c.made-in-Pat.ensures.refused (grows-same _) c.assign_pat_expr-node.ensures.grows
    (s.on_here g.met.I.Tokens.laws c.args.p.now.input (λ x ts. refl))))
