use Rattle.std.proofs.Common.{◌++◌, refl, sym, ap, arith}
use Rattle.swc_context.specs.Spans.{from_to}
use Rattle.swc_ast.specs.{Parts.member_prop_tree, Tree.span_of, Trees.member_e, Trees.link_e}
use Rattle.swc_nodes.specs.NodeParts.{one_expr, member_parts}
use Rattle.swc_nodes.proofs.Held.{from-later, tree-later}
use Rattle.swc_steps.specs.Parsing.{tree_of}
use Rattle.swc_steps.proofs.Building.{apart-down, apart_behind, made_over}
use Rattle.swc_left.proofs.Links as link
use Rattle.swc_steps.proofs.Making as m
use Rattle.swc_steps.proofs.Steps as s
use Rattle.swc_left.proofs.left.parse_dot_member.Goals as goal

pub returns-in_err-prop : goal.returns-in_err-prop
returns-in_err-prop g c =
    let l = tree_of c.args.p.now.nodes c.args.obj in
    m.refused c.from_residual.ensures.1
    (s.unheard_call _ (link.dot_splits c.args.optional l) c.in_err-prop.ensures.reads) c.parse_member_name.ensures.grows

pub member_expr-node-requires-clause-from : goal.member_expr-node-requires-clause-from
member_expr-node-requires-clause-from g c = from-later c.parse_member_name.ensures.grows c.requires.from

pub member_expr-node-requires-clause-apart : goal.member_expr-node-requires-clause-apart
member_expr-node-requires-clause-apart g c =
    apart-down (one_expr c.args.obj ++ member_parts c.in_ok-prop.prop)
    (apart_behind c.parse_member_name.ensures.grows c.requires.from c.in_ok-prop.ensures.from)

pub returns : goal.returns
returns g c =
    let l = tree_of c.args.p.now.nodes c.args.obj in
    let prop = member_prop_tree (tree_of c.parse_member_name.new.p.nodes) c.in_ok-prop.prop in
    let whole = ap (λ v. link_e c.args.optional v (member_e (from_to (span_of v).lo c.in_ok-prop.end) v prop))
    (sym (tree-later c.parse_member_name.ensures.grows c.requires.from)) in
    m.node _ c.member_expr-node.result c.made.result (omega arith)
    (made_over _ _ _ (one_expr c.args.obj ++ member_parts c.in_ok-prop.prop) _ c.member_expr-node.result
    c.member_expr-node.ensures.made
    (apart_behind c.parse_member_name.ensures.grows c.requires.from c.in_ok-prop.ensures.from)) c.made.ensures.ok
    c.made.ensures.refused c.parse_member_name.ensures.grows c.member_expr-node.ensures.grows
    (s.heard_answer whole (s.heard_call _ (link.dot_splits c.args.optional l)
    (λ x ts. refl) c.in_ok-prop.ensures.reads))
