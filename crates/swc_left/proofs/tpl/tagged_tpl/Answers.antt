use Rattle.std.proofs.Common.{map, not, ◌++◌, sym, ap, arith}
use Rattle.swc_ast.specs.Parts.{quasi_tree}
use Rattle.swc_ast.specs.Tree.{node, span_of, tpl as tpl_kind}
use Rattle.swc_ast.specs.Trees.{to, tagged_e, is_chain}
use Rattle.swc_nodes.specs.{Lists.exprs_parts, NodeParts.expr_part, NodeParts.one_expr}
use Rattle.swc_nodes.proofs.{Held.from-apart, Lists.trees-both, Standing.grows-same}
use Rattle.swc_steps.specs.Parsing.{tree_of}
use Rattle.swc_left.specs.Templates.{tpl_parts_at}
use Rattle.swc_steps.proofs.Building.{apart-first, made_over}
use Rattle.swc_steps.proofs.Making as m
use Rattle.swc_steps.proofs.Steps as s
use Rattle.swc_left.proofs.Templates as tpl
use Rattle.swc_left.proofs.tpl.tagged_tpl.Goals as goal

pub check_tag-requires : goal.check_tag-requires
check_tag-requires g c = from-apart (expr_part c.args.tag) (exprs_parts c.args.parts.exprs) c.requires

pub returns-in_err-check_tag : goal.returns-in_err-check_tag
returns-in_err-check_tag g c =
    m.refused_more c.from_residual.ensures.1
    (s.unheard_memory c.in_err-check_tag.ensures.checks) (grows-same _)

pub tagged_tpl-node-requires-clause-from : goal.tagged_tpl-node-requires-clause-from
tagged_tpl-node-requires-clause-from g c = from-apart (expr_part c.args.tag) (exprs_parts c.args.parts.exprs) c.requires

pub returns : goal.returns
returns g c =
    let nodes = c.args.p.now.nodes in
    let l = tree_of nodes c.args.tag in
    let parts = c.args.parts in
    let whole = ap (λ v. tagged_e (to (span_of l) parts.end) l (node tpl_kind (to c.args.start parts.end) v))
    (sym (trees-both (map quasi_tree parts.quasis.items) (map (tree_of nodes) parts.exprs.items))) in
    m.node_on _ c.tagged_tpl-node.result c.made.result (omega arith)
    (made_over _ _ _ (one_expr c.args.tag ++ exprs_parts parts.exprs) _ c.tagged_tpl-node.result
    c.tagged_tpl-node.ensures.made
    (apart-first (expr_part c.args.tag) (exprs_parts parts.exprs) c.requires)) c.made.ensures.ok c.made.ensures.refused
    (grows-same _) c.tagged_tpl-node.ensures.grows
    (s.on_answer whole (s.on_checked (not (is_chain l)) c.in_ok-check_tag.ensures.checks
    (λ x ts well. tpl.tagged_well c.args.start l (tpl_parts_at nodes parts) x ts well)
    (λ x ts ill. tpl.tagged_ill c.args.start l (tpl_parts_at nodes parts) x ts ill)))
