use Rattle.std.proofs.Common.{◌≡◌}
use Rattle.swc_ast.specs.{Parts.tpl_tree, TreeOf.boxed_tree}
use Rattle.swc_nodes.specs.{Lists.exprs_parts, NodeTree.expr_of}
use Rattle.swc_trees.proofs.Rebuilt.{left-none, left-piece, piece-offered, piece-made}
use Rattle.swc_trees.proofs.taking.take_tpl.Goals as goal

pub returns-in_err-parts-clause-left : goal.returns-in_err-parts-clause-left
returns-in_err-parts-clause-left g c = left-none (exprs_parts c.args.tpl.exprs) c.requires

pub returns-in_err-built-clause-left : goal.returns-in_err-built-clause-left
returns-in_err-built-clause-left g c = left-piece c.in_ok-parts.ensures c.take_all.ensures.left

pub template-requires : goal.template-requires
template-requires g c = piece-offered (exprs_parts c.args.tpl.exprs) c.in_ok-parts.ensures c.in_ok-built.ensures

pub returns-clause-left : goal.returns-clause-left
returns-clause-left g c = left-piece c.in_ok-parts.ensures c.in_ok-built.ensures.left

pub returns-clause-moved : goal.returns-clause-moved
returns-clause-moved g c =
    piece-made
    (λ at y. tpl_tree (boxed_tree _ _ _ g.F.Spanned.place g.C.Spanned.place g.K.Spanned.place) y
    ≡ tpl_tree (expr_of g.F.Spanned.place g.C.Spanned.place g.K.Spanned.place at) c.args.tpl)
    (exprs_parts c.args.tpl.exprs) _ c.template.result c.in_ok-parts.ensures c.in_ok-built.ensures c.template.ensures
