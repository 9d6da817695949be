use Rattle.std.proofs.Common.{◌≡◌, map, ap}
use Rattle.swc_ast.specs.Tree.{trees, node, args, no_span}
use Rattle.swc_ast.specs.{Parts.item_tree, Parts.args_tree, TreeOf.boxed_tree}
use Rattle.swc_nodes.specs.{NodeTree.expr_of, NodeParts.args_parts, GrowingNodes.bare_at}
use Rattle.swc_trees.proofs.Rebuilt.{left-none, left-piece, piece-offered, piece-made, if_ok-as}
use Rattle.swc_trees.proofs.taking.take_args.Goals as goal

pub returns-in_err-parts-clause-left : goal.returns-in_err-parts-clause-left
returns-in_err-parts-clause-left g c = left-none (args_parts c.args.args) c.requires

pub returns-in_err-built-clause-left : goal.returns-in_err-built-clause-left
returns-in_err-built-clause-left g c = left-piece c.in_ok-parts.ensures c.take_all.ensures.left

pub all-requires : goal.all-requires
all-requires g c = piece-offered (args_parts c.args.args) c.in_ok-parts.ensures c.in_ok-built.ensures

pub returns-clause-left : goal.returns-clause-left
returns-clause-left g c = left-piece c.in_ok-parts.ensures c.in_ok-built.ensures.left

pub returns-clause-moved : goal.returns-clause-moved
returns-clause-moved g c =
    let boxed = boxed_tree _ _ _ g.F.Spanned.place g.C.Spanned.place g.K.Spanned.place in
    let of = expr_of g.F.Spanned.place g.C.Spanned.place g.K.Spanned.place (bare_at c.args.nodes.now) in
    if_ok-as (λ ys. map (item_tree boxed) ys.items ≡ map (item_tree of) c.args.args.items)
    (λ ys. args_tree boxed ys ≡ args_tree of c.args.args) c.all.result
    (λ ys e. ap (λ ts. node args no_span (trees ts)) e)
    (piece-made (λ at ys. map (item_tree boxed) ys.items ≡ map
    (item_tree (expr_of g.F.Spanned.place g.C.Spanned.place g.K.Spanned.place at)) c.args.args.items)
    (args_parts c.args.args) _ c.all.result c.in_ok-parts.ensures c.in_ok-built.ensures c.all.ensures)
