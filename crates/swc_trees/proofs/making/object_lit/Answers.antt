use Rattle.std.proofs.Common.{◌≡◌, map}
use Rattle.swc_ast.specs.Tree.{object, node, trees}
use Rattle.swc_ast.specs.TreeOf.{expr_tree, prop_or_spread_tree}
use Rattle.swc_ast.proofs.Equations.{object_tree}
use Rattle.swc_trees.proofs.Assembled.{if-boxed}
use Rattle.swc_trees.proofs.making.object_lit.Goals as goal

pub returns : goal.returns
returns g c =
    if-boxed (λ y. expr_tree _ _ _ g.F.Spanned.place g.C.Spanned.place g.K.Spanned.place y ≡ node object c.args.span
    (trees (map (prop_or_spread_tree _ _ _ g.F.Spanned.place g.C.Spanned.place g.K.Spanned.place)
    c.args.props.items)))
    _ c.boxed.result c.boxed.ensures (object_tree _ _ _ g.F.Spanned.place g.C.Spanned.place g.K.Spanned.place
    c.args.span c.args.props)
