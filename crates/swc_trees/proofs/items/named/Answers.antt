use Rattle.std.proofs.Common.{◌≡◌, IsOkAnd, sym, subst}
use Rattle.swc_ast.specs.TreeOf.{prop_tree, prop_or_spread_tree}
use Rattle.swc_ast.specs.declared.prop.PropOrSpread.TheVariants as item
use Rattle.swc_trees.proofs.Leaves.{prop_item_tree}
use Rattle.swc_trees.proofs.items.named.Goals as goal

pub returns : goal.returns
returns g c =
    let prop = prop_tree _ _ _ g.F.Spanned.place g.C.Spanned.place g.K.Spanned.place in
    let tree = prop_or_spread_tree _ _ _ g.F.Spanned.place g.C.Spanned.place g.K.Spanned.place
    (item.Prop c.in_ok-boxed.field-0) in
    subst (λ v. IsOkAnd v (λ p. tree ≡ prop p)) (sym c.in_ok-boxed.ensures)
    (prop_item_tree _ _ _ g.F.Spanned.place g.C.Spanned.place g.K.Spanned.place c.in_ok-boxed.field-0)
