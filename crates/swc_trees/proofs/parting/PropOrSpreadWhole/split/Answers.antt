use Rattle.std.proofs.Common.{sym, ap, ◌∙◌}
use Rattle.swc_ast.specs.Parts.{spread_tree}
use Rattle.swc_ast.specs.TreeOf.{boxed_tree, prop_tree, prop_or_spread_tree}
use Rattle.swc_trees.proofs.{Leaves.spread_item_tree, Leaves.prop_item_tree, Splits.split-eq}
use Rattle.swc_trees.proofs.parting.PropOrSpreadWhole.split.Goals as goal

pub returns-in-Spread : goal.returns-in-Spread
returns-in-Spread g c = split-eq c.split_spread.ensures
    (ap (λ v0. spread_tree (boxed_tree _ _ _ g.F.Spanned.place g.C.Spanned.place g.K.Spanned.place) v0)
    c.in-Spread.spread-is ∙ sym (ap (prop_or_spread_tree _ _ _ g.F.Spanned.place g.C.Spanned.place g.K.Spanned.place)
    c.in-Spread.is ∙ spread_item_tree _ _ _ g.F.Spanned.place g.C.Spanned.place g.K.Spanned.place c.in-Spread.spread))

pub returns-in-Prop : goal.returns-in-Prop
returns-in-Prop g c = split-eq c.split_named.ensures (ap
    (prop_tree _ _ _ g.F.Spanned.place g.C.Spanned.place g.K.Spanned.place)
    (c.deref_mut.ensures.value ∙ ap (λ v. v.value) c.in-Prop.prop-is) ∙ sym
    (ap (prop_or_spread_tree _ _ _ g.F.Spanned.place g.C.Spanned.place g.K.Spanned.place) c.in-Prop.is
    ∙ prop_item_tree _ _ _ g.F.Spanned.place g.C.Spanned.place g.K.Spanned.place c.in-Prop.prop))
