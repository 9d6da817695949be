use Rattle.std.proofs.Common.{map, sym, ap, ◌∙◌}
use Rattle.swc_ast.proofs.Equations.{simple_target_tree, array_target_tree, object_target_tree}
use Rattle.swc_ast.specs.Parts.{or_hole, simple_tree}
use Rattle.swc_ast.specs.Tree.{node, array, object, trees}
use Rattle.swc_ast.specs.TreeOf.{boxed_tree, pat_tree, pat_prop_tree, target_tree}
use Rattle.swc_trees.proofs.Splits.{split-view, simple-view, array-view, object-view}
use Rattle.swc_trees.proofs.Agreed.{read-two}
use Rattle.swc_trees.specs.Splitting.{target_view}
use Rattle.swc_trees.proofs.splitting.split_target.Goals as goal

pub returns-in-Simple : goal.returns-in-Simple
returns-in-Simple g c = split-view c.split_simple.ensures
    (sym (ap target_view c.in-Simple.is ∙ simple-view c.in-Simple.s))
    (ap (λ v0. simple_tree (boxed_tree _ _ _ g.F.Spanned.place g.C.Spanned.place g.K.Spanned.place) v0) c.in-Simple.s-is
    ∙ sym (ap (target_tree _ _ _ g.F.Spanned.place g.C.Spanned.place g.K.Spanned.place) c.in-Simple.is
    ∙ simple_target_tree _ _ _ g.F.Spanned.place g.C.Spanned.place g.K.Spanned.place c.in-Simple.s))

pub returns-in-Array : goal.returns-in-Array
returns-in-Array g c = split-view c.split_array_pat.ensures
    (sym (ap target_view c.in-Array.is ∙ array-view c.in-Array.span c.in-Array.elems))
    (read-two (λ v0 v1. node array v0
    (trees (map (or_hole (pat_tree _ _ _ g.F.Spanned.place g.C.Spanned.place g.K.Spanned.place)) v1.items)))
    c.in-Array.span-is c.in-Array.elems-is ∙ sym
    (ap (target_tree _ _ _ g.F.Spanned.place g.C.Spanned.place g.K.Spanned.place) c.in-Array.is
    ∙ array_target_tree _ _ _ g.F.Spanned.place g.C.Spanned.place g.K.Spanned.place c.in-Array.span c.in-Array.elems))

pub returns-in-Object : goal.returns-in-Object
returns-in-Object g c = split-view c.split_object_pat.ensures
    (sym (ap target_view c.in-Object.is ∙ object-view c.in-Object.span c.in-Object.props))
    (read-two (λ v0 v1. node object v0
    (trees (map (pat_prop_tree _ _ _ g.F.Spanned.place g.C.Spanned.place g.K.Spanned.place) v1.items)))
    c.in-Object.span-is c.in-Object.props-is ∙ sym (ap
    (target_tree _ _ _ g.F.Spanned.place g.C.Spanned.place g.K.Spanned.place) c.in-Object.is
    ∙ object_target_tree _ _ _ g.F.Spanned.place g.C.Spanned.place g.K.Spanned.place c.in-Object.span
    c.in-Object.props))
