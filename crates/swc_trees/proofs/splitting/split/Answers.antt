use Rattle.std.proofs.Common.{sym, ap, ◌∙◌}
use Rattle.swc_ast.specs.TreeOf.{expr_tree, pat_tree, target_tree}
use Rattle.swc_trees.proofs.Splits.{split-view}
use Rattle.swc_trees.specs.{Building.built_tree, Splitting.built_view, Splitting.target_view}
use Rattle.swc_trees.proofs.splitting.split.Goals as goal

pub returns-in-Expr : goal.returns-in-Expr
returns-in-Expr g c = split-view c.split_expr.ensures (sym (ap built_view c.in-Expr.is))
    (ap (expr_tree _ _ _ g.F.Spanned.place g.C.Spanned.place g.K.Spanned.place)
    (c.deref_mut.ensures.value ∙ ap (λ v. v.value) c.in-Expr.expr-is) ∙ sym
    (ap (built_tree g.F.Spanned.place g.C.Spanned.place g.K.Spanned.place) c.in-Expr.is))

pub returns-in-Pat : goal.returns-in-Pat
returns-in-Pat g c = split-view c.split_pat.ensures (sym (ap built_view c.in-Pat.is))
    (ap (pat_tree _ _ _ g.F.Spanned.place g.C.Spanned.place g.K.Spanned.place) c.in-Pat.pat-is ∙ sym
    (ap (built_tree g.F.Spanned.place g.C.Spanned.place g.K.Spanned.place) c.in-Pat.is))

pub returns-in-Target : goal.returns-in-Target
returns-in-Target g c = split-view c.split_target.ensures
    (ap target_view c.in-Target.target-is ∙ sym (ap built_view c.in-Target.is))
    (ap (target_tree _ _ _ g.F.Spanned.place g.C.Spanned.place g.K.Spanned.place) c.in-Target.target-is ∙ sym
    (ap (built_tree g.F.Spanned.place g.C.Spanned.place g.K.Spanned.place) c.in-Target.is))
