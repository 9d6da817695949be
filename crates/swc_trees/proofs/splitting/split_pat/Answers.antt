use Rattle.std.proofs.Common.{map, refl, sym, ap, ◌∙◌}
use Rattle.swc_ast.proofs.Equations.{array_pat_tree, object_pat_tree}
use Rattle.swc_ast.specs.Parts.{leaf, or_hole, binding_tree, rest_tree}
use Rattle.swc_ast.specs.Tree.{node, cons, nil, invalid, default, array, object, pat_expr, trees, span_of}
use Rattle.swc_ast.specs.TreeOf.{boxed_tree, pat_tree, pat_prop_tree}
use Rattle.swc_trees.proofs.Leaves.{ident_pat_tree, invalid_pat_tree, rest_pat_tree, default_tree, expr_pat_tree}
use Rattle.swc_trees.proofs.Splits.{split-none, split-one, split-tree, split-pattern}
use Rattle.swc_trees.proofs.Agreed.{read-two, read-three}
use Rattle.swc_trees.proofs.splitting.split_pat.Goals as goal

pub returns-in_ok-taken_binding-in-Ident : goal.returns-in_ok-taken_binding-in-Ident
returns-in_ok-taken_binding-in-Ident g c = split-none refl
    (λ at. record {
      stands = ap (λ v. binding_tree v) c.in_ok-taken_binding-in-Ident.ensures
          ∙ (ap (λ v0. binding_tree v0) c.in-Ident.b-is ∙ sym
          (ap (pat_tree _ _ _ g.F.Spanned.place g.C.Spanned.place g.K.Spanned.place) c.in-Ident.is
          ∙ ident_pat_tree _ _ _ g.F.Spanned.place g.C.Spanned.place g.K.Spanned.place c.in-Ident.b));
      view = refl;
    })

pub returns-in-Array : goal.returns-in-Array
returns-in-Array g c = split-tree (split-pattern c.split_array_pat.ensures)
    (read-two (λ v0 v1. node array v0
    (trees (map (or_hole (pat_tree _ _ _ g.F.Spanned.place g.C.Spanned.place g.K.Spanned.place)) v1.items)))
    c.in-Array.span-is c.in-Array.elems-is ∙ sym
    (ap (pat_tree _ _ _ g.F.Spanned.place g.C.Spanned.place g.K.Spanned.place) c.in-Array.is
    ∙ array_pat_tree _ _ _ g.F.Spanned.place g.C.Spanned.place g.K.Spanned.place c.in-Array.span c.in-Array.elems))

pub returns-in-Object : goal.returns-in-Object
returns-in-Object g c = split-tree (split-pattern c.split_object_pat.ensures)
    (read-two (λ v0 v1. node object v0
    (trees (map (pat_prop_tree _ _ _ g.F.Spanned.place g.C.Spanned.place g.K.Spanned.place) v1.items)))
    c.in-Object.span-is c.in-Object.props-is ∙ sym (ap
    (pat_tree _ _ _ g.F.Spanned.place g.C.Spanned.place g.K.Spanned.place) c.in-Object.is
    ∙ object_pat_tree _ _ _ g.F.Spanned.place g.C.Spanned.place g.K.Spanned.place c.in-Object.span c.in-Object.props))

pub returns-in-Rest : goal.returns-in-Rest
returns-in-Rest g c = split-tree c.split_rest.ensures (ap
    (λ v0. rest_tree (pat_tree _ _ _ g.F.Spanned.place g.C.Spanned.place g.K.Spanned.place) v0) c.in-Rest.r-is ∙ sym
    (ap (pat_tree _ _ _ g.F.Spanned.place g.C.Spanned.place g.K.Spanned.place) c.in-Rest.is
    ∙ rest_pat_tree _ _ _ g.F.Spanned.place g.C.Spanned.place g.K.Spanned.place c.in-Rest.r))

pub returns-in-Assign : goal.returns-in-Assign
returns-in-Assign g c = split-tree c.split_default.ensures
    (read-three (λ v0 v1 v2. node default v0
    (cons ((pat_tree _ _ _ g.F.Spanned.place g.C.Spanned.place g.K.Spanned.place) v1.value)
    (cons ((boxed_tree _ _ _ g.F.Spanned.place g.C.Spanned.place g.K.Spanned.place) v2) nil))) c.in-Assign.span-is
    c.in-Assign.left-is c.in-Assign.right-is ∙ sym (ap
    (pat_tree _ _ _ g.F.Spanned.place g.C.Spanned.place g.K.Spanned.place) c.in-Assign.is
    ∙ default_tree _ _ _ g.F.Spanned.place g.C.Spanned.place g.K.Spanned.place c.in-Assign.span c.in-Assign.left
    c.in-Assign.right))

pub returns-in_ok-place_expr-in-Expr : goal.returns-in_ok-place_expr-in-Expr
returns-in_ok-place_expr-in-Expr g c = split-one c.in_ok-place_expr-in-Expr.ensures refl
    (λ at e. record {
      stands = ap (λ v. node pat_expr (span_of v) (cons v nil)) e
          ∙ (ap (λ v0. node pat_expr
          (span_of ((boxed_tree _ _ _ g.F.Spanned.place g.C.Spanned.place g.K.Spanned.place) v0))
          (cons ((boxed_tree _ _ _ g.F.Spanned.place g.C.Spanned.place g.K.Spanned.place) v0) nil)) c.in-Expr.e-is ∙ sym
          (ap (pat_tree _ _ _ g.F.Spanned.place g.C.Spanned.place g.K.Spanned.place) c.in-Expr.is
          ∙ expr_pat_tree _ _ _ g.F.Spanned.place g.C.Spanned.place g.K.Spanned.place c.in-Expr.e));
      view = refl;
    })

pub returns-in-Invalid : goal.returns-in-Invalid
returns-in-Invalid g c = split-none refl (λ at. record {
  stands =
      ap (λ v0. leaf invalid v0.span) c.in-Invalid.i-is ∙ sym
      (ap (pat_tree _ _ _ g.F.Spanned.place g.C.Spanned.place g.K.Spanned.place) c.in-Invalid.is
      ∙ invalid_pat_tree _ _ _ g.F.Spanned.place g.C.Spanned.place g.K.Spanned.place c.in-Invalid.i);
  view = refl;
})
