use Rattle.std.proofs.Common.{refl, sym, ap, ◌∙◌}
use Rattle.swc_ast.proofs.Equations.{array_pat_tree, object_pat_tree}
use Rattle.swc_trees.proofs.Leaves.{ident_pat_tree, invalid_pat_tree, rest_pat_tree, default_tree, expr_pat_tree}
use Rattle.swc_trees.proofs.Assembled.{offers-is, offers-first, offers-second, made-none, made-one, made-two, made-is, ok-is, ok-of}
use Rattle.swc_trees.proofs.Agreed.{two}
use Rattle.swc_ast.specs.Tree.{array, object, dots, rest, default, pat_expr, span_of, node, nil, cons, trees}
use Rattle.swc_ast.specs.{Parts.leaf, TreeOf.boxed_tree}
use Rattle.swc_nodes.specs.NodeParts.{one_expr, part_parts}
use Rattle.swc_trees.proofs.assembling.assemble_pat.Goals as goal

pub returns-in-PatIdent : goal.returns-in-PatIdent
returns-in-PatIdent g c =
    made-is _ c.in-PatIdent.is (made-none (λ at. ident_pat_tree _ _ _ g.F.Spanned.place g.C.Spanned.place
    g.K.Spanned.place c.in-PatIdent.b))

pub returns-in_ok-elems-in-PatArray : goal.returns-in_ok-elems-in-PatArray
returns-in_ok-elems-in-PatArray g c =
    made-is _ c.in-PatArray.is (made-one c.in_ok-elems-in-PatArray.ensures
    (λ at e. array_pat_tree _ _ _ g.F.Spanned.place g.C.Spanned.place g.K.Spanned.place c.in-PatArray.span
    c.in_ok-elems-in-PatArray.elems ∙ ap (λ v. node array c.in-PatArray.span (trees v)) e))

pub returns-in_ok-props-in-PatObject : goal.returns-in_ok-props-in-PatObject
returns-in_ok-props-in-PatObject g c =
    made-is _ c.in-PatObject.is (made-one c.in_ok-props-in-PatObject.ensures
    (λ at e. object_pat_tree _ _ _ g.F.Spanned.place g.C.Spanned.place g.K.Spanned.place c.in-PatObject.span
    c.in_ok-props-in-PatObject.props ∙ ap (λ v. node object c.in-PatObject.span (trees v)) e))

pub returns-in_ok-arg-in-PatRest : goal.returns-in_ok-arg-in-PatRest
returns-in_ok-arg-in-PatRest g c =
    made-is _ c.in-PatRest.is (made-one c.in_ok-arg-in-PatRest.ensures
    (λ at e. rest_pat_tree _ _ _ g.F.Spanned.place g.C.Spanned.place g.K.Spanned.place
    (record { span = c.in-PatRest.span; dot3_token = c.in-PatRest.dot3_token; arg = c.in_ok-arg-in-PatRest.arg })
    ∙ ap (λ v. node rest c.in-PatRest.span (cons (leaf dots c.in-PatRest.dot3_token) (cons v nil))) e))

pub returns-in-PatExpr : goal.returns-in-PatExpr
returns-in-PatExpr g c =
    made-is _ c.in-PatExpr.is (made-one c.pop_expr.ensures
    (λ at e. expr_pat_tree _ _ _ g.F.Spanned.place g.C.Spanned.place g.K.Spanned.place c.pop_expr.result ∙ ap
    (λ v. node pat_expr (span_of v) (cons v nil)) e))

pub pop_expr-right-requires : goal.pop_expr-right-requires
pop_expr-right-requires g c =
    offers-second (part_parts c.in-PatAssign.left) (one_expr c.in-PatAssign.right)
    (offers-is c.in-PatAssign.is c.requires.offers)

pub boxed_part-left-requires : goal.boxed_part-left-requires
boxed_part-left-requires g c =
    offers-first (part_parts c.in-PatAssign.left) (one_expr c.in-PatAssign.right)
    (offers-is c.in-PatAssign.is c.requires.offers) c.pop_expr-right.ensures

pub returns-in_ok-left-in-PatAssign : goal.returns-in_ok-left-in-PatAssign
returns-in_ok-left-in-PatAssign g c =
    made-is _ c.in-PatAssign.is (made-two (part_parts c.in-PatAssign.left)
    (one_expr c.in-PatAssign.right) c.pop_expr-right.ensures
    (ok-of _ _ c.in_ok-left-in-PatAssign.left c.in_ok-left-in-PatAssign.ensures.0 c.boxed_part-left.ensures)
    (λ at e f. default_tree _ _ _ g.F.Spanned.place g.C.Spanned.place g.K.Spanned.place c.in-PatAssign.span
    c.in_ok-left-in-PatAssign.left c.in_ok-left-in-PatAssign.right ∙ ap (node default c.in-PatAssign.span)
    (two e (sym (ap (boxed_tree _ _ _ g.F.Spanned.place g.C.Spanned.place g.K.Spanned.place)
    (ok-is _ _ _ refl c.in_ok-left-in-PatAssign.ensures.1)) ∙ f))))

pub returns-in_default : goal.returns-in_default
returns-in_default g c =
    made-is _ (rw c.unwrap.ensures at c.into_invalid_pat.ensures) (made-none (λ at. invalid_pat_tree _ _ _
    g.F.Spanned.place g.C.Spanned.place g.K.Spanned.place c.unwrap.result))
