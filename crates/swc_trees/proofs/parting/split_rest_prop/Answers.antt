use Rattle.std.proofs.Common.{refl, ap, ◌∙◌}
use Rattle.swc_ast.specs.Tree.{node, cons, nil, dots, rest}
use Rattle.swc_ast.specs.{Parts.leaf, TreeOf.pat_tree}
use Rattle.swc_trees.proofs.Splits.{split-one}
use Rattle.swc_trees.proofs.parting.split_rest_prop.Goals as goal

pub returns : goal.returns
returns g c = split-one c.in_ok-place_pat.ensures refl
    (λ at e. ap (λ v. node rest c.args.rest_pat.now.span (cons (leaf dots c.args.rest_pat.now.dot3_token) (cons v nil)))
    (e ∙ ap (pat_tree _ _ _ g.F.Spanned.place g.C.Spanned.place g.K.Spanned.place) c.deref_mut.ensures.value))
