use Rattle.std.proofs.Common.{refl, ap, ◌∙◌}
use Rattle.swc_ast.specs.Tree.{node, cons, block, function, trees}
use Rattle.swc_ast.specs.{Parts.leaf, Parts.function_tree, TreeOf.pat_tree}
use Rattle.swc_trees.proofs.Splits.{split-one}
use Rattle.swc_trees.proofs.parting.split_function.Goals as goal

pub returns : goal.returns
returns g c = split-one c.in_ok-params.ensures refl (λ at e. (
  ap (λ v. node (function c.into_inner-params.result.is_async c.into_inner-params.result.is_generator)
      c.into_inner-params.result.span (cons (leaf (block c.into_inner-params.result.body)
      (g.K.Spanned.place c.into_inner-params.result.body)) (trees v))) e ∙ ap
      (function_tree g.K.Spanned.place (pat_tree _ _ _ g.F.Spanned.place g.C.Spanned.place g.K.Spanned.place))
      c.into_inner-params.ensures,
  ap (λ v. v.span) c.into_inner-params.ensures,
))
