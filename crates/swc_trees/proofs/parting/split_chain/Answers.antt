use Rattle.std.proofs.Common.{refl, ap, ◌∙◌}
use Rattle.swc_ast.specs.Tree.{node, cons, nil, opt_chain}
use Rattle.swc_ast.specs.{Parts.base_tree, TreeOf.boxed_tree}
use Rattle.swc_trees.proofs.Splits.{split-one, split-is}
use Rattle.swc_trees.proofs.parting.split_chain.Goals as goal

pub returns : goal.returns
returns g c = split-one (split-is c.split_base.ensures c.in_ok-base.ensures) refl
    (λ at e. ap (λ v. node (opt_chain c.args.chain.now.optional) c.args.chain.now.span (cons v nil))
    (e ∙ ap (base_tree (boxed_tree _ _ _ g.F.Spanned.place g.C.Spanned.place g.K.Spanned.place))
    c.deref_mut.ensures.value))
