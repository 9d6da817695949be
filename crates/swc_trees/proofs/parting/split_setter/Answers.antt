use Rattle.std.proofs.Common.{refl, ap, ◌∙◌}
use Rattle.swc_ast.specs.Tree.{node, cons, nil, block, setter}
use Rattle.swc_ast.specs.{Parts.leaf, TreeOf.pat_tree}
use Rattle.swc_trees.proofs.{Splits.split-two, Agreed.read-two}
use Rattle.swc_trees.proofs.parting.split_setter.Goals as goal

pub returns : goal.returns
returns g c = split-two c.in_ok-key.ensures c.in_ok-param.ensures refl
    (λ at e f. read-two (λ k v. node setter c.args.span
    (cons k (cons v (cons (leaf (block c.args.body) (g.K.Spanned.place c.args.body)) nil)))) e
    (f ∙ ap (pat_tree _ _ _ g.F.Spanned.place g.C.Spanned.place g.K.Spanned.place) c.deref_mut.ensures.value))
