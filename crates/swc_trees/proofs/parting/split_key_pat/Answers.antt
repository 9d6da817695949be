use Rattle.std.proofs.Common.{refl, ap, ◌∙◌}
use Rattle.swc_ast.specs.{Tree.node, Tree.key_value, TreeOf.pat_tree}
use Rattle.swc_trees.proofs.{Agreed.two, Splits.split-two}
use Rattle.swc_trees.proofs.parting.split_key_pat.Goals as goal

pub returns : goal.returns
returns g c = split-two c.in_ok-key.ensures c.in_ok-place_pat.ensures refl
    (λ at e f. ap (node key_value c.args.span)
    (two e (f ∙ ap (pat_tree _ _ _ g.F.Spanned.place g.C.Spanned.place g.K.Spanned.place) c.deref_mut.ensures.value)))
