use Rattle.std.proofs.Common.{refl, ap, ◌∙◌}
use Rattle.swc_ast.specs.{Parts.tpl_tree, Tree.node, Tree.tagged, TreeOf.boxed_tree}
use Rattle.swc_trees.proofs.{Agreed.two, Splits.split-two, Splits.split-is}
use Rattle.swc_trees.proofs.splitting.split_tagged.Goals as goal

pub returns : goal.returns
returns g c = split-two c.in_ok-tag.ensures (split-is c.split_tpl.ensures c.in_ok-tpl.ensures) refl
    (λ at e f. record {
      stands = ap (node tagged c.args.span)
          (two e (f ∙ ap (tpl_tree (boxed_tree _ _ _ g.F.Spanned.place g.C.Spanned.place g.K.Spanned.place))
          c.deref_mut.ensures.value));
      view = refl;
    })
