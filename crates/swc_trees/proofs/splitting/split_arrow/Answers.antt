use Rattle.std.proofs.Common.{refl, ap, ◌∙◌}
use Rattle.swc_ast.specs.{Parts.body_tree, Tree.node, Tree.arrow, TreeOf.boxed_tree}
use Rattle.swc_trees.proofs.{Agreed.headed, Splits.split-two, Splits.split-is}
use Rattle.swc_trees.proofs.splitting.split_arrow.Goals as goal

pub returns : goal.returns
returns g c = split-two c.in_ok-params.ensures (split-is c.split_body.ensures c.in_ok-body.ensures) refl
    (λ at e f. record {
      stands = ap (node (arrow c.args.is_async) c.args.span)
          (headed (f ∙ ap (body_tree g.K.Spanned.place (boxed_tree _ _ _ g.F.Spanned.place g.C.Spanned.place
          g.K.Spanned.place)) c.into_inner.ensures) e);
      view = refl;
    })
