use Rattle.std.proofs.Common.{refl, ap, ◌∙◌}
use Rattle.swc_ast.specs.{Tree.node, Tree.default, TreeOf.pat_tree}
use Rattle.swc_trees.proofs.{Agreed.two, Splits.split-two}
use Rattle.swc_trees.proofs.splitting.split_default.Goals as goal

pub returns : goal.returns
returns g c = split-two c.in_ok-place_pat.ensures c.in_ok-right.ensures refl
    (λ at e f. record {
      stands = ap (node default c.args.span)
          (two (e ∙ ap (pat_tree _ _ _ g.F.Spanned.place g.C.Spanned.place g.K.Spanned.place)
          c.deref_mut.ensures.value) f);
      view = refl;
    })
