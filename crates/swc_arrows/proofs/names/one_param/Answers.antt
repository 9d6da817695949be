use Rattle.std.proofs.Common.{◌++◌, ◌∷◌, [], refl, ap, ◌∙◌}
use Rattle.swc_arrows.proofs.names.one_param.Goals as goal

pub returns : goal.returns
returns g c =
    (_, refl, refl, refl, refl, c.in_ok-add.ensures.added ∙ ap (λ v. v ++ c.args.param ∷ []) c.new-params.ensures.items)
