use Rattle.std.specs.Prelude.{[]}
use Rattle.std.proofs.Common.{ap, subst, ◌∙◌}
use Rattle.lower_rows.proofs.Bodies.{hinted}
use Rattle.lower_rows.proofs.hooks.fail.Goals as goal

pub returns : goal.returns
returns g c =
    let model = g.I.Tokens.model in
    let told = c.set_expr_allowed in
    let is = c.input.ensures.value in
    hinted model g.met.I.Tokens.laws c.args.input.now c.look_ahead.new.input told.new.self
    (subst (λ v. model.gives v [] told.new.self) is told.ensures.gave)
    (told.ensures.state ∙ ap (λ v. model.state v) is) c.look_ahead.ensures
