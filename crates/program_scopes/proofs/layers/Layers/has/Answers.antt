use Rattle.std.proofs.Common.{◌∙◌, ap}
use Rattle.std.specs.Prelude.{is_some}
use Rattle.program_scopes.proofs.Layered.{any-in}
use Rattle.program_scopes.proofs.layers.Layers.has.Goals as goal

pub returns : goal.returns
returns g c = λ ls are. c.is_some.ensures ∙ ap is_some c.find.ensures ∙ any-in c.args.self.now c.args.name.now ls are
