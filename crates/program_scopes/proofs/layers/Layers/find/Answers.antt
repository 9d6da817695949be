use Rattle.std.proofs.Common.{◌∙◌, ap}
use Rattle.program_scopes.specs.Stacks.{since}
use Rattle.program_scopes.proofs.Layered.{top-of}
use Rattle.program_scopes.proofs.layers.Layers.find.Goals as goal

pub returns : goal.returns
returns g c = λ ls are. c.since.ensures ∙ ap (since c.args.self.now.under) c.find.ensures ∙ top-of c.args.self.now c.args.name.now ls are
