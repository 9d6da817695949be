use Rattle.std.proofs.Common.{◌∙◌, ap}
use Rattle.program_scopes.specs.Stacks.{since}
use Rattle.program_scopes.specs.Names.{blocks}
use Rattle.program_scopes.proofs.Opened.{against-var}
use Rattle.program_scopes.proofs.names.Names.against_var.Goals as goal

pub returns : goal.returns
returns c = λ ss are.
    c.blocks-2.ensures ∙ ap blocks (c.since.ensures ∙ ap (since c.args.self.now.scope.function) c.find.ensures) ∙ against-var c.args.self.now c.args.name.now ss are
