use Rattle.std.proofs.Common.{◌∙◌, ap}
use Rattle.program_scopes.specs.Stacks.{since}
use Rattle.program_scopes.proofs.Opened.{against-parameter}
use Rattle.program_scopes.proofs.names.Names.var_of.Goals as goal

pub returns : goal.returns
returns c = λ ss are.
    c.since.ensures ∙ ap (since c.args.self.now.scope.vars) c.find.ensures ∙ against-parameter c.args.self.now c.args.name.now ss are
