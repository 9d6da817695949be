use Rattle.std.proofs.Common.{◌∙◌, ap}
use Rattle.program_scopes.specs.Stacks.{since}
use Rattle.program_scopes.proofs.Layered.{last-found}
use Rattle.program_scopes.proofs.name_stack.NameStack.replace.Goals as goal

pub returns-clause-last : goal.returns-clause-last
returns-clause-last g c = c.since-before.ensures ∙ ap (since 0) c.find.ensures ∙ last-found c.args.name.now c.args.self.now
