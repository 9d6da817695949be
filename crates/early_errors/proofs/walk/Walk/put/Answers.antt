use Rattle.std.proofs.Common.{ap, ◌∙◌}
use Rattle.early_errors.specs.Strictness.{codes_of}
use Rattle.early_errors.proofs.Codes.{one-more}
use Rattle.early_errors.proofs.walk.Walk.put.Goals as goal

pub returns-clause-tasks : goal.returns-clause-tasks
returns-clause-tasks c = ap codes_of c.in_ok-push.ensures.items ∙ one-more c.args.self.now.tasks.items c.args.task
