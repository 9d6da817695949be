use Rattle.std.proofs.Common.{ap}
use Rattle.swc_input.specs.Buffer.{source}
use Rattle.swc_input.proofs.buffer.Buffer.eat.Goals as goal

pub returns-then-here-clause-same : goal.returns-then-here-clause-same
returns-then-here-clause-same g c = (
  c.is-here.new.self,
  c.is-here.ensures.looked,
  ap (λ b. source b) c.bump.ensures.now,
)
