use Rattle.swc_bodies.specs.Taking.{function_first}
use Rattle.swc_bodies.proofs.token_bodies.TokenBodiesBodies.fun.Goals as goal

pub returns-clause-faithful : goal.returns-clause-faithful
returns-clause-faithful g c = c.take_body.ensures.faithful function_first c.behind_current-first.ensures
