use Rattle.swc_input.specs.Buffer.{current}
use Rattle.swc_bodies.specs.Taking.{class_first}
use Rattle.swc_bodies.proofs.Steps.{begun-class}
use Rattle.swc_bodies.proofs.token_bodies.TokenBodiesBodies.class.Goals as goal

pub returns-clause-faithful : goal.returns-clause-faithful
returns-clause-faithful g c = c.take_body.ensures.faithful class_first
    (begun-class (current c.args.input.now) c.requires)
