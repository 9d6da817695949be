use Rattle.swc_input.specs.Buffer.{current}
use Rattle.swc_bodies.specs.Taking.{block_first}
use Rattle.swc_bodies.proofs.Steps.{begun-block}
use Rattle.swc_bodies.proofs.token_bodies.TokenBodiesBodies.block.Goals as goal

pub returns-clause-faithful : goal.returns-clause-faithful
returns-clause-faithful g c = c.take_body.ensures.faithful block_first
    (begun-block (current c.args.input.now) c.requires)
