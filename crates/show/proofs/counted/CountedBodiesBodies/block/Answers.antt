use Rattle.swc_bodies.specs.Taking.{token_forms}
use Rattle.show.proofs.Counting.{counted_faithful}
use Rattle.show.proofs.counted.CountedBodiesBodies.block.Goals as goal

pub returns-clause-faithful : goal.returns-clause-faithful
returns-clause-faithful g c =
    rw c.count.ensures
    (counted_faithful g.I.Tokens.model token_forms.block c.args.input.now c.block.new.input c.block.result
    c.block.ensures.faithful)
