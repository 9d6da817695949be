use Rattle.std.proofs.lemmas.Result.{err_from_is_err_and}
use Rattle.swc_input.specs.Buffer.{last_position}
use Rattle.swc_bodies.specs.Taking.{token_forms}
use Rattle.swc_bodies.proofs.Deferring.{put-faithful, none-faithful}
use Rattle.swc_bodies.proofs.deferred.DeferredBodiesBodies.class.Goals as goal

pub returns-in_err-body-clause-faithful : goal.returns-in_err-body-clause-faithful
returns-in_err-body-clause-faithful g c =
    let p = err_from_is_err_and c.from_residual.result c.from_residual.ensures.1 in rw (p.1, p.2)
    (none-faithful g.I.Tokens.model token_forms.class c.args.input.now c.class.new.input c.in_err-body.field-0.0
    c.in_err-body.ensures.faithful)

pub returns-clause-faithful : goal.returns-clause-faithful
returns-clause-faithful g c =
    put-faithful g.I.Tokens.model token_forms.class c.args.input.now c.class.new.input _
    (last_position c.class.new.input)
    c.keep.result c.in_ok-body.ensures.faithful c.keep.ensures.answer
