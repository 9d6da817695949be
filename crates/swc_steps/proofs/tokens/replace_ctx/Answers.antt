use Rattle.swc_steps.proofs.Steps.{moved}
use Rattle.swc_steps.proofs.tokens.replace_ctx.Goals as goal

pub returns-clause-moves : goal.returns-clause-moves
returns-clause-moves g c = moved g.met.I.Tokens.laws
    c.args.input.now c.set_ctx.new.self c.args.ctx c.set_ctx.result c.is_err.result c.is_err.ensures.value
    c.if-is_err.false c.requires c.set_ctx.ensures.took c.set_ctx.ensures.rest c.set_ctx.ensures.set
