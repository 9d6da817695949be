use Rattle.std.proofs.Common.{refl}
use Rattle.swc_operators.proofs.InContext.{aside}
use Rattle.swc_productions.proofs.args.parse_key.Goals as goal

pub returns : goal.returns
returns g c =
    aside c.get_ctx.ensures c.prop_name_context-ctx.ensures.decides c.replace_ctx-before.ensures.before
    c.replace_ctx-before.ensures.moves c.replace_ctx-before.ensures.context c.parse_prop_name-read.ensures refl
    c.replace_ctx.ensures.moves c.replace_ctx.ensures.context
