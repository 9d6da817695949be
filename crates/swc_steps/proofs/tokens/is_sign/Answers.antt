use Rattle.std.proofs.Common.{sym, ap, ◌∙◌}
use Rattle.std.specs.Option.{option_copied}
use Rattle.swc_input.specs.Buffer.{current}
use Rattle.swc_steps.proofs.Signs.{sign_seen}
use Rattle.swc_steps.proofs.tokens.is_sign.Goals as goal

pub returns-in-Some-clause-value : goal.returns-in-Some-clause-value
returns-in-Some-clause-value g c =
    sign_seen c.args.sign (current c.args.input.now) c.in-Some.token.now c.spells.result
    (sym (ap option_copied c.in-Some.is) ∙ c.cur_debug.ensures) c.spells.ensures
