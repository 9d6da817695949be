use Rattle.swc_steps.proofs.Regexes.{skips_slash}
use Rattle.swc_steps.proofs.tokens.skip_slash.Goals as goal

pub returns-clause-skips : goal.returns-clause-skips
returns-clause-skips g c =
    skips_slash g.met.I.Tokens.laws c.args.input.now c.skip.new.input c.set_next_regexp.new.self c.skip.ensures.took.0
    c.cur_span.result.lo
    c.skip.ensures.took.1 c.set_next_regexp.ensures.took c.set_next_regexp.ensures.rest c.set_next_regexp.ensures.state
