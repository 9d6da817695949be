use Rattle.std.specs.Prelude.{None}
use Rattle.swc_steps.proofs.Regexes.{unhinted, hinted_lives}
use Rattle.swc_steps.proofs.tokens.end_hint.Goals as goal

pub returns-clause-still : goal.returns-clause-still
returns-clause-still g c =
    unhinted c.args.input.now c.set_next_regexp.new.self c.set_next_regexp.ensures.took c.set_next_regexp.ensures.rest
    c.set_next_regexp.ensures.state

pub returns-clause-lives : goal.returns-clause-lives
returns-clause-lives g c = hinted_lives g.I.Tokens.model c.args.input.now c.set_next_regexp.new.self None
    c.set_next_regexp.ensures.state
