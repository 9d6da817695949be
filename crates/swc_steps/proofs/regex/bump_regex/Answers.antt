use Rattle.swc_input.specs.Plain.{plain}
use Rattle.swc_steps.specs.Regexes.{regex_in}
use Rattle.swc_steps.proofs.Regexes.{regex_takes}
use Rattle.swc_steps.proofs.Steps as s
use Rattle.swc_steps.proofs.regex.bump_regex.Goals as goal

pub returns-clause-heard : goal.returns-clause-heard
returns-clause-heard g c = λ sure.
    let took = c.bump-token.ensures in
    s.heard_took g.met.I.Tokens.laws took (λ x ts. regex_takes c.regex_of.result x (plain took.was) ts
    (s.at_was regex_in c.regex_of.result took c.prev_span-span.result c.prev_span-span.ensures c.regex_of.ensures))
