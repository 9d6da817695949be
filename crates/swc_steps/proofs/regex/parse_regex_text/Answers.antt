use Rattle.std.proofs.Common.{ap, sym, ◌∙◌}
use Rattle.swc_input.specs.Kinds.{at_token}
use Rattle.swc_grammar.specs.Tokens.{is_slash, begins_regex}
use Rattle.swc_steps.proofs.Regexes.{begins_alone, text_alone}
use Rattle.swc_steps.proofs.Steps as s
use Rattle.swc_steps.proofs.regex.parse_regex_text.Goals as goal

pub bump_regex-requires : goal.bump_regex-requires
bump_regex-requires g c = begins_alone _ c.requires (sym c.is_slash.ensures.value ∙ c.if-is_slash.false)

pub returns-clause-parses : goal.returns-clause-parses
returns-clause-parses g c = λ sure.
    s.heard_after
    (s.on_seen (s.here_now g.met.I.Tokens.laws c.args.input.now (s.seen_some begins_regex c.args.input.now c.requires))
    (λ x ts same e. text_alone x ts (ap (at_token is_slash) e ∙ sym c.is_slash.ensures.value ∙ c.if-is_slash.false)))
    (c.bump_regex.ensures.heard sure)
