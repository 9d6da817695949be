use Rattle.std.proofs.Common.{refl, ap, sym, ◌∙◌}
use Rattle.swc_input.specs.{Plain.plain, Kinds.at_token}
use Rattle.swc_steps.proofs.Refused.{err_is}
use Rattle.swc_steps.specs.Regexes.{regex_tail}
use Rattle.swc_grammar.specs.Tokens.{is_slash, is_regex}
use Rattle.swc_steps.proofs.Regexes.{on_slash, on_still, slash_was, text_opens, tail_not, tail_splits}
use Rattle.swc_steps.proofs.Rules.{passes_plain}
use Rattle.swc_steps.proofs.Steps as s
use Rattle.swc_steps.proofs.regex.parse_slash_regex.Goals as goal

pub returns-in_err-look-clause-parses : goal.returns-in_err-look-clause-parses
returns-in_err-look-clause-parses g c =
    let slash = c.skip_slash.ensures.skips in
    λ sure. rw (err_is c.from_residual.ensures.1) (s.unheard_after
    (on_slash {g = regex_tail slash.was.span} g.met.I.Tokens.laws slash
    (λ x ts. text_opens (plain slash.was) x ts (passes_plain is_slash _ slash.was slash.current c.requires)))
    (s.unheard_memory c.in_err-look.ensures.looks))

pub returns-then-not-is_regex-clause-parses : goal.returns-then-not-is_regex-clause-parses
returns-then-not-is_regex-clause-parses g c = λ sure.
    let slash = c.skip_slash.ensures.skips in
    s.unheard_after
    (on_slash {g = regex_tail slash.was.span} g.met.I.Tokens.laws slash
    (λ x ts. text_opens (plain slash.was) x ts (passes_plain is_slash _ slash.was slash.current c.requires)))
    (s.unheard_at c.in_ok-look.ensures.looks
    (λ x ts same e. tail_not slash.was.span x ts (ap (at_token is_regex) e ∙ sym c.is_regex.ensures.value
    ∙ c.if-not-is_regex.true))
    (c.syntax_error.ensures.refuses (λ e. cc)))

pub returns-clause-parses : goal.returns-clause-parses
returns-clause-parses g c = λ sure.
    let slash = c.skip_slash.ensures.skips in
    let at = slash_was slash c.cur_span-slash.result _ c.cur_span-slash.ensures in
    s.heard_answer (sym (c.from_slash.ensures slash.was.span (ap (λ v. v.lo) (sym at))))
    (s.heard_after
    (on_slash {g = regex_tail slash.was.span} g.met.I.Tokens.laws slash
    (λ x ts. text_opens (plain slash.was) x ts (passes_plain is_slash _ slash.was slash.current c.requires)))
    (s.heard_after
    (s.on_seen {f = regex_tail slash.was.span} {g = regex_tail slash.was.span} c.in_ok-look.ensures.looks
    (λ x ts same e. refl))
    (s.heard_after
    (on_still {f = regex_tail slash.was.span} g.met.I.Tokens.laws c.end_hint.ensures.still c.end_hint.ensures.lives)
    (s.heard_call _ (tail_splits slash.was.span) (λ x ts. refl)
    (c.bump_regex-regex.ensures.heard sure)))))
