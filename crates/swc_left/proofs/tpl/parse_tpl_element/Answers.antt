use Rattle.std.proofs.Common.{Some, refl, sym, ap, ◌∙◌}
use Rattle.swc_input.specs.{Plain.plain, Kinds.at_token}
use Rattle.swc_grammar.specs.Tokens.{is_backquote}
use Rattle.swc_steps.proofs.Refused.{err_is}
use Rattle.swc_left.specs.Templates.{is_template, quasi_with, text_at, tpl_element}
use Rattle.swc_steps.proofs.Steps as s
use Rattle.swc_left.proofs.Templates as tpl
use Rattle.swc_left.proofs.tpl.parse_tpl_element.Goals as goal

pub returns-in_err-look-clause-parses : goal.returns-in_err-look-clause-parses
returns-in_err-look-clause-parses g c =
    λ sure. rw (err_is c.from_residual.ensures.1) (s.unheard_memory c.in_err-look.ensures.looks)

pub returns-then-not-is_template-clause-parses : goal.returns-then-not-is_template-clause-parses
returns-then-not-is_template-clause-parses g c = λ sure.
    s.unheard_at c.in_ok-look.ensures.looks (λ x ts same e. tpl.element_not c.args.is_tagged x ts
    (ap (at_token is_template) e ∙ sym c.is_template.ensures.value ∙ c.if-not-is_template.true))
    (c.unexpected.ensures.refuses (λ e. cc))

pub returns-in_err-cooked-clause-parses : goal.returns-in_err-cooked-clause-parses
returns-in_err-cooked-clause-parses g c =
    let took = c.bump-token.ensures in
    let text = c.template_of-raw.result in
    let bad = c.in_err-cooked.ensures.refused in
    λ sure. rw (err_is c.from_residual-in_err-cooked.ensures.1)
    (s.unheard_at c.in_ok-look.ensures.looks (λ x ts same e. tpl.element_bad c.args.is_tagged text.0 text.1 took
    c.template_of-raw.ensures c.in_err-cooked.ensures.bad x ts e)
    (tpl.refused_took g.met.I.Tokens.laws (c.is_template.ensures.some c.if-not-is_template.false) took
    (λ h. tpl.counted_apart bad.0.kind (ap (λ v. v.kind) (sym bad.2) ∙ h))))

pub returns-in_err-look-2-clause-parses : goal.returns-in_err-look-2-clause-parses
returns-in_err-look-2-clause-parses g c =
    let took = c.bump-token.ensures in
    λ sure. rw (err_is c.from_residual-in_err-look-2.ensures.1)
    (s.unheard_memory (s.forgoes_later (s.leads_then (s.here_leads c.in_ok-look.ensures.looks)
    (s.took_leads g.met.I.Tokens.laws took)) c.in_err-look-2.ensures.looks))

pub returns-clause-parses : goal.returns-clause-parses
returns-clause-parses g c = λ sure.
    let took = c.bump-token.ensures in
    let text = c.template_of-raw.result in
    let tail = c.is_sign-tail.result in
    s.heard_answer (ap (λ v. quasi_with v tail c.in_ok-cooked.cooked text.0)
    (sym (c.prev_span-span.ensures ∙ s.last_was took)))
    (s.heard_after (s.on_seen {f = tpl_element c.args.is_tagged} {g = tpl_element c.args.is_tagged}
    c.in_ok-look.ensures.looks (λ x ts same e. refl))
    (s.heard_first {g = λ x ts. text_at c.args.is_tagged (Some (plain took.was)) ts} g.met.I.Tokens.laws took
    (λ x ts. tpl.element_opens c.args.is_tagged (plain took.was) x ts)
    (s.on_seen c.in_ok-look-2.ensures.looks (λ x ts same e.
    tpl.element_takes c.args.is_tagged tail text.0 text.1 c.in_ok-cooked.cooked took c.template_of-raw.ensures
    c.in_ok-cooked.ensures.means ts (ap (at_token is_backquote) e ∙ sym c.is_sign-tail.ensures.value)))))
