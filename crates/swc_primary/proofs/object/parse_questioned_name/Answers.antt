use Rattle.std.proofs.Common.{refl}
use Rattle.swc_steps.proofs.Refused.{err_is}
use Rattle.swc_steps.proofs.Naming.{name_read, name_unread}
use Rattle.swc_steps.proofs.Steps as s
use Rattle.swc_primary.proofs.object.parse_questioned_name.Goals as goal

pub returns-in_err-name-clause-parses : goal.returns-in_err-name-clause-parses
returns-in_err-name-clause-parses g c =
    λ sure. rw (err_is c.from_residual.ensures.1)
    (s.unheard_none (λ x ts. refl) (name_unread {sure = sure} g.met.I.Tokens.laws c.in_err-name.ensures.names).refuses)

pub returns-in_err-question-clause-parses : goal.returns-in_err-question-clause-parses
returns-in_err-question-clause-parses g c =
    λ sure. rw (err_is c.from_residual-in_err-question.ensures.1) (s.unheard_none (λ x ts. refl)
    (s.refuses_later (name_read {sure = sure} g.met.I.Tokens.laws c.in_ok-name.ensures.names).on.leads
    (c.in_err-question.ensures.expects sure).refuses))

pub returns-in_err-emit_err-clause-parses : goal.returns-in_err-emit_err-clause-parses
returns-in_err-emit_err-clause-parses g c =
    λ sure. rw (err_is c.from_residual-in_err-emit_err.ensures.1) (s.unheard_memory (s.forgoes_later
    (s.leads_then (name_read {sure = sure} g.met.I.Tokens.laws c.in_ok-name.ensures.names).on.leads
    (c.in_ok-question.ensures.expects sure).on.leads)
    c.in_err-emit_err.ensures.tries))

pub returns-clause-parses : goal.returns-clause-parses
returns-clause-parses g c = λ sure.
    let name = name_read {sure = sure} g.met.I.Tokens.laws c.in_ok-name.ensures.names in
    let question = c.in_ok-question.ensures.expects sure in
    s.heard_noted (s.leads_then name.on.leads question.on.leads)
    (s.longer name.on.leads question.on.leads name.onward) c.in_ok-emit_err.ensures.tries
    c.in_ok-emit_err.ensures.notes
