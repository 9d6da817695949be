use Rattle.std.proofs.Common.{refl}
use Rattle.swc_steps.proofs.Refused.{err_is}
use Rattle.swc_steps.proofs.Steps as s
use Rattle.swc_primary.proofs.object.parse_questioned.Goals as goal

pub returns-in_err-name-clause-parses : goal.returns-in_err-name-clause-parses
returns-in_err-name-clause-parses g c =
    λ sure. rw (err_is c.from_residual.ensures.1)
    (s.unheard_none (λ x ts. refl) (c.in_err-name.ensures.parses sure).refuses)

pub returns-in_err-look-clause-parses : goal.returns-in_err-look-clause-parses
returns-in_err-look-clause-parses g c =
    λ sure. rw (err_is c.from_residual-in_err-look.ensures.1)
    (s.unheard_memory (s.forgoes_later (c.in_ok-name.ensures.parses sure).on.leads c.in_err-look.ensures.looks))

pub returns-in_err-check_questioned-clause-parses : goal.returns-in_err-check_questioned-clause-parses
returns-in_err-check_questioned-clause-parses g c =
    λ sure. rw (err_is c.from_residual-in_err-check_questioned.ensures.1) (s.unheard_memory (s.forgoes_later
    (s.leads_then (c.in_ok-name.ensures.parses sure).on.leads (s.here_leads c.in_ok-look.ensures.looks))
    c.in_err-check_questioned.ensures.tries))

pub returns-in_err-eat_questioned-clause-parses : goal.returns-in_err-eat_questioned-clause-parses
returns-in_err-eat_questioned-clause-parses g c =
    λ sure. rw (err_is c.from_residual-in_err-eat_questioned.ensures.1) (s.unheard_none (λ x ts. refl) (s.refuses_later
    (s.leads_then (c.in_ok-name.ensures.parses sure).on.leads
    (s.leads_then (s.here_leads c.in_ok-look.ensures.looks) c.in_ok-check_questioned.ensures.tries))
    c.in_err-eat_questioned.ensures.acts))

pub returns-clause-parses : goal.returns-clause-parses
returns-clause-parses g c = λ sure.
    s.heard_nothing (c.in_ok-name.ensures.parses sure)
    (s.leads_then (s.here_leads c.in_ok-look.ensures.looks)
    (s.leads_then c.in_ok-check_questioned.ensures.tries c.in_ok-eat_questioned.ensures.acts))
