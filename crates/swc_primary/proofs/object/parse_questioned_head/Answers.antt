use Rattle.std.proofs.Common.{refl}
use Rattle.swc_steps.proofs.Refused.{err_is}
use Rattle.swc_steps.proofs.Steps as s
use Rattle.swc_primary.proofs.object.parse_questioned_head.Goals as goal

pub returns-in_err-name-clause-parses : goal.returns-in_err-name-clause-parses
returns-in_err-name-clause-parses g c =
    λ sure. rw (err_is c.from_residual.ensures.1)
    (s.unheard_none (λ x ts. refl) (c.in_err-name.ensures.parses sure).refuses)

pub returns-in-Shorthand-clause-parses : goal.returns-in-Shorthand-clause-parses
returns-in-Shorthand-clause-parses g c = λ sure.
    s.heard_nothing (c.in_ok-name.ensures.parses sure) (s.here g.met.I.Tokens.laws _)

pub returns-in-Cover-clause-parses : goal.returns-in-Cover-clause-parses
returns-in-Cover-clause-parses g c = λ sure.
    s.heard_nothing (c.in_ok-name.ensures.parses sure) (s.here g.met.I.Tokens.laws _)

pub returns-in-Method-clause-parses : goal.returns-in-Method-clause-parses
returns-in-Method-clause-parses g c = λ sure.
    s.heard_nothing (c.in_ok-name.ensures.parses sure) (s.here g.met.I.Tokens.laws _)

pub returns-in_default-clause-parses : goal.returns-in_default-clause-parses
returns-in_default-clause-parses g c = λ sure.
    s.unheard_none (λ x ts. refl)
    (s.refuses_later (c.in_ok-name.ensures.parses sure).on.leads c.unfit_behind.ensures.refuses)
