use Rattle.std.proofs.Common.{true, ap, sym}
use Rattle.swc_steps.proofs.Refused.{err_is}
use Rattle.swc_steps.specs.Parsing.{private_spelling}
use Rattle.swc_steps.proofs.PrivateNames.{heard_private, unheard_private}
use Rattle.swc_steps.proofs.Steps as s
use Rattle.swc_steps.proofs.tokens.parse_private_name.Goals as goal

pub returns-in_err-name-clause-parses : goal.returns-in_err-name-clause-parses
returns-in_err-name-clause-parses g c =
    λ sure. rw (err_is c.from_residual.ensures.1) (unheard_private g.met.I.Tokens.laws c.in_err-name.ensures.private)

pub returns-clause-parses : goal.returns-clause-parses
returns-clause-parses g c = λ sure.
    s.heard_answer (ap (λ v. (private_spelling c.in_ok-name.name, v)) (sym c.last_pos-end.ensures))
    (heard_private g.met.I.Tokens.laws c.in_ok-name.ensures.private)

pub returns-clause-falls : goal.returns-clause-falls
returns-clause-falls g c =
    let h = returns-clause-parses g c true in s.lower (record { leads = h.on.leads; onward = h.onward })
