use Rattle.std.proofs.Common.{sym, ◌∙◌}
use Rattle.swc_steps.proofs.Refused.{err_is}
use Rattle.swc_steps.proofs.Steps as s
use Rattle.swc_primary.proofs.PrivateNames.{in_goes, in_of, in_stops, not_in}
use Rattle.swc_primary.proofs.primary.check_before_in.Goals as goal

pub returns-in_err-look-clause-checks : goal.returns-in_err-look-clause-checks
returns-in_err-look-clause-checks g c =
    λ sure. rw (err_is c.from_residual.ensures.1) (s.unheard_memory c.in_err-look.ensures.looks)

pub returns-then-is_in_operator-clause-checks : goal.returns-then-is_in_operator-clause-checks
returns-then-is_in_operator-clause-checks g c = λ sure.
    s.on_seen c.in_ok-look.ensures.looks (λ x ts same e. in_goes x ts
    (in_of ts same e ∙ sym c.is_in_operator.ensures ∙ c.if-is_in_operator.true))

pub returns-clause-checks : goal.returns-clause-checks
returns-clause-checks g c = λ sure.
    not_in (λ u. u) c.emit_lone_private.result _
    (s.on_seen c.in_ok-look.ensures.looks (λ x ts same e. in_stops x ts
    (in_of ts same e ∙ sym c.is_in_operator.ensures ∙ c.if-is_in_operator.false)))
    c.emit_lone_private.ensures.checks
