use Rattle.std.proofs.Common.{sym, ap, ◌∙◌}
use Rattle.swc_input.specs.Kinds.{at_token}
use Rattle.swc_steps.proofs.Refused.{err_is}
use Rattle.swc_steps.specs.Lists.{is_sign_token}
use Rattle.swc_steps.proofs.Lists.{closed_not, closed_here}
use Rattle.swc_steps.proofs.Steps as s
use Rattle.swc_steps.proofs.tokens.require_close.Goals as goal

pub returns-in_err-look-clause-closes : goal.returns-in_err-look-clause-closes
returns-in_err-look-clause-closes g c =
    λ sure. rw (err_is c.from_residual.ensures.1) (s.unheard_memory c.in_err-look.ensures.looks)

pub returns-then-not-is_sign-clause-closes : goal.returns-then-not-is_sign-clause-closes
returns-then-not-is_sign-clause-closes g c = λ sure.
    s.unheard_at c.in_ok-look.ensures.looks (λ x ts same e. closed_not (is_sign_token c.args.close) x ts
    (ap (at_token (is_sign_token c.args.close)) e ∙ sym c.is_sign.ensures.value ∙ c.if-not-is_sign.true))
    (c.unexpected.ensures.refuses (λ e. cc))

pub returns-clause-closes : goal.returns-clause-closes
returns-clause-closes g c = λ sure.
    s.on_seen c.in_ok-look.ensures.looks (λ x ts same e. closed_here (is_sign_token c.args.close) x ts
    (ap (at_token (is_sign_token c.args.close)) e ∙ sym c.is_sign.ensures.value ∙ c.if-not-is_sign.false))
