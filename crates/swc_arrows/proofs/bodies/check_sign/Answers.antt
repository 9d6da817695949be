use Rattle.std.proofs.Common.{sym, ap, ◌∙◌}
use Rattle.swc_input.specs.Kinds.{at_token}
use Rattle.swc_grammar.specs.Arrows.{is_sign}
use Rattle.swc_steps.proofs.Refused.{err_is}
use Rattle.swc_steps.proofs.Steps as s
use Rattle.swc_arrows.proofs.Dooms.{doomed_seen}
use Rattle.swc_arrows.proofs.Ends.{not_barred, no_sign_here, sign_barred}
use Rattle.swc_arrows.proofs.bodies.check_sign.Goals as goal

pub returns-then-not-bars-clause-checks : goal.returns-then-not-bars-clause-checks
returns-then-not-bars-clause-checks g c = λ sure.
    s.on_here g.met.I.Tokens.laws _ (λ x ts. not_barred c.args.bars x ts c.if-not-bars.true)

pub returns-then-not-branch-clause-checks : goal.returns-then-not-branch-clause-checks
returns-then-not-branch-clause-checks g c = λ sure.
    s.on_seen c.in_ok-is_at_sign.ensures.looks (λ x ts same e. no_sign_here c.args.bars x ts
    (ap (at_token is_sign) e ∙ sym c.in_ok-is_at_sign.ensures.value ∙ c.if-not-branch.true))

pub returns-in_err-is_at_sign-clause-checks : goal.returns-in_err-is_at_sign-clause-checks
returns-in_err-is_at_sign-clause-checks g c =
    λ sure. rw (err_is c.from_residual.ensures.1) (s.unheard_memory c.in_err-is_at_sign.ensures.looks)

pub returns-in_err-emit_err-clause-checks : goal.returns-in_err-emit_err-clause-checks
returns-in_err-emit_err-clause-checks g c =
    λ sure. rw (err_is c.from_residual-in_err-emit_err.ensures.1) (s.unheard_memory
    (s.forgoes_later (s.here_leads c.in_ok-is_at_sign.ensures.looks) c.in_err-emit_err.ensures.tries))

pub returns-clause-checks : goal.returns-clause-checks
returns-clause-checks g c = λ sure.
    doomed_seen c.in_ok-is_at_sign.ensures.looks (λ x ts same e. sign_barred c.args.bars x ts c.if-not-bars.false
    (ap (at_token is_sign) e ∙ sym c.in_ok-is_at_sign.ensures.value ∙ c.if-not-branch.false))
    c.in_ok-emit_err.ensures.tries c.in_ok-emit_err.ensures.notes
