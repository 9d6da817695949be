use Rattle.std.proofs.Common.{sym, ap, ◌∙◌}
use Rattle.swc_input.specs.Kinds.{at_token}
use Rattle.swc_grammar.specs.Tokens.{is_rparen, import_comma_ok}
use Rattle.swc_steps.proofs.Refused.{err_is}
use Rattle.swc_steps.proofs.Args.{last_not, last_allowed, last_refused}
use Rattle.swc_steps.proofs.Steps as s
use Rattle.swc_left.proofs.args.refuse_last_comma.Goals as goal

pub returns-in_err-look-clause-passes : goal.returns-in_err-look-clause-passes
returns-in_err-look-clause-passes g c =
    λ sure. rw (err_is c.from_residual.ensures.1) (s.unheard_memory c.in_err-look.ensures.looks)

pub returns-then-not-is_sign-clause-passes : goal.returns-then-not-is_sign-clause-passes
returns-then-not-is_sign-clause-passes g c = λ sure.
    s.on_seen c.in_ok-look.ensures.looks (λ x ts same e. last_not x ts
    (ap (at_token is_rparen) e ∙ sym c.is_sign.ensures.value ∙ c.if-not-is_sign.true))

pub returns-then-import_comma_allowed-clause-passes : goal.returns-then-import_comma_allowed-clause-passes
returns-then-import_comma_allowed-clause-passes g c = λ sure.
    s.on_seen c.in_ok-look.ensures.looks (λ x ts same e. last_allowed x ts
    (ap import_comma_ok same ∙ sym c.import_comma_allowed.ensures ∙ c.if-import_comma_allowed.true))

pub returns-clause-passes : goal.returns-clause-passes
returns-clause-passes g c = λ sure.
    s.unheard_at c.in_ok-look.ensures.looks (λ x ts same e. last_refused x ts
    (ap (at_token is_rparen) e ∙ sym c.is_sign.ensures.value ∙ c.if-not-is_sign.false)
    (ap import_comma_ok same ∙ sym c.import_comma_allowed.ensures ∙ c.if-import_comma_allowed.false))
    (c.syntax_error.ensures.refuses (λ e. cc))
