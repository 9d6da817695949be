use Rattle.std.proofs.Common.{not, sym, ap, ◌∙◌}
use Rattle.swc_input.specs.Kinds.{at_token}
use Rattle.swc_grammar.specs.Tokens.{is_rparen}
use Rattle.swc_steps.proofs.Refused.{err_is}
use Rattle.swc_steps.specs.Parsing.{seen_of}
use Rattle.swc_steps.proofs.Steps as s
use Rattle.swc_patterns.specs.Rests.{stage_of, has_comma}
use Rattle.swc_patterns.proofs.FormalParams.{next_param_none, next_param_closed, next_param_goes, closed_well, closed_ill}
use Rattle.swc_patterns.proofs.params.next_param.Goals as goal

pub returns-then-not-branch-clause-next : goal.returns-then-not-branch-clause-next
returns-then-not-branch-clause-next g c = λ sure.
    s.on_seen c.in_ok-look.ensures.looks (λ x ts same e. next_param_none (stage_of c.args.rest) x ts
    (e ∙ ap seen_of (c.in_ok-look.ensures.end c.if-not-branch.true).0))

pub returns-then-not-is_sign-clause-next : goal.returns-then-not-is_sign-clause-next
returns-then-not-is_sign-clause-next g c = λ sure.
    s.continues_after g.I.Tokens.model sure (λ n. n) _ _ c.param_head.result
    (s.on_seen c.in_ok-look.ensures.looks (λ x ts same e. next_param_goes (stage_of c.args.rest) x ts _
    (c.in_ok-look.ensures.token c.if-not-branch.false) e
    (ap (at_token is_rparen) e ∙ sym c.is_sign.ensures.value ∙ c.if-not-is_sign.true)))
    (c.param_head.ensures.next sure)

pub returns-in_err-check_comma-clause-next : goal.returns-in_err-check_comma-clause-next
returns-in_err-check_comma-clause-next g c =
    λ sure. rw (err_is c.from_residual-in_err-check_comma.ensures.1)
    (s.unheard_memory (s.forgoes_later (s.here_leads c.in_ok-look.ensures.looks) c.in_err-check_comma.ensures.checks))

pub returns-clause-next : goal.returns-clause-next
returns-clause-next g c = λ sure.
    s.on_then
    (s.on_seen c.in_ok-look.ensures.looks (λ x ts same e. next_param_closed (stage_of c.args.rest) x ts
    (ap (at_token is_rparen) e ∙ sym c.is_sign.ensures.value ∙ c.if-not-is_sign.false)))
    (s.on_checked (not (has_comma c.args.rest)) c.in_ok-check_comma.ensures.checks
    (λ x ts w. closed_well c.args.rest x ts w) (λ x ts w. closed_ill c.args.rest x ts w))
