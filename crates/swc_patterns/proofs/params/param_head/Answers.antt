use Rattle.std.proofs.Common.{Some, not, refl}
use Rattle.swc_steps.proofs.Refused.{err_is}
use Rattle.swc_grammar.specs.Tokens.{is_dots}
use Rattle.swc_steps.proofs.Steps as s
use Rattle.swc_patterns.specs.{Rests.has_rest, declared.params.NextParam.NextParam as next}
use Rattle.swc_patterns.proofs.FormalParams.{head_well, head_ill}
use Rattle.swc_patterns.proofs.params.param_head.Goals as goal

pub returns-in_err-dots-clause-next : goal.returns-in_err-dots-clause-next
returns-in_err-dots-clause-next g c =
    λ sure. rw (err_is c.from_residual-in_err-dots.ensures.1)
    (s.unheard_after (s.on_checked (not (has_rest c.args.rest)) c.in_ok-check_last.ensures.checks
    (λ x ts w. head_well c.args.rest x ts w) (λ x ts w. head_ill c.args.rest x ts w))
    (s.unheard_call (λ x p. Some (next.Item p.0, p.1)) (λ x ts. refl) (c.in_err-dots.ensures.eats sure)))

pub returns-clause-next : goal.returns-clause-next
returns-clause-next g c = λ sure.
    s.on_then (s.on_checked (not (has_rest c.args.rest)) c.in_ok-check_last.ensures.checks
    (λ x ts w. head_well c.args.rest x ts w) (λ x ts w. head_ill c.args.rest x ts w))
    (s.on_call (λ x p. Some (next.Item p.0, p.1)) (λ x ts. refl)
    (s.eats_on sure is_dots c.in_ok-dots.dots _ _ (c.in_ok-dots.ensures.eats sure)))
