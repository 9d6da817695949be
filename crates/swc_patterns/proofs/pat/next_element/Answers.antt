use Rattle.std.proofs.Common.{Some, not, refl, sym, ap, ◌∙◌}
use Rattle.swc_input.specs.Kinds.{at_token}
use Rattle.swc_grammar.specs.Tokens.{is_rbracket}
use Rattle.swc_steps.proofs.Refused.{err_is}
use Rattle.swc_steps.proofs.Making as m
use Rattle.swc_steps.proofs.Steps as s
use Rattle.swc_patterns.specs.{Rests.stage_of, Rests.has_comma, declared.pat.NextElement.NextElement as next}
use Rattle.swc_patterns.proofs.Arrays.{next_ends, next_goes, ends_well, ends_ill}
use Rattle.swc_patterns.proofs.pat.next_element.Goals as goal

pub returns-in_err-look-clause-next : goal.returns-in_err-look-clause-next
returns-in_err-look-clause-next g c =
    λ sure. rw (err_is c.from_residual.ensures.1) (s.unheard_memory c.in_err-look.ensures.looks)

pub returns-then-not-is_sign-clause-next : goal.returns-then-not-is_sign-clause-next
returns-then-not-is_sign-clause-next g c = λ sure.
    s.continues_after g.I.Tokens.model sure (λ n. n) _ _ c.element_head.result
    (s.on_seen c.in_ok-look.ensures.looks (λ x ts same e. next_goes (stage_of c.args.rest) x ts
    (ap (at_token is_rbracket) e ∙ sym c.is_sign.ensures.value ∙ c.if-not-is_sign.true)))
    (c.element_head.ensures.next sure)

pub returns-in_err-check_comma-clause-next : goal.returns-in_err-check_comma-clause-next
returns-in_err-check_comma-clause-next g c =
    λ sure. rw (err_is c.from_residual-in_err-check_comma.ensures.1)
    (s.unheard_after (s.on_seen c.in_ok-look.ensures.looks (λ x ts same e. next_ends (stage_of c.args.rest) x ts
    (ap (at_token is_rbracket) e ∙ sym c.is_sign.ensures.value ∙ c.if-not-is_sign.false)))
    (s.unheard_memory c.in_err-check_comma.ensures.checks))

pub returns-in_err-end-clause-next : goal.returns-in_err-end-clause-next
returns-in_err-end-clause-next g c =
    λ sure. rw (err_is c.from_residual-in_err-end.ensures.1)
    (s.unheard_after (s.on_then
    (s.on_seen c.in_ok-look.ensures.looks (λ x ts same e. next_ends (stage_of c.args.rest) x ts
    (ap (at_token is_rbracket) e ∙ sym c.is_sign.ensures.value ∙ c.if-not-is_sign.false)))
    (s.on_checked (not (has_comma c.args.rest)) c.in_ok-check_comma.ensures.checks
    (λ x ts w. ends_well c.args.rest x ts w) (λ x ts w. ends_ill c.args.rest x ts w)))
    (s.unheard_call (λ x p. Some (next.End p.0, p.1)) (λ x ts. refl) (c.in_err-end.ensures.expects sure)))

pub returns-clause-next : goal.returns-clause-next
returns-clause-next g c = λ sure.
    s.on_then (s.on_then
    (s.on_seen c.in_ok-look.ensures.looks (λ x ts same e. next_ends (stage_of c.args.rest) x ts
    (ap (at_token is_rbracket) e ∙ sym c.is_sign.ensures.value ∙ c.if-not-is_sign.false)))
    (s.on_checked (not (has_comma c.args.rest)) c.in_ok-check_comma.ensures.checks
    (λ x ts w. ends_well c.args.rest x ts w) (λ x ts w. ends_ill c.args.rest x ts w)))
    (s.on_call (λ x p. Some (next.End p.0, p.1)) (λ x ts. refl) (c.in_ok-end.ensures.expects sure).on)

pub returns-then-not-is_sign-clause-ate : goal.returns-then-not-is_sign-clause-ate
returns-then-not-is_sign-clause-ate g c =
    m.if_held (λ n h hole sure.
    s.heard_after (s.on_seen c.in_ok-look.ensures.looks (λ x ts same e. next_goes (stage_of c.args.rest) x ts
    (ap (at_token is_rbracket) e ∙ sym c.is_sign.ensures.value ∙ c.if-not-is_sign.true))) (h hole sure))
    c.element_head.result c.element_head.ensures.ate

pub returns-clause-ate : goal.returns-clause-ate
returns-clause-ate g c = λ hole sure.
    s.heard_after (s.on_then
    (s.on_seen c.in_ok-look.ensures.looks (λ x ts same e. next_ends (stage_of c.args.rest) x ts
    (ap (at_token is_rbracket) e ∙ sym c.is_sign.ensures.value ∙ c.if-not-is_sign.false)))
    (s.on_checked (not (has_comma c.args.rest)) c.in_ok-check_comma.ensures.checks
    (λ x ts w. ends_well c.args.rest x ts w) (λ x ts w. ends_ill c.args.rest x ts w)))
    (s.heard_call (λ x p. Some (next.End p.0, p.1)) (λ x ts. refl) (λ x ts. refl) (c.in_ok-end.ensures.expects sure))
