use Rattle.std.proofs.Common.{Some, not, refl, ap, ◌∙◌}
use Rattle.swc_input.specs.Buffer.{current}
use Rattle.swc_grammar.specs.Tokens.{is_comma, is_dots}
use Rattle.swc_steps.proofs.Refused.{err_is}
use Rattle.swc_steps.specs.Parsing.{seen_of}
use Rattle.swc_steps.proofs.Steps as s
use Rattle.swc_patterns.specs.{Rests.has_rest, Rests.stage_of, Arrays.head_by, declared.pat.NextElement.NextElement as next}
use Rattle.swc_patterns.proofs.Arrays.{head_end, head_here, head_of, head_well, head_ill}
use Rattle.swc_patterns.proofs.pat.element_head.Goals as goal

pub returns-then-not-branch-clause-next : goal.returns-then-not-branch-clause-next
returns-then-not-branch-clause-next g c =
    let none = (c.in_ok-look.ensures.end c.if-not-branch.true).0 in
    λ sure.
    s.unheard_at c.in_ok-look.ensures.looks
    (λ x ts same e. head_end (stage_of c.args.rest) x ts (e ∙ ap seen_of none)) (c.unexpected.ensures.refuses (λ e. cc))

pub returns-in_err-check_last-clause-next : goal.returns-in_err-check_last-clause-next
returns-in_err-check_last-clause-next g c =
    let some = c.in_ok-look.ensures.token c.if-not-branch.false in
    λ sure. rw (err_is c.from_residual-in_err-check_last.ensures.1)
    (s.unheard_after (s.on_seen {g = head_of c.args.rest} c.in_ok-look.ensures.looks
    (λ x ts same e. head_here c.args.rest x ts (current c.look.new.input) e some))
    (s.unheard_memory c.in_err-check_last.ensures.checks))

pub returns-in_err-eat-clause-next : goal.returns-in_err-eat-clause-next
returns-in_err-eat-clause-next g c =
    let some = c.in_ok-look.ensures.token c.if-not-branch.false in
    λ sure. rw (err_is c.from_residual-in_err-eat.ensures.1)
    (s.unheard_after (s.on_then (s.on_seen {g = head_of c.args.rest} c.in_ok-look.ensures.looks
    (λ x ts same e. head_here c.args.rest x ts (current c.look.new.input) e some))
    (s.on_checked (not (has_rest c.args.rest)) c.in_ok-check_last.ensures.checks
    (λ x ts w. head_well c.args.rest x ts w) (λ x ts w. head_ill c.args.rest x ts w)))
    (s.unheard_call (λ x p. head_by p.0 x p.1) (λ x ts. refl) (c.in_err-eat.ensures.eats sure)))

pub returns-in-Some-clause-next : goal.returns-in-Some-clause-next
returns-in-Some-clause-next g c =
    let some = c.in_ok-look.ensures.token c.if-not-branch.false in
    λ sure.
    s.on_then (s.on_then (s.on_seen {g = head_of c.args.rest} c.in_ok-look.ensures.looks
    (λ x ts same e. head_here c.args.rest x ts (current c.look.new.input) e some))
    (s.on_checked (not (has_rest c.args.rest)) c.in_ok-check_last.ensures.checks
    (λ x ts w. head_well c.args.rest x ts w) (λ x ts w. head_ill c.args.rest x ts w)))
    (s.on_call (λ x p. head_by p.0 x p.1) (λ x ts. refl)
    (s.eats_some sure is_comma _ c.in-Some.field-0 _ _ c.in-Some.is (c.in_ok-eat.ensures.eats sure)).on)

pub returns-in_err-dots-in-None-clause-next : goal.returns-in_err-dots-in-None-clause-next
returns-in_err-dots-in-None-clause-next g c =
    let some = c.in_ok-look.ensures.token c.if-not-branch.false in
    λ sure. rw (err_is c.from_residual-in_err-dots-in-None.ensures.1)
    (s.unheard_after (s.on_then (s.on_then (s.on_seen {g = head_of c.args.rest} c.in_ok-look.ensures.looks
    (λ x ts same e. head_here c.args.rest x ts (current c.look.new.input) e some))
    (s.on_checked (not (has_rest c.args.rest)) c.in_ok-check_last.ensures.checks
    (λ x ts w. head_well c.args.rest x ts w) (λ x ts w. head_ill c.args.rest x ts w)))
    (s.on_call (λ x p. head_by p.0 x p.1) (λ x ts. refl)
    (s.eats_none sure is_comma _ _ _ c.in-None.is (c.in_ok-eat.ensures.eats sure))))
    (s.unheard_call (λ x p. Some (next.Item p.0, p.1)) (λ x ts. refl) (c.in_err-dots-in-None.ensures.eats sure)))

pub returns-in_ok-dots-in-None-clause-next : goal.returns-in_ok-dots-in-None-clause-next
returns-in_ok-dots-in-None-clause-next g c =
    let some = c.in_ok-look.ensures.token c.if-not-branch.false in
    λ sure.
    s.on_then (s.on_then (s.on_then (s.on_seen {g = head_of c.args.rest} c.in_ok-look.ensures.looks
    (λ x ts same e. head_here c.args.rest x ts (current c.look.new.input) e some))
    (s.on_checked (not (has_rest c.args.rest)) c.in_ok-check_last.ensures.checks
    (λ x ts w. head_well c.args.rest x ts w) (λ x ts w. head_ill c.args.rest x ts w)))
    (s.on_call (λ x p. head_by p.0 x p.1) (λ x ts. refl)
    (s.eats_none sure is_comma _ _ _ c.in-None.is (c.in_ok-eat.ensures.eats sure))))
    (s.on_call (λ x p. Some (next.Item p.0, p.1)) (λ x ts. refl)
    (s.eats_on sure is_dots _ _ _ (c.in_ok-dots-in-None.ensures.eats sure)))

pub returns-in-Some-clause-ate : goal.returns-in-Some-clause-ate
returns-in-Some-clause-ate g c =
    let some = c.in_ok-look.ensures.token c.if-not-branch.false in
    λ hole sure.
    s.heard_after (s.on_then (s.on_seen {g = head_of c.args.rest} c.in_ok-look.ensures.looks
    (λ x ts same e. head_here c.args.rest x ts (current c.look.new.input) e some))
    (s.on_checked (not (has_rest c.args.rest)) c.in_ok-check_last.ensures.checks
    (λ x ts w. head_well c.args.rest x ts w) (λ x ts w. head_ill c.args.rest x ts w)))
    (s.heard_call (λ x p. head_by p.0 x p.1) (λ x ts. refl) (λ x ts. refl)
    (s.eats_some sure is_comma _ c.in-Some.field-0 _ _ c.in-Some.is (c.in_ok-eat.ensures.eats sure)))
