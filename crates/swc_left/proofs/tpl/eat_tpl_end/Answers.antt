use Rattle.std.proofs.Common.{true, Some, None, refl}
use Rattle.swc_grammar.specs.Tokens.{is_backquote}
use Rattle.swc_steps.proofs.Refused.{err_is}
use Rattle.swc_left.specs.Templates.{tpl_end_by}
use Rattle.swc_steps.proofs.Steps as s
use Rattle.swc_left.proofs.Templates as tpl
use Rattle.swc_left.proofs.tpl.eat_tpl_end.Goals as goal

pub returns-in_err-end-clause-ends : goal.returns-in_err-end-clause-ends
returns-in_err-end-clause-ends g c =
    λ sure. rw (err_is c.from_residual.ensures.1)
    (s.unheard_call (λ x q. tpl_end_by q.0 x q.1) tpl.end_splits (c.in_err-end.ensures.eats sure))

pub returns-in-Some-clause-ends : goal.returns-in-Some-clause-ends
returns-in-Some-clause-ends g c = λ sure.
    s.heard_call (λ x q. tpl_end_by q.0 x q.1) tpl.end_splits (λ x ts. refl)
    (s.eats_some sure is_backquote _ c.in-Some.end _ _ c.in-Some.is (c.in_ok-end.ensures.eats sure))

pub returns-in-Some-clause-falls : goal.returns-in-Some-clause-falls
returns-in-Some-clause-falls g c =
    let h = s.eats_some true is_backquote _ c.in-Some.end _ _ c.in-Some.is (c.in_ok-end.ensures.eats true) in
    s.lower (record { leads = h.on.leads; onward = h.onward })

pub returns-in_err-expect-in-None-clause-ends : goal.returns-in_err-expect-in-None-clause-ends
returns-in_err-expect-in-None-clause-ends g c =
    λ sure. rw (err_is c.from_residual-in_err-expect-in-None.ensures.1)
    (s.unheard_after (s.on_call (λ x q. tpl_end_by q.0 x q.1) tpl.end_splits
    (s.eats_none sure is_backquote _ _ _ c.in-None.is (c.in_ok-end.ensures.eats sure)))
    (s.unheard_call (λ x q. Some (None, q.1)) (λ x ts. refl) (c.in_err-expect-in-None.ensures.expects sure)))

pub returns-in_ok-expect-in-None-clause-ends : goal.returns-in_ok-expect-in-None-clause-ends
returns-in_ok-expect-in-None-clause-ends g c = λ sure.
    s.heard_after (s.on_call (λ x q. tpl_end_by q.0 x q.1) tpl.end_splits
    (s.eats_none sure is_backquote _ _ _ c.in-None.is (c.in_ok-end.ensures.eats sure)))
    (s.heard_call (λ x q. Some (None, q.1)) (λ x ts. refl) (λ x ts. refl) (c.in_ok-expect-in-None.ensures.expects sure))
