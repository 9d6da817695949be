use Rattle.std.proofs.Common.{true, refl}
use Rattle.swc_steps.proofs.Refused.{err_is}
use Rattle.swc_steps.specs.Lists.{is_sign_token}
use Rattle.swc_steps.proofs.Keys.{expected_splits}
use Rattle.swc_steps.proofs.Steps as s
use Rattle.swc_steps.proofs.tokens.expect_or.Goals as goal

pub returns-in_err-span-clause-expects : goal.returns-in_err-span-clause-expects
returns-in_err-span-clause-expects g c =
    λ sure. rw (err_is c.from_residual.ensures.1) (s.unheard_call _ (expected_splits (is_sign_token c.args.sign))
    (c.in_err-span.ensures.eats sure))

pub returns-in-Some-clause-expects : goal.returns-in-Some-clause-expects
returns-in-Some-clause-expects g c = λ sure.
    s.heard_call _ (expected_splits (is_sign_token c.args.sign)) (λ x ts. refl)
    (s.eats_some sure (is_sign_token c.args.sign) _ c.in-Some.span _ _ c.in-Some.is (c.in_ok-span.ensures.eats sure))

pub returns-in-Some-clause-falls : goal.returns-in-Some-clause-falls
returns-in-Some-clause-falls g c =
    let h =
    s.eats_some true (is_sign_token c.args.sign) _ c.in-Some.span _ _ c.in-Some.is (c.in_ok-span.ensures.eats true) in
    s.lower (record { leads = h.on.leads; onward = h.onward })

pub returns-in-None-clause-expects : goal.returns-in-None-clause-expects
returns-in-None-clause-expects g c = λ sure.
    s.unheard_after
    (s.on_call _ (expected_splits (is_sign_token c.args.sign))
    (s.eats_none sure (is_sign_token c.args.sign) _ _ _ c.in-None.is (c.in_ok-span.ensures.eats sure)))
    (s.unheard_none (λ x ts. refl) (c.unexpected.ensures.refuses c.requires))
