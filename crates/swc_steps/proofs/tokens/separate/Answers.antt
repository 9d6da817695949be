use Rattle.std.proofs.Common.{Some, None, refl}
use Rattle.swc_grammar.specs.Tokens.{is_comma}
use Rattle.swc_steps.proofs.Refused.{err_is}
use Rattle.swc_steps.specs.Lists.{is_sign_token}
use Rattle.swc_steps.proofs.Lists.{separated_splits}
use Rattle.swc_steps.proofs.Steps as s
use Rattle.swc_steps.proofs.tokens.separate.Goals as goal

pub returns-in_err-comma-clause-separates : goal.returns-in_err-comma-clause-separates
returns-in_err-comma-clause-separates g c =
    λ sure. rw (err_is c.from_residual.ensures.1) (s.unheard_call _ (separated_splits (is_sign_token c.args.close))
    (c.in_err-comma.ensures.eats sure))

pub returns-in-Some-clause-separates : goal.returns-in-Some-clause-separates
returns-in-Some-clause-separates g c = λ sure.
    s.on_call _ (separated_splits (is_sign_token c.args.close))
    (s.eats_some sure is_comma _ c.in-Some.comma _ _ c.in-Some.is (c.in_ok-comma.ensures.eats sure)).on

pub returns-in_err-require_close-in-None-clause-separates : goal.returns-in_err-require_close-in-None-clause-separates
returns-in_err-require_close-in-None-clause-separates g c =
    λ sure. rw (err_is c.from_residual-in_err-require_close-in-None.ensures.1)
    (s.unheard_after (s.on_call _ (separated_splits (is_sign_token c.args.close))
    (s.eats_none sure is_comma _ _ _ c.in-None.is (c.in_ok-comma.ensures.eats sure)))
    (s.unheard_call (λ x q. Some (None, q.1)) (λ x ts. refl) (c.in_err-require_close-in-None.ensures.closes sure)))

pub returns-in_ok-require_close-in-None-clause-separates : goal.returns-in_ok-require_close-in-None-clause-separates
returns-in_ok-require_close-in-None-clause-separates g c = λ sure.
    s.on_then (s.on_call _ (separated_splits (is_sign_token c.args.close))
    (s.eats_none sure is_comma _ _ _ c.in-None.is (c.in_ok-comma.ensures.eats sure)))
    (s.on_call (λ x q. Some (None, q.1)) (λ x ts. refl) (c.in_ok-require_close-in-None.ensures.closes sure))
