use Rattle.std.proofs.Common.{Some, refl}
use Rattle.swc_steps.proofs.Refused.{err_is}
use Rattle.swc_primary.proofs.Keyed.{async_star_splits}
use Rattle.swc_steps.proofs.Steps as s
use Rattle.swc_primary.proofs.modifiers.parse_async_star.Goals as goal

pub returns-in_err-start-clause-parses : goal.returns-in_err-start-clause-parses
returns-in_err-start-clause-parses g c =
    λ sure. rw (err_is c.from_residual.ensures.1) (s.unheard_call _ async_star_splits
    (c.in_err-start.ensures.expects sure))

pub returns-in_err-expect-clause-parses : goal.returns-in_err-expect-clause-parses
returns-in_err-expect-clause-parses g c =
    λ sure. rw (err_is c.from_residual-in_err-expect.ensures.1) (s.unheard_after
    (s.on_call _ async_star_splits
    (c.in_ok-start.ensures.expects sure).on)
    (s.unheard_call (λ x r. Some (c.in_ok-start.start, r.1)) (λ x ts. refl) (c.in_err-expect.ensures.expects sure)))

pub returns-clause-parses : goal.returns-clause-parses
returns-clause-parses g c = λ sure.
    s.heard_more _ async_star_splits
    (c.in_ok-start.ensures.expects sure)
    (s.on_call (λ x r. Some (c.in_ok-start.start, r.1)) (λ x ts. refl) (c.in_ok-expect.ensures.expects sure).on)
