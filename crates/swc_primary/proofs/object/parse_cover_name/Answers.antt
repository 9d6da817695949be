use Rattle.std.proofs.Common.{Some, refl}
use Rattle.swc_steps.proofs.Refused.{err_is}
use Rattle.swc_steps.specs.Parsing.{ident_spelling}
use Rattle.swc_primary.proofs.Properties.{cover_name_splits}
use Rattle.swc_steps.proofs.Steps as s
use Rattle.swc_primary.proofs.object.parse_cover_name.Goals as goal

pub returns-in_err-name-clause-parses : goal.returns-in_err-name-clause-parses
returns-in_err-name-clause-parses g c =
    λ sure. rw (err_is c.from_residual.ensures.1) (s.unheard_call _ cover_name_splits
    (c.in_err-name.ensures.parses sure))

pub returns-in_err-expect-clause-parses : goal.returns-in_err-expect-clause-parses
returns-in_err-expect-clause-parses g c =
    let name = ident_spelling c.in_ok-name.name in
    λ sure. rw (err_is c.from_residual-in_err-expect.ensures.1) (s.unheard_after
    (s.on_call _ cover_name_splits
    (c.in_ok-name.ensures.parses sure).on)
    (s.unheard_call (λ x r. Some (name, r.1)) (λ x ts. refl) (c.in_err-expect.ensures.expects sure)))

pub returns-clause-parses : goal.returns-clause-parses
returns-clause-parses g c = λ sure.
    let name = ident_spelling c.in_ok-name.name in
    s.heard_more _ cover_name_splits
    (c.in_ok-name.ensures.parses sure)
    (s.on_call (λ x r. Some (name, r.1)) (λ x ts. refl) (c.in_ok-expect.ensures.expects sure).on)
