use Rattle.std.proofs.Common.{Some}
use Rattle.swc_steps.proofs.Refused.{err_is}
use Rattle.swc_steps.proofs.Args.{args_separated, behind_other, behind_last, behind_none}
use Rattle.swc_steps.proofs.Steps as s
use Rattle.swc_left.proofs.args.separate_args.Goals as goal

pub returns-in_err-comma-clause-separates : goal.returns-in_err-comma-clause-separates
returns-in_err-comma-clause-separates g c =
    let i = c.args.is_dynamic_import in
    λ sure. rw (err_is c.from_residual.ensures.1)
    (s.unheard_call _ (args_separated i) (c.in_err-comma.ensures.separates sure))

pub returns-then-not-is_dynamic_import-clause-separates : goal.returns-then-not-is_dynamic_import-clause-separates
returns-then-not-is_dynamic_import-clause-separates g c = λ sure.
    let i = c.args.is_dynamic_import in
    s.on_to (s.on_call _ (args_separated i) (c.in_ok-comma.ensures.separates sure))
    (λ x ts. behind_other i c.in_ok-comma.comma x ts c.if-not-is_dynamic_import.true)

pub returns-in_err-refuse_last_comma-in-Some-clause-separates :
    goal.returns-in_err-refuse_last_comma-in-Some-clause-separates
returns-in_err-refuse_last_comma-in-Some-clause-separates g c =
    let i = c.args.is_dynamic_import in
    λ sure. rw (err_is c.from_residual-in_err-refuse_last_comma-in-Some.ensures.1)
    (s.unheard_after (s.on_call _ (args_separated i) (c.in_ok-comma.ensures.separates sure))
    (s.unheard_call (λ x q. Some (Some c.in-Some.span, q.1))
    (λ x ts. behind_last i c.in_ok-comma.comma c.in-Some.span x ts c.if-not-is_dynamic_import.false c.in-Some.is)
    (c.in_err-refuse_last_comma-in-Some.ensures.passes sure)))

pub returns-in_ok-refuse_last_comma-in-Some-clause-separates :
    goal.returns-in_ok-refuse_last_comma-in-Some-clause-separates
returns-in_ok-refuse_last_comma-in-Some-clause-separates g c = λ sure.
    let i = c.args.is_dynamic_import in
    s.on_then (s.on_call _ (args_separated i) (c.in_ok-comma.ensures.separates sure))
    (s.on_call (λ x q. Some (Some c.in-Some.span, q.1))
    (λ x ts. behind_last i c.in_ok-comma.comma c.in-Some.span x ts c.if-not-is_dynamic_import.false c.in-Some.is)
    (c.in_ok-refuse_last_comma-in-Some.ensures.passes sure))

pub returns-in-None-clause-separates : goal.returns-in-None-clause-separates
returns-in-None-clause-separates g c = λ sure.
    let i = c.args.is_dynamic_import in
    s.on_to (s.on_call _ (args_separated i) (c.in_ok-comma.ensures.separates sure))
    (λ x ts. behind_none i c.in_ok-comma.comma x ts c.in-None.is)
