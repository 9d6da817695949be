use Rattle.std.proofs.Common.{not}
use Rattle.swc_grammar.specs.Tokens.{is_dot}
use Rattle.swc_steps.proofs.Refused.{err_is}
use Rattle.swc_left.proofs.Bases as base
use Rattle.swc_steps.proofs.Steps as s
use Rattle.swc_left.proofs.base.import_head.Goals as goal

pub returns-in_err-eat-clause-parses : goal.returns-in_err-eat-clause-parses
returns-in_err-eat-clause-parses g c =
    let b = not c.args.no_call in
    λ sure. rw (err_is c.from_residual.ensures.1)
    (s.unheard_call _ (base.import_begins b c.args.start) (c.in_err-eat.ensures.eats sure))

pub returns-in-Some-clause-parses : goal.returns-in-Some-clause-parses
returns-in-Some-clause-parses g c = λ sure.
    let b = not c.args.no_call in
    let some = s.eats_some sure is_dot _ c.in-Some.field-0 _ _ c.in-Some.is (c.in_ok-eat.ensures.eats sure) in
    s.parses_after g.I.Tokens.model sure (λ h. h) _ _ c.import_member.result
    (s.on_call _ (base.import_begins b c.args.start) some.on) (c.import_member.ensures.parses sure)

pub returns-in-None-clause-parses : goal.returns-in-None-clause-parses
returns-in-None-clause-parses g c = λ sure.
    let b = not c.args.no_call in
    let none = s.eats_none sure is_dot _ _ _ c.in-None.is (c.in_ok-eat.ensures.eats sure) in
    s.parses_after g.I.Tokens.model sure (λ h. h) _ _ c.import_callee.result
    (s.on_call _ (base.import_begins b c.args.start) none) (c.import_callee.ensures.parses sure)
