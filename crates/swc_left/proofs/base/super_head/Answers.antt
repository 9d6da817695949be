use Rattle.std.proofs.Common.{not, refl, ap}
use Rattle.swc_grammar.specs.Tokens.{is_dot, is_lbracket, is_lparen}
use Rattle.swc_steps.proofs.Refused.{err_is}
use Rattle.swc_left.specs.Bases.{head_bracket, head_paren}
use Rattle.swc_left.proofs.Bases as base
use Rattle.swc_steps.proofs.Steps as s
use Rattle.swc_left.proofs.base.super_head.Goals as goal

pub returns-in_err-eat-clause-continues : goal.returns-in_err-eat-clause-continues
returns-in_err-eat-clause-continues g c =
    let b = not c.args.no_call in
    λ sure. rw (err_is c.from_residual.ensures.1)
    (s.unheard_call _ (base.super_begins b) (c.in_err-eat.ensures.eats sure))

pub returns-in-Some-clause-continues : goal.returns-in-Some-clause-continues
returns-in-Some-clause-continues g c = λ sure.
    let b = not c.args.no_call in
    let some = s.eats_some sure is_dot _ c.in-Some.field-0 _ _ c.in-Some.is (c.in_ok-eat.ensures.eats sure) in
    s.on_call _ (base.super_begins b) some.on

pub returns-in_err-bracket-clause-continues : goal.returns-in_err-bracket-clause-continues
returns-in_err-bracket-clause-continues g c =
    let b = not c.args.no_call in
    λ sure.
    let none = s.eats_none sure is_dot _ _ _ c.in-None.is (c.in_ok-eat.ensures.eats sure) in
    rw (err_is c.from_residual-in_err-bracket.ensures.1)
    (s.unheard_after (s.on_call _ (base.super_begins b) none)
    (s.unheard_call (λ x q. head_bracket b q.0 x q.1) (λ x ts. refl) (c.in_err-bracket.ensures.eats sure)))

pub returns-in-Some-2-clause-continues : goal.returns-in-Some-2-clause-continues
returns-in-Some-2-clause-continues g c = λ sure.
    let b = not c.args.no_call in
    let none = s.eats_none sure is_dot _ _ _ c.in-None.is (c.in_ok-eat.ensures.eats sure) in
    let some = s.eats_some sure is_lbracket _ c.in-Some-2.bracket _ _ c.in-Some-2.is
    (c.in_ok-bracket.ensures.eats sure) in
    s.on_then (s.on_call _ (base.super_begins b) none)
    (s.on_call (λ x q. head_bracket b q.0 x q.1) (λ x ts. refl) some.on)

pub returns-then-no_call-clause-continues : goal.returns-then-no_call-clause-continues
returns-then-no_call-clause-continues g c = λ sure.
    let b = not c.args.no_call in
    let none = s.eats_none sure is_dot _ _ _ c.in-None.is (c.in_ok-eat.ensures.eats sure) in
    let no = s.eats_none sure is_lbracket _ _ _ c.in-None-2.is (c.in_ok-bracket.ensures.eats sure) in
    s.on_to (s.on_then (s.on_call _ (base.super_begins b) none)
    (s.on_call (λ x q. head_bracket b q.0 x q.1) (λ x ts. refl) no))
    (λ x ts. base.super_no_call b x ts (ap not c.if-no_call.true))

pub returns-in_err-eat-2-clause-continues : goal.returns-in_err-eat-2-clause-continues
returns-in_err-eat-2-clause-continues g c =
    let b = not c.args.no_call in
    λ sure.
    let none = s.eats_none sure is_dot _ _ _ c.in-None.is (c.in_ok-eat.ensures.eats sure) in
    let no = s.eats_none sure is_lbracket _ _ _ c.in-None-2.is (c.in_ok-bracket.ensures.eats sure) in
    rw (err_is c.from_residual-in_err-eat-2.ensures.1)
    (s.unheard_after (s.on_then (s.on_call _ (base.super_begins b) none)
    (s.on_call (λ x q. head_bracket b q.0 x q.1) (λ x ts. refl) no))
    (s.unheard_call (λ x q. head_paren q.0 x q.1) (λ x ts. base.super_calls b x ts (ap not c.if-no_call.false))
    (c.in_err-eat-2.ensures.eats sure)))

pub returns-in-Some-3-clause-continues : goal.returns-in-Some-3-clause-continues
returns-in-Some-3-clause-continues g c = λ sure.
    let b = not c.args.no_call in
    let none = s.eats_none sure is_dot _ _ _ c.in-None.is (c.in_ok-eat.ensures.eats sure) in
    let no = s.eats_none sure is_lbracket _ _ _ c.in-None-2.is (c.in_ok-bracket.ensures.eats sure) in
    let some = s.eats_some sure is_lparen _ c.in-Some-3.field-0 _ _ c.in-Some-3.is (c.in_ok-eat-2.ensures.eats sure) in
    s.on_then (s.on_then (s.on_call _ (base.super_begins b) none)
    (s.on_call (λ x q. head_bracket b q.0 x q.1) (λ x ts. refl) no))
    (s.on_call (λ x q. head_paren q.0 x q.1) (λ x ts. base.super_calls b x ts (ap not c.if-no_call.false)) some.on)

pub returns-in-None-3-clause-continues : goal.returns-in-None-3-clause-continues
returns-in-None-3-clause-continues g c = λ sure.
    let b = not c.args.no_call in
    let none = s.eats_none sure is_dot _ _ _ c.in-None.is (c.in_ok-eat.ensures.eats sure) in
    let no = s.eats_none sure is_lbracket _ _ _ c.in-None-2.is (c.in_ok-bracket.ensures.eats sure) in
    let last = s.eats_none sure is_lparen _ _ _ c.in-None-3.is (c.in_ok-eat-2.ensures.eats sure) in
    s.on_then (s.on_then (s.on_call _ (base.super_begins b) none)
    (s.on_call (λ x q. head_bracket b q.0 x q.1) (λ x ts. refl) no))
    (s.on_call (λ x q. head_paren q.0 x q.1) (λ x ts. base.super_calls b x ts (ap not c.if-no_call.false)) last)
