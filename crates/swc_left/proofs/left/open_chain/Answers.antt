use Rattle.std.proofs.Common.{refl}
use Rattle.swc_steps.proofs.Refused.{err_is}
use Rattle.swc_grammar.specs.Tokens.{is_lbracket, is_lparen}
use Rattle.swc_left.specs.Links.{chain_paren, chain_bracket, chain_dot}
use Rattle.swc_left.proofs.Links as link
use Rattle.swc_steps.proofs.Steps as s
use Rattle.swc_left.proofs.left.open_chain.Goals as goal

pub returns-in_err-expect-clause-begins : goal.returns-in_err-expect-clause-begins
returns-in_err-expect-clause-begins g c =
    λ sure. rw (err_is c.from_residual.ensures.1)
    (s.unheard_call (λ x p. chain_dot x p.1) link.chain_splits (c.in_err-expect.ensures.expects sure))

pub returns-in_err-start-clause-begins : goal.returns-in_err-start-clause-begins
returns-in_err-start-clause-begins g c =
    λ sure. rw (err_is c.from_residual-in_err-start.ensures.1)
    (s.unheard_after (s.on_call (λ x p. chain_dot x p.1) link.chain_splits (c.in_ok-expect.ensures.expects sure).on)
    (s.unheard_call (λ x q. chain_bracket q.0 x q.1) (λ x ts. refl) (c.in_err-start.ensures.eats sure)))

pub returns-in-Some-clause-begins : goal.returns-in-Some-clause-begins
returns-in-Some-clause-begins g c = λ sure.
    let some = s.eats_some sure is_lbracket _ c.in-Some.start _ _ c.in-Some.is (c.in_ok-start.ensures.eats sure) in
    s.heard_more (λ x p. chain_dot x p.1) link.chain_splits (c.in_ok-expect.ensures.expects sure)
    (s.on_call (λ x q. chain_bracket q.0 x q.1) (λ x ts. refl) some.on)

pub returns-in_err-eat-clause-begins : goal.returns-in_err-eat-clause-begins
returns-in_err-eat-clause-begins g c =
    λ sure.
    let none = s.eats_none sure is_lbracket _ _ _ c.in-None.is (c.in_ok-start.ensures.eats sure) in
    rw (err_is c.from_residual-in_err-eat.ensures.1)
    (s.unheard_after (s.on_then (s.on_call (λ x p. chain_dot x p.1) link.chain_splits
    (c.in_ok-expect.ensures.expects sure).on)
    (s.on_call (λ x q. chain_bracket q.0 x q.1) (λ x ts. refl) none))
    (s.unheard_call (λ x q. chain_paren q.0 x q.1) (λ x ts. refl) (c.in_err-eat.ensures.eats sure)))

pub returns-in-Some-2-clause-begins : goal.returns-in-Some-2-clause-begins
returns-in-Some-2-clause-begins g c = λ sure.
    let none = s.eats_none sure is_lbracket _ _ _ c.in-None.is (c.in_ok-start.ensures.eats sure) in
    let some = s.eats_some sure is_lparen _ c.in-Some-2.field-0 _ _ c.in-Some-2.is (c.in_ok-eat.ensures.eats sure) in
    s.heard_more (λ x p. chain_dot x p.1) link.chain_splits (c.in_ok-expect.ensures.expects sure)
    (s.on_then (s.on_call (λ x q. chain_bracket q.0 x q.1) (λ x ts. refl) none)
    (s.on_call (λ x q. chain_paren q.0 x q.1) (λ x ts. refl) some.on))

pub returns-in-None-2-clause-begins : goal.returns-in-None-2-clause-begins
returns-in-None-2-clause-begins g c = λ sure.
    let none = s.eats_none sure is_lbracket _ _ _ c.in-None.is (c.in_ok-start.ensures.eats sure) in
    let no = s.eats_none sure is_lparen _ _ _ c.in-None-2.is (c.in_ok-eat.ensures.eats sure) in
    s.heard_more (λ x p. chain_dot x p.1) link.chain_splits (c.in_ok-expect.ensures.expects sure)
    (s.on_then (s.on_call (λ x q. chain_bracket q.0 x q.1) (λ x ts. refl) none)
    (s.on_call (λ x q. chain_paren q.0 x q.1) (λ x ts. refl) no))
