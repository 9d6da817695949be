use Rattle.std.proofs.Common.{true}
use Rattle.swc_grammar.specs.Tokens.{is_lbracket, is_lparen}
use Rattle.swc_steps.proofs.Refused.{err_is}
use Rattle.swc_steps.proofs.Steps as s
use Rattle.swc_left.proofs.base.super_chain_link.Goals as goal

pub returns-in_err-expect-clause-acts : goal.returns-in_err-expect-clause-acts
returns-in_err-expect-clause-acts g c =
    let first = s.took_leads g.met.I.Tokens.laws c.skip.ensures.took.1 in
    rw (err_is c.from_residual.ensures.1) (s.refuses_later first (c.in_err-expect.ensures.expects true).refuses)

pub returns-in_err-eat-clause-acts : goal.returns-in_err-eat-clause-acts
returns-in_err-eat-clause-acts g c =
    let first = s.took_leads g.met.I.Tokens.laws c.skip.ensures.took.1 in
    let dot = s.leads_then first (c.in_ok-expect.ensures.expects true).on.leads in
    rw (err_is c.from_residual-in_err-eat.ensures.1) (s.refuses_later dot (c.in_err-eat.ensures.eats true).refuses)

pub returns-in-Some-clause-acts : goal.returns-in-Some-clause-acts
returns-in-Some-clause-acts g c =
    let first = s.took_leads g.met.I.Tokens.laws c.skip.ensures.took.1 in
    let dot = s.leads_then first (c.in_ok-expect.ensures.expects true).on.leads in
    let some = s.eats_some true is_lparen _ c.in-Some.field-0 _ _ c.in-Some.is (c.in_ok-eat.ensures.eats true) in
    s.leads_then dot some.on.leads

pub returns-in_err-eat-2-clause-acts : goal.returns-in_err-eat-2-clause-acts
returns-in_err-eat-2-clause-acts g c =
    let first = s.took_leads g.met.I.Tokens.laws c.skip.ensures.took.1 in
    let dot = s.leads_then first (c.in_ok-expect.ensures.expects true).on.leads in
    let none = s.eats_none true is_lparen _ _ _ c.in-None.is (c.in_ok-eat.ensures.eats true) in
    rw (err_is c.from_residual-in_err-eat-2.ensures.1)
    (s.refuses_later (s.leads_then dot none.leads) (c.in_err-eat-2.ensures.eats true).refuses)

pub returns-in-Some-2-clause-acts : goal.returns-in-Some-2-clause-acts
returns-in-Some-2-clause-acts g c =
    let first = s.took_leads g.met.I.Tokens.laws c.skip.ensures.took.1 in
    let dot = s.leads_then first (c.in_ok-expect.ensures.expects true).on.leads in
    let none = s.eats_none true is_lparen _ _ _ c.in-None.is (c.in_ok-eat.ensures.eats true) in
    let some = s.eats_some true is_lbracket _ c.in-Some-2.field-0 _ _ c.in-Some-2.is
    (c.in_ok-eat-2.ensures.eats true) in
    s.leads_then (s.leads_then dot none.leads) some.on.leads

pub returns-in-None-2-clause-acts : goal.returns-in-None-2-clause-acts
returns-in-None-2-clause-acts g c =
    let first = s.took_leads g.met.I.Tokens.laws c.skip.ensures.took.1 in
    let dot = s.leads_then first (c.in_ok-expect.ensures.expects true).on.leads in
    let none = s.eats_none true is_lparen _ _ _ c.in-None.is (c.in_ok-eat.ensures.eats true) in
    let no = s.eats_none true is_lbracket _ _ _ c.in-None-2.is (c.in_ok-eat-2.ensures.eats true) in
    s.leads_then (s.leads_then dot none.leads) no.leads
