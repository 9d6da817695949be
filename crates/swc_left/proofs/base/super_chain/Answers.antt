use Rattle.swc_steps.proofs.Refused.{err_is}
use Rattle.swc_steps.proofs.Steps as s
use Rattle.swc_left.proofs.base.super_chain.Goals as goal

pub returns-in_err-look-clause-acts : goal.returns-in_err-look-clause-acts
returns-in_err-look-clause-acts g c =
    rw (err_is c.from_residual.ensures.1) (s.forgoes_refuses c.in_err-look.ensures.looks)

pub returns-then-not-is_sign-clause-acts : goal.returns-then-not-is_sign-clause-acts
returns-then-not-is_sign-clause-acts g c = s.refuses_later
    (s.here_leads c.in_ok-look.ensures.looks) c.refuse_super_token.ensures

pub returns-in_err-chain_behind-clause-acts : goal.returns-in_err-chain_behind-clause-acts
returns-in_err-chain_behind-clause-acts g c =
    rw (err_is c.from_residual-in_err-chain_behind.ensures.1)
    (s.forgoes_refuses (s.forgoes_later (s.here_leads c.in_ok-look.ensures.looks) c.in_err-chain_behind.ensures.tells))

pub returns-in-Some-clause-acts : goal.returns-in-Some-clause-acts
returns-in-Some-clause-acts g c =
    s.acts_later _ c.super_chain_link.result (s.told_leads c.in_ok-look.ensures.looks
    c.in_ok-chain_behind.ensures.tells) c.super_chain_link.ensures.acts

pub returns-in-None-clause-acts : goal.returns-in-None-clause-acts
returns-in-None-clause-acts g c =
    s.refuses_later (s.told_leads c.in_ok-look.ensures.looks c.in_ok-chain_behind.ensures.tells)
    c.refuse_super_token-in-None.ensures
