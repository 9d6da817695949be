use Rattle.std.proofs.Common.{Ok, Err}
use Rattle.swc_steps.proofs.Refused.{err_is}
use Rattle.swc_steps.proofs.Steps.{looks}
use Rattle.swc_steps.proofs.productions.Productions.is_end.Goals as goal

pub returns-in_err-has_cur-clause-looks : goal.returns-in_err-has_cur-clause-looks
returns-in_err-has_cur-clause-looks g c =
    rw (err_is c.from_residual.ensures.1)
    (looks g.met.I.Tokens.laws _ _ (Err c.in_err-has_cur.field-0.0) c.in_err-has_cur.ensures.looked tt
    c.in_err-has_cur.ensures.refused)

pub returns-clause-looks : goal.returns-clause-looks
returns-clause-looks g c =
    looks g.met.I.Tokens.laws _ _ (Ok c.in_ok-has_cur.field-0) c.in_ok-has_cur.ensures.looked
    c.in_ok-has_cur.ensures.seen tt
