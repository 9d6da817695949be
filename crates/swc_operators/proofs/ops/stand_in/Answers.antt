use Rattle.swc_nodes.proofs.Standing.{grows-same}
use Rattle.swc_steps.proofs.Refused.{err_is}
use Rattle.swc_steps.proofs.{Building.made_at, Making.not_recovered, Steps.forgoes_later, Steps.forgoes_here}
use Rattle.swc_operators.proofs.ops.stand_in.Goals as goal

pub returns-in_err-emit_err-clause-recovers : goal.returns-in_err-emit_err-clause-recovers
returns-in_err-emit_err-clause-recovers g c =
    rw (err_is c.from_residual.ensures.1) (not_recovered c.in_err-emit_err.ensures.tries (λ n h. cc) (grows-same _))

pub returns-in_err-left-clause-recovers : goal.returns-in_err-left-clause-recovers
returns-in_err-left-clause-recovers g c =
    rw (err_is c.from_residual-in_err-left.ensures.1) (not_recovered (forgoes_later c.in_ok-emit_err.ensures.tries
    (forgoes_here g.met.I.Tokens.laws _ _ _ c.in_err-left.ensures.refused))
    (λ n h. cc) c.invalid-node.ensures.grows)

pub returns-clause-recovers : goal.returns-clause-recovers
returns-clause-recovers g c = record {
  effect = c.in_ok-emit_err.ensures.tries;
  notes = c.in_ok-emit_err.ensures.notes;
  some = λ h. cc;
  memory = tt;
  falls = c.in_ok-emit_err.ensures.falls;
  grows = c.invalid-node.ensures.grows;
  from = (made_at c.invalid-node.new.self _ _ c.invalid-node.result c.in_ok-left.left c.invalid-node.ensures.made
      c.in_ok-left.ensures.ok).from;
}
