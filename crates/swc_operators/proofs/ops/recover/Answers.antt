use Rattle.std.proofs.Common.{◌≢◌, arith}
use Rattle.swc_context.specs.declared.error.SyntaxError.TheVariants.{OutOfMemory}
use Rattle.swc_nodes.proofs.Standing.{grows-same}
use Rattle.swc_steps.proofs.Refused.{err_is}
use Rattle.swc_steps.proofs.Steps.{if_err, on_ok, tries_node}
use Rattle.swc_steps.proofs.{Building.made_from, Making.not_recovered}
use Rattle.swc_operators.proofs.ops.recover.Goals as goal

pub returns-in_err-record_refusal : goal.returns-in_err-record_refusal
returns-in_err-record_refusal g c =
    let h = c.in_err-record_refusal.ensures.tries in
    rw (err_is c.from_residual.ensures.1) (not_recovered h (λ n. absurd (n h.kind)) (grows-same _))

pub returns : goal.returns
returns g c =
    let done = c.in_ok-record_refusal.ensures in record {
      effect = tries_node g.I.Tokens.model _ _ _ c.made.result done.tries c.made.ensures.refused;
      notes = λ l. on_ok c.made.result (done.notes l);
      some = on_ok c.made.result done.memory;
      memory = if_err (λ e. e.kind ≢ OutOfMemory) c.made.result done.memory;
      falls = on_ok c.made.result done.falls;
      grows = c.invalid-node.ensures.grows;
      from = made_from c.invalid-node.new.self _ _ _ c.invalid-node.result c.made.result
          (omega arith) c.invalid-node.ensures.made c.made.ensures.ok;
    }
