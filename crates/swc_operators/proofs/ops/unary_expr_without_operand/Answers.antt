use Rattle.std.proofs.Common.{◌≢◌, arith}
use Rattle.swc_context.specs.declared.error.SyntaxError.TheVariants.{OutOfMemory}
use Rattle.swc_nodes.proofs.{Held.if_from, Standing.grows-then}
use Rattle.swc_steps.proofs.Refused.{err_is}
use Rattle.swc_steps.specs.{Parsing.tree_of, Readers.unary_op_node}
use Rattle.swc_steps.proofs.Making as m
use Rattle.swc_steps.proofs.Steps as s
use Rattle.swc_operators.proofs.ops.unary_expr_without_operand.Goals as goal

pub returns-in_err-arg : goal.returns-in_err-arg
returns-in_err-arg g c =
    let h = c.in_err-arg.ensures in rw (err_is c.from_residual.ensures.1) (m.not_recovered h.effect h.memory h.grows)

pub returns : goal.returns
returns g c =
    let model = g.I.Tokens.model in
    let sure = g.B.Bodies.is_faithful in
    let h = c.in_ok-arg.ensures in
    let r = c.unary_expr.result in
    let more = c.unary_expr.ensures in
    let view = tree_of c.unary_expr.new.p.nodes in
    let arg = tree_of c.recover.new.p.nodes c.in_ok-arg.arg in
    let above = h.from.above in record {
      effect = s.tries_then model sure view (λ x ts. unary_op_node g.B.BodyForms.forms c.args.start c.args.op x arg ts)
          _ r h.effect more.reads.reads more.memory;
      notes = λ l. s.notes_then model sure view (λ x ts.
          unary_op_node g.B.BodyForms.forms c.args.start c.args.op x arg ts) c.args.p.now.input (h.notes l)
          (s.here g.met.I.Tokens.laws _) _ r more.reads.reads;
      some = s.on_ok r h.some;
      memory = s.if_err (λ e. e.kind ≢ OutOfMemory) r h.some;
      falls = s.falls_after model c.unary_expr.new.p.input r h.effect more.reads.falls;
      grows = grows-then h.grows more.reads.grows;
      from = if_from _ _ _ (λ x. x) r (omega arith) more.reads.from;
    }
