use Rattle.std.proofs.Common.{refl}
use Rattle.swc_nodes.specs.GrowingNodes.{tree_at}
use Rattle.swc_steps.proofs.Refused.{err_is}
use Rattle.swc_ecma_parser.proofs.{Calling.promised-again, Left.expr-left, Top.lhs-stops, Wholes.promised-numbered}
use Rattle.swc_ecma_parser.proofs.parser.Parser.parse_lhs_expr_id.Goals as goal

pub returns-in_err-start : goal.returns-in_err-start
returns-in_err-start g c =
    rw (err_is c.from_residual.ensures.1) (record { promised = promised-again c.in_err-start.ensures.again refl })

pub returns : goal.returns
returns g c = record {
  promised = promised-numbered g.met.B.Bodies.lawful lhs-stops c.in_ok-start.ensures.runs c.in_ok-start.ensures.start
      c.parse_lhs_expr-answer.ensures
      c.keep_checked.ensures (λ e. refl) (expr-left (tree_at c.parse_lhs_expr-answer.new.p.nodes));
}
