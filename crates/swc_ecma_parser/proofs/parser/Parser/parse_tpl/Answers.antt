use Rattle.std.proofs.Common.{refl}
use Rattle.swc_nodes.specs.GrowingNodes.{tree_at}
use Rattle.swc_nodes.proofs.Remembered.{tpl-commas}
use Rattle.swc_steps.proofs.Refused.{err_is}
use Rattle.swc_ecma_parser.proofs.{Calling.promised-again, Moving.tpl-bare, Top.tpl-stops, Wholes.promised-piece}
use Rattle.swc_ecma_parser.proofs.parser.Parser.parse_tpl.Goals as goal

pub returns-in_err-start : goal.returns-in_err-start
returns-in_err-start g c =
    rw (err_is c.from_residual.ensures.1) (record { promised = promised-again c.in_err-start.ensures.again refl })

pub returns : goal.returns
returns g c =
    let ns = c.parse_template-answer.new.p.nodes in
    record {
      promised = promised-piece g.met.B.Bodies.lawful tpl-stops c.in_ok-start.ensures.runs c.in_ok-start.ensures.start
          c.parse_template-answer.ensures c.hand_out.ensures (tpl-bare ns) (tpl-commas (tree_at ns));
    }
