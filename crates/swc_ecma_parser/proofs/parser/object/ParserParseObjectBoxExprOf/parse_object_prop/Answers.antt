use Rattle.std.proofs.Common.{refl}
use Rattle.swc_nodes.specs.GrowingNodes.{tree_at}
use Rattle.swc_nodes.proofs.{Unmarked.unmarked-prop, Remembered.prop-commas}
use Rattle.swc_steps.proofs.Refused.{err_is}
use Rattle.swc_ecma_parser.proofs.{Calling.promised-again, Top.prop-stops, Wholes.promised-piece}
use Rattle.swc_ecma_parser.proofs.parser.object.ParserParseObjectBoxExprOf.parse_object_prop.Goals as goal

pub returns-in_err-start : goal.returns-in_err-start
returns-in_err-start g c =
    rw (err_is c.from_residual.ensures.1) (promised-again c.in_err-start.ensures.again refl)

pub returns : goal.returns
returns g c =
    let at = tree_at c.parse_object_prop-answer.new.p.nodes in
    promised-piece g.met.B.Bodies.lawful prop-stops c.in_ok-start.ensures.runs c.in_ok-start.ensures.start
    c.parse_object_prop-answer.ensures c.hand_out.ensures
    (unmarked-prop g.B.Fun.Spanned.place g.B.Class.Spanned.place g.B.Block.Spanned.place at)
    (prop-commas g.B.Fun.Spanned.place g.B.Class.Spanned.place g.B.Block.Spanned.place at)
