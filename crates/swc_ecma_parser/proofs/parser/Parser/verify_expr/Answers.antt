use Rattle.std.proofs.Common.{sym, ◌∙◌}
use Rattle.swc_input.specs.Buffer.{last_position}
use Rattle.swc_nodes.specs.GrowingNodes.{count}
use Rattle.swc_steps.proofs.Refused.{err_is}
use Rattle.swc_ecma_parser.specs.Calls.{buffer_of, nodes_of, commas_of, tree_by}
use Rattle.swc_ecma_parser.proofs.Verified.{meets-verification, moved-given, promised-verification, verification-again}
use Rattle.swc_ecma_parser.proofs.{Bare.bare-boxed, Moving.cut-back}
use Rattle.swc_ecma_parser.proofs.parser.Parser.verify_expr.Goals as goal

pub returns-in_err-start : goal.returns-in_err-start
returns-in_err-start g c = rw (err_is c.from_residual.ensures.1) (verification-again c.in_err-start.ensures.again)

pub returns : goal.returns
returns g c =
    let done = c.finish.ensures in
    let moved = c.lift_out-answer.ensures in
    let made = c.look_through-answer.ensures in
    let p = c.args.self.now in
    let q = c.look_through-answer.new.self in
    let given = tree_by g.B.Fun.Spanned.place g.B.Class.Spanned.place g.B.Block.Spanned.place c.args.expr in
    promised-verification _ (nodes_of c.lift_out-answer.new.self) (commas_of c.lift_out-answer.new.self)
    c.lift_out-answer.result c.finish.result c.in_ok-start.ensures.runs (moved.runs ∙ made.runs)
    done.answer (done.buffer ∙ moved.buffer) done.nodes done.commas done.fails
    (meets-verification g.I.Tokens.model given
    (tree_by g.B.Fun.Spanned.place g.B.Class.Spanned.place g.B.Block.Spanned.place)
    (buffer_of p) (buffer_of q) (last_position (buffer_of q)) c.look_through-answer.result c.lift_out-answer.result
    made.looks.0
    (moved-given _ (tree_by g.B.Fun.Spanned.place g.B.Class.Spanned.place g.B.Block.Spanned.place) given
    (count (nodes_of p))
    (nodes_of q) c.look_through-answer.result c.lift_out-answer.result
    (bare-boxed g.B.Fun.Spanned.place g.B.Class.Spanned.place g.B.Block.Spanned.place c.args.expr) made.looks.1
    moved.moved))
    (moved.commas ∙ made.commas)
    (cut-back (nodes_of c.lift_out-answer.new.self) made.grows (rw (sym c.in_ok-start.ensures.start) moved.nodes))
