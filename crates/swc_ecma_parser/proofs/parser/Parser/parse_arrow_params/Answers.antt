use Rattle.std.proofs.Common.{refl, sym}
use Rattle.swc_ast.specs.TreeOf.{pat_tree}
use Rattle.swc_steps.proofs.Refused.{err_is}
use Rattle.swc_ecma_parser.specs.Calls.{buffer_of, nodes_of, commas_of, pats_tree}
use Rattle.swc_ecma_parser.specs.ArrowParams.{params_items}
use Rattle.swc_ecma_parser.proofs.ArrowPromise.{bound-params, params-boxes-checked, params-recalled, meets-arrow-params}
use Rattle.swc_ecma_parser.proofs.{Calling.promised, Calling.promised-again, Moving.cut-back}
use Rattle.swc_ecma_parser.proofs.parser.Parser.parse_arrow_params.Goals as goal

pub returns-in_err-start-clause-promised : goal.returns-in_err-start-clause-promised
returns-in_err-start-clause-promised g c =
    rw (err_is c.from_residual.ensures.1) (promised-again c.in_err-start.ensures.again refl)

pub returns-in_err-start-clause-binds : goal.returns-in_err-start-clause-binds
returns-in_err-start-clause-binds g c = λ runs. bound-params g.I.Tokens.model g.B.BodyForms.forms
    (pats_tree (pat_tree _ _ _ g.B.Fun.Spanned.place g.B.Class.Spanned.place g.B.Block.Spanned.place))
    (buffer_of c.args.self.now) c.from_residual.result (buffer_of c.args.self.now)
    ((returns-in_err-start-clause-promised g c).sound runs)

pub returns-clause-promised : goal.returns-clause-promised
returns-clause-promised g c =
    let moved = c.move_out_checked.ensures in
    let read = c.parse_arrow_params-answer.ensures in
    let ns = c.parse_arrow_params-answer.new.p.nodes in
    let answer = moved.checked in
    let reads =
    params-boxes-checked g.I.Tokens.model g.B.Bodies.is_faithful
    (params_items g.B.BodyForms.forms) ns _ _ _ c.parse_arrow_params-answer.result answer read.reads
    moved.checks in
    promised moved.at (nodes_of c.move_out_checked.new.self)
    (commas_of c.move_out_checked.new.self) c.move_out_checked.result c.move_out_checked.result
    c.in_ok-start.ensures.runs refl
    refl moved.out.buffer refl refl moved.out.fails
    (meets-arrow-params g.I.Tokens.model g.B.Bodies.is_faithful g.B.BodyForms.forms g.met.B.Bodies.lawful ns _ _ answer
    c.move_out_checked.result reads moved.out.moved)
    (params-recalled g.I.Tokens.model g.B.Bodies.is_faithful g.B.BodyForms.forms g.met.B.Bodies.lawful ns _ _ answer
    c.move_out_checked.result reads moved.out.moved _ _ moved.out.commas)
    (cut-back (nodes_of c.move_out_checked.new.self) read.grows (rw (sym c.in_ok-start.ensures.start) moved.out.nodes))

pub returns-clause-binds : goal.returns-clause-binds
returns-clause-binds g c = λ runs. bound-params g.I.Tokens.model g.B.BodyForms.forms
    (pats_tree (pat_tree _ _ _ g.B.Fun.Spanned.place g.B.Class.Spanned.place g.B.Block.Spanned.place))
    (buffer_of c.args.self.now) c.move_out_checked.result (buffer_of c.move_out_checked.new.self)
    ((returns-clause-promised g c).sound runs)
