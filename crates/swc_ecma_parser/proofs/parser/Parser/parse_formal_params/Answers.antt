use Rattle.std.proofs.Common.{refl, sym}
use Rattle.swc_steps.proofs.Refused.{err_is}
use Rattle.swc_steps.specs.Params.{placed}
use Rattle.swc_ecma_parser.specs.Calls.{nodes_of, commas_of}
use Rattle.swc_ecma_parser.proofs.FormalParams.{derives-bare, meets-params, params-again, params-alone, params-checked, params-moved, params-placed, placed-moved, promised-params}
use Rattle.swc_ecma_parser.proofs.{Finished.checked-holds, Moving.cut-back}
use Rattle.swc_ecma_parser.proofs.parser.Parser.parse_formal_params.Goals as goal

pub returns-in_err-start : goal.returns-in_err-start
returns-in_err-start g c = rw (err_is c.from_residual.ensures.1) (params-again c.in_err-start.ensures.again refl)

pub returns : goal.returns
returns g c =
    let moved = c.move_out_checked.ensures in
    let read = c.parse_formal_params-answer.ensures in
    let ns = c.parse_formal_params-answer.new.p.nodes in
    let answer = moved.checked in
    let hook = g.B.BodyForms.forms in
    let reads =
    params-checked g.I.Tokens.model g.B.Bodies.is_faithful hook ns _ _ _ c.parse_formal_params-answer.result answer
    read.reads moved.checks in
    let alone =
    params-alone g.I.Tokens.model g.B.Bodies.is_faithful hook ns _ _ _ c.parse_formal_params-answer.result answer
    read.reads read.each moved.checks in
    promised-params moved.at (nodes_of c.move_out_checked.new.self) (commas_of c.move_out_checked.new.self)
    c.move_out_checked.result c.move_out_checked.result c.in_ok-start.ensures.runs refl
    refl moved.out.buffer refl refl moved.out.fails
    (meets-params g.I.Tokens.model g.B.Bodies.is_faithful hook g.met.B.Bodies.lawful _ _
    (derives-bare hook) _ ns _ _ _ _
    answer c.move_out_checked.result reads alone (params-moved ns _ answer c.move_out_checked.result moved.out.moved)
    moved.out.commas)
    (cut-back (nodes_of c.move_out_checked.new.self) read.grows (rw (sym c.in_ok-start.ensures.start) moved.out.nodes))
    (placed-moved ns _ answer c.move_out_checked.result moved.out.moved
    (checked-holds g.I.Tokens.model _ _ _ (λ x. placed ns x.items) c.parse_formal_params-answer.result answer
    moved.checks (params-placed ns _ c.parse_formal_params-answer.result read.from)))
