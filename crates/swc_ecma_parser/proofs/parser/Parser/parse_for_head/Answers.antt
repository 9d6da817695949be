use Rattle.std.proofs.Common.{refl, sym}
use Rattle.swc_steps.proofs.Refused.{err_is}
use Rattle.swc_ecma_parser.specs.Calls.{nodes_of, commas_of}
use Rattle.swc_ecma_parser.proofs.ForHeads.{head-again, head-bare, head-boxes-checked, head-moved, head-promised, head-recalled, head-told, promised-head}
use Rattle.swc_ecma_parser.proofs.Moving.{cut-back}
use Rattle.swc_ecma_parser.proofs.parser.Parser.parse_for_head.Goals as goal

pub returns-in_err-start : goal.returns-in_err-start
returns-in_err-start g c = rw (err_is c.from_residual.ensures.1) (head-again c.in_err-start.ensures.again refl)

pub returns : goal.returns
returns g c =
    let moved = c.move_out_checked.ensures in
    let read = c.parse_for_head-answer.ensures in
    let ns = c.parse_for_head-answer.new.p.nodes in
    let answer = moved.checked in
    let hook = g.B.BodyForms.forms in
    let reads =
    head-boxes-checked g.I.Tokens.model g.B.Bodies.is_faithful hook c.args.is_await ns _ _ _
    c.parse_for_head-answer.result answer read.produces.reads
    moved.checks in
    let which =
    head-told g.I.Tokens.model g.B.Bodies.is_faithful hook c.args.is_await ns _ _ _ c.parse_for_head-answer.result
    answer read.produces.reads
    moved.checks read.which in
    let laws = g.met.B.Bodies.lawful in
    let boxes = head-moved ns _ answer c.move_out_checked.result moved.out.moved in
    let by = head-bare hook c.args.is_await in
    promised-head moved.at (nodes_of c.move_out_checked.new.self)
    (commas_of c.move_out_checked.new.self) c.move_out_checked.result c.move_out_checked.result
    c.in_ok-start.ensures.runs refl
    refl moved.out.buffer refl refl moved.out.fails
    (head-promised g.I.Tokens.model g.B.Bodies.is_faithful hook laws c.args.is_await _ _ by _ ns _ _ answer
    c.move_out_checked.result
    reads boxes which)
    (head-recalled g.I.Tokens.model g.B.Bodies.is_faithful hook laws c.args.is_await _ _ by _ ns _ _ answer
    c.move_out_checked.result
    reads boxes _ _ moved.out.commas)
    (cut-back (nodes_of c.move_out_checked.new.self) read.produces.grows
    (rw (sym c.in_ok-start.ensures.start) moved.out.nodes))
