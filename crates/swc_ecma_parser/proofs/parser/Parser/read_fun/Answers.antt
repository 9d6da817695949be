use Rattle.std.proofs.Common.{refl, ◌∙◌}
use Rattle.swc_steps.proofs.Refused.{err_is}
use Rattle.swc_ecma_parser.proofs.{Calling.called, Calling.called-again, HookTop.hook-reads}
use Rattle.swc_ecma_parser.proofs.parser.Parser.read_fun.Goals as goal

pub returns-in_err-begin : goal.returns-in_err-begin
returns-in_err-begin g c = rw (err_is c.from_residual.ensures.1) (called-again c.in_err-begin.ensures.again)

pub returns : goal.returns
returns g c =
    let done = c.finish.ensures in
    let read = c.parse_function-answer.ensures in
    called c.parse_function-answer.result c.finish.result c.in_ok-begin.ensures.runs refl done.answer done.buffer
    (done.nodes ∙ read.nodes) done.commas done.fails
    (hook-reads g.B.BodyForms.forms.fun g.met.B.Bodies.lawful.fun g.I.Tokens.model g.B.Bodies.is_faithful _
    c.parse_function-answer.result _ read.reads read.falls)
