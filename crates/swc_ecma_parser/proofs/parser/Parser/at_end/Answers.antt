use Rattle.std.proofs.Common.{refl, ◌∙◌}
use Rattle.swc_steps.proofs.Refused.{err_is}
use Rattle.swc_ecma_parser.proofs.{Calling.called, Calling.called-again, Ending.sees_end}
use Rattle.swc_ecma_parser.proofs.parser.Parser.at_end.Goals as goal

pub returns-in_err-begin : goal.returns-in_err-begin
returns-in_err-begin g c =
    rw (err_is c.from_residual.ensures.1) (called-again c.in_err-begin.ensures.again)

pub returns : goal.returns
returns g c =
    let done = c.finish.ensures in
    let answered = c.is_end-answer.ensures in
    called c.is_end-answer.result c.finish.result c.in_ok-begin.ensures.runs refl done.answer done.buffer
    (done.nodes ∙ answered.nodes) done.commas done.fails
    (sees_end c.is_end-answer.result answered.looks answered.end answered.token answered.refused)
