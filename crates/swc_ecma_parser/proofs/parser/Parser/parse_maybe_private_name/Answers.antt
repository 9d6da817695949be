use Rattle.std.proofs.Common.{refl}
use Rattle.swc_steps.proofs.Refused.{err_is}
use Rattle.swc_ecma_parser.proofs.Calling.{called, called-again}
use Rattle.swc_ecma_parser.proofs.parser.Parser.parse_maybe_private_name.Goals as goal

pub returns-in_err-begin : goal.returns-in_err-begin
returns-in_err-begin g c =
    rw (err_is c.from_residual.ensures.1) (called-again c.in_err-begin.ensures.again)

pub returns : goal.returns
returns g c =
    let done = c.finish.ensures in
    let answered = c.parse_maybe_private_name-answer.ensures in
    called c.parse_maybe_private_name-answer.result c.finish.result c.in_ok-begin.ensures.runs refl done.answer
    done.buffer done.nodes done.commas done.fails
    (record { names = answered.either; read = answered.read })
