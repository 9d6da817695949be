use Rattle.std.proofs.Common.{refl}
use Rattle.swc_steps.proofs.Refused.{err_is}
use Rattle.swc_ecma_parser.proofs.Calling.{called, called-again}
use Rattle.swc_ecma_parser.proofs.parser.Parser.parse_label_ident.Goals as goal

pub returns-in_err-begin : goal.returns-in_err-begin
returns-in_err-begin g c =
    rw (err_is c.from_residual.ensures.1) (called-again c.in_err-begin.ensures.again)

pub returns : goal.returns
returns g c =
    let done = c.finish.ensures in
    let answered = c.parse_label_ident-answer.ensures in
    called c.parse_label_ident-answer.result c.finish.result c.in_ok-begin.ensures.runs refl done.answer done.buffer
    done.nodes done.commas done.fails
    (record { names = answered.names; read = answered.read })
