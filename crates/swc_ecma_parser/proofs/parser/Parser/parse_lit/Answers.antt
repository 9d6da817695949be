use Rattle.std.specs.Prelude.{true}
use Rattle.std.proofs.Common.{refl, ◌∙◌}
use Rattle.swc_steps.proofs.Refused.{err_is}
use Rattle.swc_ecma_parser.proofs.{Calling.called, Calling.called-again, Top.literal-meets}
use Rattle.swc_ecma_parser.proofs.parser.Parser.parse_lit.Goals as goal

pub returns-in_err-begin : goal.returns-in_err-begin
returns-in_err-begin g c = rw (err_is c.from_residual.ensures.1) (called-again c.in_err-begin.ensures.again)

pub returns : goal.returns
returns g c =
    let done = c.finish.ensures in
    let answered = c.parse_lit-answer.ensures in
    called c.parse_lit-answer.result c.finish.result c.in_ok-begin.ensures.runs refl done.answer done.buffer
    (done.nodes ∙ answered.nodes) done.commas done.fails
    (literal-meets g.I.Tokens.model g.B.BodyForms.forms _ c.parse_lit-answer.result _
    (answered.parses true) answered.literal)
