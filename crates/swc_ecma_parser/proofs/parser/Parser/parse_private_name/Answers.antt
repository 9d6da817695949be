use Rattle.std.specs.Prelude.{true}
use Rattle.std.proofs.Common.{refl}
use Rattle.swc_grammar.specs.{Words.hash_word, Names.ReadsName, Names.Private}
use Rattle.swc_steps.proofs.Refused.{err_is}
use Rattle.swc_steps.specs.Parsing.{private_spelling}
use Rattle.swc_ecma_parser.specs.Promise.{Anywhere}
use Rattle.swc_ecma_parser.proofs.{PrivateNames.parses_private, Calling.called, Calling.called-again, NameTop.private-is_complete, NameTop.private-is_sound}
use Rattle.swc_ecma_parser.proofs.Top as top
use Rattle.swc_ecma_parser.proofs.parser.Parser.parse_private_name.Goals as goal

pub returns-in_err-begin : goal.returns-in_err-begin
returns-in_err-begin g c =
    rw (err_is c.from_residual.ensures.1) (called-again c.in_err-begin.ensures.again)

pub returns : goal.returns
returns g c =
    let done = c.finish.ensures in
    let answered = c.parse_private_name-answer.ensures in
    called c.parse_private_name-answer.result c.finish.result c.in_ok-begin.ensures.runs refl done.answer done.buffer
    done.nodes done.commas done.fails
    (let parses = parses_private g.I.Tokens.model true (λ p. p.name)
    (λ p. p.span) _ _ c.parse_private_name-answer.result g.met.I.Tokens.laws answered.private in record {
      names = answered.private;
      read = answered.read;
      sound = top.sound g.I.Tokens.model true (ReadsName Private) private_spelling hash_word private-is_sound _
          c.parse_private_name-answer.result _ parses;
      complete = top.complete g.I.Tokens.model true (ReadsName Private) private_spelling hash_word refl Anywhere
          private-is_complete _ c.parse_private_name-answer.result _ parses;
    })
