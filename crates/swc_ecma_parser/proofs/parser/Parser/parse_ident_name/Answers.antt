use Rattle.std.specs.Prelude.{true}
use Rattle.std.proofs.Common.{refl}
use Rattle.swc_grammar.specs.Names.{ReadsName, Name}
use Rattle.swc_ident.specs.Verdicts.{name_of_any}
use Rattle.swc_steps.proofs.Refused.{err_is}
use Rattle.swc_steps.specs.Parsing.{name_spelling}
use Rattle.swc_ecma_parser.specs.Promise.{Anywhere}
use Rattle.swc_steps.proofs.Naming.{honest-name, parses_name, word_of}
use Rattle.swc_ecma_parser.proofs.{Calling.called, Calling.called-again, NameTop.name-is_complete, NameTop.name-is_sound}
use Rattle.swc_ecma_parser.proofs.Top as top
use Rattle.swc_ecma_parser.proofs.parser.Parser.parse_ident_name.Goals as goal

pub returns-in_err-begin : goal.returns-in_err-begin
returns-in_err-begin g c =
    rw (err_is c.from_residual.ensures.1) (called-again c.in_err-begin.ensures.again)

pub returns : goal.returns
returns g c =
    let done = c.finish.ensures in
    let answered = c.parse_ident_name-answer.ensures in
    called c.parse_ident_name-answer.result c.finish.result c.in_ok-begin.ensures.runs refl done.answer done.buffer
    done.nodes done.commas done.fails
    (let parses = parses_name g.I.Tokens.model true name_of_any honest-name (λ n. n.sym)
    (λ n. n.span) _ _ c.parse_ident_name-answer.result g.met.I.Tokens.laws answered.names in record {
      names = answered.names;
      read = answered.read;
      sound = top.sound g.I.Tokens.model true (ReadsName Name) name_spelling
          (word_of name_of_any) name-is_sound _ c.parse_ident_name-answer.result _ parses;
      complete = top.complete g.I.Tokens.model true (ReadsName Name) name_spelling
          (word_of name_of_any) refl Anywhere name-is_complete _ c.parse_ident_name-answer.result _ parses;
    })
