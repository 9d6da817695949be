use Rattle.std.specs.Prelude.{true}
use Rattle.std.proofs.Common.{refl}
use Rattle.swc_grammar.specs.Names.{ReadsName, Reference}
use Rattle.swc_ident.specs.Verdicts.{reference_verdict}
use Rattle.swc_steps.proofs.Refused.{err_is}
use Rattle.swc_steps.specs.Parsing.{ident_spelling}
use Rattle.swc_ecma_parser.specs.Promise.{Anywhere, RefersIfFree}
use Rattle.swc_steps.proofs.Naming.{honest-reference, parses_name, word_of}
use Rattle.swc_ecma_parser.proofs.{Calling.called, Calling.called-again, NameTop.reference-is_complete, NameTop.reference-is_sound}
use Rattle.swc_ecma_parser.proofs.Top as top
use Rattle.swc_ecma_parser.proofs.parser.Parser.parse_ident_ref.Goals as goal

pub returns-in_err-begin : goal.returns-in_err-begin
returns-in_err-begin g c =
    rw (err_is c.from_residual.ensures.1) (called-again c.in_err-begin.ensures.again)

pub returns : goal.returns
returns g c =
    let done = c.finish.ensures in
    let answered = c.parse_ident_ref-answer.ensures in
    called c.parse_ident_ref-answer.result c.finish.result c.in_ok-begin.ensures.runs refl done.answer done.buffer
    done.nodes done.commas done.fails
    (let parses = parses_name g.I.Tokens.model true reference_verdict honest-reference (λ i. i.sym)
    (λ i. i.span) _ _ c.parse_ident_ref-answer.result g.met.I.Tokens.laws answered.names in record {
      names = answered.names;
      read = answered.read;
      sound = top.sound g.I.Tokens.model true RefersIfFree ident_spelling
          (word_of reference_verdict) reference-is_sound _ c.parse_ident_ref-answer.result _ parses;
      complete = top.complete g.I.Tokens.model true (ReadsName Reference) ident_spelling
          (word_of reference_verdict) refl Anywhere reference-is_complete _ c.parse_ident_ref-answer.result _ parses;
    })
