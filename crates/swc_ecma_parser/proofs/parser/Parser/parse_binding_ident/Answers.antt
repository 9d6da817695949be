use Rattle.std.specs.Prelude.{true}
use Rattle.std.proofs.Common.{refl}
use Rattle.swc_grammar.specs.Names.{ReadsName, Binding}
use Rattle.swc_ident.specs.Verdicts.{binding_verdict}
use Rattle.swc_steps.proofs.Refused.{err_is}
use Rattle.swc_steps.specs.Parsing.{binding_spelling}
use Rattle.swc_ecma_parser.specs.Promise.{Anywhere}
use Rattle.swc_steps.proofs.Naming.{honest-binding, parses_name, word_of}
use Rattle.swc_ecma_parser.proofs.{Calling.called, Calling.called-again, NameTop.binding-is_complete, NameTop.binding-is_sound}
use Rattle.swc_ecma_parser.proofs.Top as top
use Rattle.swc_ecma_parser.proofs.parser.Parser.parse_binding_ident.Goals as goal

pub returns-in_err-begin : goal.returns-in_err-begin
returns-in_err-begin g c =
    rw (err_is c.from_residual.ensures.1) (called-again c.in_err-begin.ensures.again)

pub returns : goal.returns
returns g c =
    let done = c.finish.ensures in
    let answered = c.parse_binding_ident-answer.ensures in
    called c.parse_binding_ident-answer.result c.finish.result c.in_ok-begin.ensures.runs refl done.answer done.buffer
    done.nodes done.commas done.fails
    (let parses = parses_name g.I.Tokens.model true binding_verdict honest-binding (λ b. b.id.sym)
    (λ b. b.id.span) _ _ c.parse_binding_ident-answer.result g.met.I.Tokens.laws answered.names in record {
      names = answered.names;
      read = answered.read;
      sound = top.sound g.I.Tokens.model true (ReadsName Binding) binding_spelling
          (word_of binding_verdict) binding-is_sound _ c.parse_binding_ident-answer.result _ parses;
      complete = top.complete g.I.Tokens.model true (ReadsName Binding) binding_spelling
          (word_of binding_verdict) refl Anywhere binding-is_complete _ c.parse_binding_ident-answer.result _ parses;
    })
