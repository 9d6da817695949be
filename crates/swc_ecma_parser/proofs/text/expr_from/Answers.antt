use Rattle.swc_grammar.specs.Symbols.{Expr}
use Rattle.swc_steps.specs.Parsing.{tree_of}
use Rattle.std.proofs.Common.{refl}
use Rattle.swc_lexer.specs.Inputs.{text_state, new_state, new_known}
use Rattle.swc_lexer.specs.{declared.reader.End.TheVariants.Whole, declared.stack.Start.TheVariants.Operand}
use Rattle.swc_ecma_parser.proofs.WholeList.{front-new-text, headline-in}
use Rattle.swc_ecma_parser.proofs.text.expr_from.Goals as goal

pub returns-clause-headline : goal.returns-clause-headline
returns-clause-headline g c = λ heeded modern. headline-in (text_state c.new_at-source.result)
    (new_state Whole c.args.at Operand (g.T.SourceText.bytes c.args.text) c.args.ctx c.args.syntax c.args.target) c.new_at-source.ensures.state
    (record {
      known = new_known Whole c.args.at Operand (g.T.SourceText.bytes c.args.text) c.args.ctx c.args.syntax c.args.target modern;
      clean =
          refl;
    })
    c.read_whole_expr.ensures.headline heeded

pub returns-clause-front : goal.returns-clause-front
returns-clause-front g c = front-new-text g.B.BodyForms.forms Expr c.new_at-source.result tree_of
    c.read_whole_expr.result.read c.read_whole_expr.result.nodes c.read_whole_expr.result.recorded.items _
    (new_state Whole c.args.at Operand (g.T.SourceText.bytes c.args.text) c.args.ctx c.args.syntax c.args.target) c.new_at-source.ensures.state refl
    c.new_at-source.ensures.coming c.read_whole_expr.ensures.front
