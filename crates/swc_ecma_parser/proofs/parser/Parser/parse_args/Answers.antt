use Rattle.std.proofs.Common.{refl, sym}
use Rattle.swc_grammar.specs.{Symbols.Arguments, Clean.sym as at, Clean.run}
use Rattle.swc_ast.specs.Parts.{args_tree}
use Rattle.swc_nodes.specs.{GrowingNodes.tree_at, GrowingNodes.bare_at, NodeParts.args_parts}
use Rattle.swc_steps.proofs.Refused.{err_is}
use Rattle.swc_steps.specs.Parsing.{args_at}
use Rattle.swc_nodes.proofs.Remembered.{args-commas}
use Rattle.swc_ecma_parser.specs.Calls.{nodes_of, commas_of, tree_by}
use Rattle.swc_ecma_parser.specs.Promise.{only_items}
use Rattle.swc_ecma_parser.proofs.Finished.{args-checked, checked, meets-as-checked, recalled-checked}
use Rattle.swc_ecma_parser.proofs.Moving.{moved-by, args-bare, cut-back}
use Rattle.swc_ecma_parser.proofs.{Placed.arguments-placed, Calling.promised, Calling.promised-again, Top.args-stops, Top.leaves-items}
use Rattle.swc_ecma_parser.proofs.parser.Parser.parse_args.Goals as goal

pub returns-in_err-start : goal.returns-in_err-start
returns-in_err-start g c =
    rw (err_is c.from_residual.ensures.1) (record { promised = promised-again c.in_err-start.ensures.again refl })

pub returns : goal.returns
returns g c =
    let boxed = tree_by g.B.Fun.Spanned.place g.B.Class.Spanned.place g.B.Block.Spanned.place in
    let moved = c.move_out_checked.ensures in
    let read = c.parse_arguments-answer.ensures in
    let ns = c.parse_arguments-answer.new.p.nodes in
    let answer = moved.checked in
    let reads =
    args-checked g.I.Tokens.model g.B.Bodies.is_faithful
    (run g.B.BodyForms.forms (at (Arguments c.args.is_dynamic_import))) ns _ _ _
    c.parse_arguments-answer.result answer read.reads moved.checks in
    record {
      promised = promised moved.at (nodes_of c.move_out_checked.new.self)
          (commas_of c.move_out_checked.new.self) c.move_out_checked.result c.move_out_checked.result
          c.in_ok-start.ensures.runs refl
          refl moved.out.buffer refl refl moved.out.fails
          (meets-as-checked g.I.Tokens.model g.B.Bodies.is_faithful g.B.BodyForms.forms g.met.B.Bodies.lawful
          (args_tree boxed) leaves-items (arguments-placed g.B.BodyForms.forms) args-stops _
          c.move_out_checked.result _
          (moved-by g.I.Tokens.model g.B.Bodies.is_faithful
          (checked only_items (run g.B.BodyForms.forms (at (Arguments c.args.is_dynamic_import)))) ns args_at
          (λ l. args_tree (λ e. bare_at ns e.0) l.items)
          (args_tree boxed) only_items _ _ answer c.move_out_checked.result reads
          (args-bare ns) moved.out.moved))
          (recalled-checked g.I.Tokens.model g.B.Bodies.is_faithful g.B.BodyForms.forms g.met.B.Bodies.lawful
          (Arguments c.args.is_dynamic_import) only_items ns (args_at ns)
          (λ l. args_tree (λ e. bare_at ns e.0) l.items) (args_tree boxed) (λ l. args_parts l.items)
          _ _ answer c.move_out_checked.result _ _ reads (args-bare ns) (λ l. args-commas (tree_at ns) l.items)
          (moved.out.moved) (moved.out.commas))
          (cut-back (nodes_of c.move_out_checked.new.self) read.grows
          (rw (sym c.in_ok-start.ensures.start) moved.out.nodes));
    }
