use Rattle.std.proofs.Common.{false, refl, sym, ◌∙◌}
use Rattle.swc_grammar.specs.{Symbols.Arguments, Clean.sym as at, Clean.run}
use Rattle.swc_steps.proofs.Refused.{err_is}
use Rattle.swc_steps.specs.Parsing.{args_at}
use Rattle.swc_nodes.specs.{NodeParts.args_parts, GrowingNodes.tree_at}
use Rattle.swc_nodes.proofs.Remembered.{args-commas}
use Rattle.swc_ecma_parser.specs.{Calls.nodes_of, Calls.commas_of, Promise.items_and_comma, Promise.list_tree}
use Rattle.swc_ecma_parser.proofs.Moving.{moved-by, moved-list, bare_list, list-bare, cut-back, recalled, recalled-list}
use Rattle.swc_ecma_parser.proofs.Top.{args-stops, leaves-list, meets-as}
use Rattle.swc_ecma_parser.proofs.{Placed.list-placed, Calling.promised, Calling.promised-again}
use Rattle.swc_ecma_parser.proofs.parser.Parser.parse_args_or_pats.Goals as goal

pub returns-in_err-start : goal.returns-in_err-start
returns-in_err-start g c =
    rw (err_is c.from_residual.ensures.1) (record { promised = promised-again c.in_err-start.ensures.again refl })

pub returns : goal.returns
returns g c =
    let boxed = list_tree g.B.Fun.Spanned.place g.B.Class.Spanned.place g.B.Block.Spanned.place in
    let done = c.finish.ensures in
    let moved = c.move_out-answer.ensures in
    let read = c.parse_arguments-answer.ensures in
    let ns = c.parse_arguments-answer.new.p.nodes in
    record {
      promised = promised c.parse_arguments-answer.new.p.input (nodes_of c.move_out-answer.new.self)
          (commas_of c.move_out-answer.new.self) c.with_comma-answer.result c.finish.result c.in_ok-start.ensures.runs
          moved.runs
          done.answer (done.buffer ∙ moved.buffer) done.nodes done.commas done.fails
          (meets-as g.I.Tokens.model g.B.Bodies.is_faithful g.B.BodyForms.forms g.met.B.Bodies.lawful boxed leaves-list
          (list-placed g.B.BodyForms.forms) args-stops _ c.with_comma-answer.result _
          (moved-by g.I.Tokens.model g.B.Bodies.is_faithful (run g.B.BodyForms.forms (at (Arguments false))) ns args_at
          (bare_list ns) boxed items_and_comma _ _ c.parse_arguments-answer.result c.with_comma-answer.result
          read.reads
          (list-bare ns) (moved-list ns _ c.last_comma-comma.result c.parse_arguments-answer.result
          c.move_out-answer.result c.with_comma-answer.result c.last_comma-comma.ensures moved.moved
          c.with_comma-answer.ensures)))
          (recalled g.I.Tokens.model g.B.Bodies.is_faithful g.B.BodyForms.forms g.met.B.Bodies.lawful
          (Arguments false) items_and_comma ns (args_at ns) (bare_list ns) (boxed) (λ l. args_parts l.items)
          _ _ c.parse_arguments-answer.result c.with_comma-answer.result _ _ read.reads (list-bare ns)
          (λ l. args-commas (tree_at ns) l.items) (moved-list ns _ c.last_comma-comma.result
          c.parse_arguments-answer.result c.move_out-answer.result c.with_comma-answer.result
          c.last_comma-comma.ensures moved.moved c.with_comma-answer.ensures)
          (recalled-list ns _ _ c.last_comma-comma.result c.parse_arguments-answer.result c.move_out-answer.result
          c.with_comma-answer.result moved.commas c.with_comma-answer.ensures))
          (cut-back (nodes_of c.move_out-answer.new.self) read.grows
          (rw (sym c.in_ok-start.ensures.start) moved.nodes));
    }
