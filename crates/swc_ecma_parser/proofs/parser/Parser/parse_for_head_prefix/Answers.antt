use Rattle.std.proofs.Common.{refl, sym, ap}
use Rattle.swc_nodes.specs.{GrowingNodes.bare_at, NodeParts.one_expr, declared.node.ExprId.ExprId}
use Rattle.swc_steps.proofs.Refused.{err_is}
use Rattle.swc_steps.specs.Parsing.{tree_of}
use Rattle.swc_ast.specs.Trees.{unmarked}
use Rattle.swc_ecma_parser.specs.Calls.{nodes_of, commas_of, tree_by}
use Rattle.swc_ecma_parser.specs.ForHeads.{own_head_expr}
use Rattle.swc_ecma_parser.proofs.ForHeadPrefix.{checked_prefix, meets-prefix, prefix-again, prefix-marked, prefix-words, words-of}
use Rattle.swc_ecma_parser.proofs.Moving.{moved-parses, cut-back, recalled-by}
use Rattle.swc_ecma_parser.proofs.{Calling.promised, Finished.expr-boxes-checked}
use Rattle.swc_ecma_parser.proofs.parser.Parser.parse_for_head_prefix.Goals as goal

pub returns-in_err-start : goal.returns-in_err-start
returns-in_err-start g c = rw (err_is c.from_residual.ensures.1) (prefix-again c.in_err-start.ensures.again refl)

pub returns : goal.returns
returns g c =
    let boxed = tree_by g.B.Fun.Spanned.place g.B.Class.Spanned.place g.B.Block.Spanned.place in
    let moved = c.move_out_checked.ensures in
    let read = c.parse_head_expr-answer.ensures.own
    (ap (λ v. v.expr_ctx.for_await_loop_init) c.get_ctx-ctx.ensures) in
    let ns = c.parse_head_expr-answer.new.p.nodes in
    let answer = moved.checked in
    let hook = g.B.BodyForms.forms in
    let laws = g.met.B.Bodies.lawful in
    let bare = λ (e : ExprId). bare_at ns e.0 in
    let looked = expr-boxes-checked g.I.Tokens.model g.B.Bodies.is_faithful
    (own_head_expr hook) ns _ _ _ c.parse_head_expr-answer.result answer read.reads
    moved.checks in
    let reads = moved-parses g.I.Tokens.model g.B.Bodies.is_faithful
    (checked_prefix hook) ns tree_of bare boxed _ _ answer
    c.move_out_checked.result looked (λ e. refl) moved.out.moved in
    record {
      promised = promised moved.at (nodes_of c.move_out_checked.new.self)
          (commas_of c.move_out_checked.new.self) c.move_out_checked.result c.move_out_checked.result
          c.in_ok-start.ensures.runs refl refl moved.out.buffer refl refl moved.out.fails
          (meets-prefix g.I.Tokens.model g.B.Bodies.is_faithful hook laws boxed _ c.move_out_checked.result _ reads)
          (recalled-by g.I.Tokens.model g.B.Bodies.is_faithful _ (checked_prefix hook)
          (prefix-marked hook laws) unmarked ns
          (tree_of ns) bare boxed one_expr _ _ answer c.move_out_checked.result _ _ looked (λ e. refl) (λ e. refl)
          moved.out.moved moved.out.commas)
          (cut-back (nodes_of c.move_out_checked.new.self) read.grows
          (rw (sym c.in_ok-start.ensures.start) moved.out.nodes));
      words = words-of c.args.self.now c.move_out_checked.new.self
          (prefix-words g.I.Tokens.model g.B.Bodies.is_faithful hook boxed _ c.move_out_checked.result _ reads)
          refl moved.out.buffer;
    }
