use Rattle.std.proofs.Common.{refl, sym, ◌∙◌}
use Rattle.swc_ast.specs.{TreeOf.pat_tree, Trees.is_valid, Trees.unmarked}
use Rattle.swc_steps.proofs.Refused.{err_is}
use Rattle.swc_cover.specs.PatTypes.{want_as}
use Rattle.swc_nodes.specs.{GrowingNodes.count, NodeParts.one_pat}
use Rattle.swc_steps.specs.Params.{pat_at}
use Rattle.swc_ecma_parser.specs.Calls.{nodes_of, commas_of, tree_by}
use Rattle.swc_ecma_parser.specs.Refinement.{marked_expr, pattern_of}
use Rattle.swc_ecma_parser.proofs.Refined.{cut-kept, meets-refinement, of-answer, promised-refinement, records-moved, refinement-again, whichever}
use Rattle.swc_ecma_parser.proofs.parser.Parser.reparse_expr_as_pat.Goals as goal

pub lift_out-answer-requires : goal.lift_out-answer-requires
lift_out-answer-requires g c = rw (c.in_ok-start.ensures.start)
    (of-answer _ _ _ c.recast_expr-answer.result c.recast_expr-answer.ensures.recasts (λ x w. w.apart))

pub returns-in_err-start : goal.returns-in_err-start
returns-in_err-start g c = rw (err_is c.from_residual.ensures.1) (refinement-again refl c.in_err-start.ensures.again)

pub returns : goal.returns
returns g c =
    let done = c.finish.ensures in
    let moved = c.lift_out-answer.ensures in
    let made = c.recast_expr-answer.ensures in
    let p = c.args.self.now in
    let e = c.args.expr in
    promised-refinement _ (nodes_of c.lift_out-answer.new.self) (commas_of c.lift_out-answer.new.self)
    c.lift_out-answer.result c.finish.result c.in_ok-start.ensures.runs (moved.runs ∙ made.runs)
    done.answer (done.buffer ∙ moved.buffer) done.nodes done.commas done.fails
    (meets-refinement g.I.Tokens.model
    (is_valid (tree_by g.B.Fun.Spanned.place g.B.Class.Spanned.place g.B.Block.Spanned.place e))
    (pattern_of g.I.Tokens.model c.args.pat_type e p) (want_as c.args.pat_type (marked_expr p e)) pat_at one_pat
    unmarked
    (pat_tree _ _ _ g.B.Fun.Spanned.place g.B.Class.Spanned.place g.B.Block.Spanned.place)
    (count (nodes_of p)) p c.recast_expr-answer.new.self c.recast_expr-answer.result c.lift_out-answer.result
    made.recasts moved.moved)
    (records-moved _ _ _ _ c.recast_expr-answer.result c.lift_out-answer.result made.judges moved.moved)
    (moved.commas ∙ made.commas)
    (cut-kept (nodes_of c.lift_out-answer.new.self) (whichever _ _ _ c.recast_expr-answer.result made.recasts
    (λ x w. w.kept) (λ e w. w.kept)) (rw (sym c.in_ok-start.ensures.start) moved.nodes))
