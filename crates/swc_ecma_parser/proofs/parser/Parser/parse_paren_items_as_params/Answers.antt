use Rattle.std.proofs.Common.{◌≡◌, map, refl, sym, ◌∙◌}
use Rattle.swc_input.specs.{Buffer.last_position, Recording.no_memory}
use Rattle.swc_ast.specs.{Tree.trees, TreeOf.pat_tree, Trees.are_valid, Trees.all_unmarked}
use Rattle.swc_steps.proofs.Refused.{err_is}
use Rattle.swc_cover.specs.{Items.want_items, Refining.pats_at}
use Rattle.swc_nodes.specs.{GrowingNodes.count, GrowingNodes.tree_at, Lists.pats_parts}
use Rattle.swc_ecma_parser.specs.Calls.{buffer_of, nodes_of, commas_of}
use Rattle.swc_ecma_parser.specs.Refinement.{boxed_items, marked_items, params_of}
use Rattle.swc_ecma_parser.proofs.Refined.{cut-kept, meets-refinement, moved-pats, of-answer, promised-refinement, records-moved, refinement-again, whichever}
use Rattle.swc_ecma_parser.proofs.parser.Parser.parse_paren_items_as_params.Goals as goal

pub lift_out-answer-requires : goal.lift_out-answer-requires
lift_out-answer-requires g c = rw (c.in_ok-start.ensures.start)
    (of-answer _ _ _ c.recast_items-answer.result c.recast_items-answer.ensures.recasts (λ x w. w.apart))

pub returns-in_err-start : goal.returns-in_err-start
returns-in_err-start g c = rw (err_is c.from_residual.ensures.1) (refinement-again refl c.in_err-start.ensures.again)

pub returns : goal.returns
returns g c =
    let done = c.finish.ensures in
    let moved = c.lift_out-answer.ensures in
    let made = c.recast_items-answer.ensures in
    let p = c.args.self.now in
    let q = c.recast_items-answer.new.self in
    let xs = c.args.items.items in
    let pat = pat_tree _ _ _ g.B.Fun.Spanned.place g.B.Class.Spanned.place g.B.Block.Spanned.place in
    promised-refinement _ (nodes_of c.lift_out-answer.new.self) (commas_of c.lift_out-answer.new.self)
    c.lift_out-answer.result c.finish.result c.in_ok-start.ensures.runs (moved.runs ∙ made.runs)
    done.answer (done.buffer ∙ moved.buffer) done.nodes done.commas done.fails
    (meets-refinement g.I.Tokens.model
    (are_valid (boxed_items g.B.Fun.Spanned.place g.B.Class.Spanned.place g.B.Block.Spanned.place xs))
    (params_of g.I.Tokens.model xs c.args.trailing_comma p) (want_items (marked_items p xs))
    (λ ns v. pats_at ns v.items) pats_parts all_unmarked (λ v. trees (map pat v.items)) (count (nodes_of p)) p q
    c.recast_items-answer.result c.lift_out-answer.result made.recasts
    (moved-pats (λ e. e ≡ no_memory (last_position (buffer_of q))) pat (tree_at (nodes_of q))
    c.recast_items-answer.result c.lift_out-answer.result moved.moved))
    (records-moved _ _ _ _ c.recast_items-answer.result c.lift_out-answer.result made.judges moved.moved)
    (moved.commas ∙ made.commas)
    (cut-kept (nodes_of c.lift_out-answer.new.self) (whichever _ _ _ c.recast_items-answer.result made.recasts
    (λ x w. w.kept) (λ e w. w.kept)) (rw (sym c.in_ok-start.ensures.start) moved.nodes))
