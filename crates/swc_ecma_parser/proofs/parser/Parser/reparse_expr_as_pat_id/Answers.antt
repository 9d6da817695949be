use Rattle.std.proofs.Common.{◌≡◌, refl, sym, subst}
use Rattle.swc_input.specs.{Buffer.context, Buffer.last_position, Recording.no_memory}
use Rattle.swc_ast.specs.Trees.{is_valid}
use Rattle.swc_steps.proofs.Refused.{err_is}
use Rattle.swc_cover.specs.{Moving.KeptTo, Noting.JudgesBy, PatTypes.pattern_as, PatTypes.verdict_as, PatTypes.want_as}
use Rattle.swc_cover.specs.Refining.{Refined}
use Rattle.swc_cover.proofs.Kept.{none-kept}
use Rattle.swc_nodes.specs.{GrowingNodes.first_at, GrowingNodes.tree_at, GrowingNodes.From, NodeParts.one_pat, NodeParts.pat_part}
use Rattle.swc_steps.specs.Params.{pat_at}
use Rattle.swc_ecma_parser.specs.Calls.{buffer_of, nodes_of, commas_of}
use Rattle.swc_ecma_parser.specs.Refinement.{PromisedRefinement}
use Rattle.swc_ecma_parser.proofs.{Recast.recasts-number, Refined.if-ok, Refined.meets-refinement, Refined.promised-refinement, Refined.refinement-again, Refined.unmoved, Refined.whichever}
use Rattle.swc_ecma_parser.proofs.parser.Parser.reparse_expr_as_pat_id.Goals as goal

pub returns-in_err-begin-clause-promised : goal.returns-in_err-begin-clause-promised
returns-in_err-begin-clause-promised g c =
    rw (err_is c.from_residual.ensures.1) (refinement-again (none-kept c.requires) c.in_err-begin.ensures.again)

pub returns-clause-promised : goal.returns-clause-promised
returns-clause-promised g c =
    let done = c.finish.ensures in
    let made = c.reparse_expr_as_pat-answer.ensures in
    let model = g.I.Tokens.model in
    let p = c.args.self.now in
    let q = record p { productions = c.reparse_expr_as_pat-answer.new.p } in
    let id = c.args.id in
    let in_strict = (context model (buffer_of p)).strict in
    let read = tree_at (nodes_of p) id.0 in
    let answer = c.reparse_expr_as_pat-answer.result in
    let recasts = recasts-number model p q c.args.pat_type id c.requires answer made.refined made.unrefined in
    subst (λ ns. PromisedRefinement model (is_valid read) (pattern_as in_strict c.args.pat_type read)
    (want_as c.args.pat_type read) (λ t. t) (pat_at ns)
    (JudgesBy model (verdict_as in_strict c.args.pat_type read)) (KeptTo (first_at (nodes_of p) id.0))
    p c.finish.result c.finish.new.self) (sym done.nodes)
    (promised-refinement _ (nodes_of q) (commas_of q) answer c.finish.result c.in_ok-begin.ensures.runs refl
    done.answer done.buffer done.nodes done.commas done.fails
    (meets-refinement model (is_valid read) (pattern_as in_strict c.args.pat_type read)
    (want_as c.args.pat_type read) pat_at one_pat (λ t. t) (pat_at (nodes_of q)) (first_at (nodes_of p) id.0) p q
    answer answer recasts
    (unmoved (pat_at (nodes_of q)) (λ e. e ≡ no_memory (last_position (buffer_of q))) answer))
    made.judges refl
    (whichever _ _ _ answer recasts (λ x w. w.kept) (λ e w. w.kept)))

pub returns-clause-placed : goal.returns-clause-placed
returns-clause-placed g c =
    let done = c.finish.ensures in
    let p = c.args.self.now in
    let q = c.reparse_expr_as_pat-answer.new.p in
    let answer = c.reparse_expr_as_pat-answer.result in
    rw (done.answer, done.nodes) (if-ok (λ x. Refined g.I.Tokens.model c.args.pat_type c.args.id p.productions x q)
    (λ x. From (first_at (nodes_of p) c.args.id.0) q.nodes (pat_part x)) answer
    c.reparse_expr_as_pat-answer.ensures.refined (λ x w. w.made.from))
