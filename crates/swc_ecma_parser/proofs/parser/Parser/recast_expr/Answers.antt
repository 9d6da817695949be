use Rattle.std.proofs.Common.{◌≤◌, ap, arith, subst}
use Rattle.swc_input.specs.Buffer.{context, last_position}
use Rattle.swc_cover.proofs.Checked.{unfit-memory}
use Rattle.swc_cover.specs.{Noting.JudgesBy, PatTypes.verdict_as}
use Rattle.swc_nodes.specs.{Marking.Marks, GrowingNodes.count}
use Rattle.swc_nodes.proofs.Held.{from-down}
use Rattle.swc_ecma_parser.specs.{Calls.buffer_of, Calls.nodes_of, Refinement.marks_of}
use Rattle.swc_ecma_parser.proofs.Recast.{from-put, kept-put, recasts-expr, tree-put}
use Rattle.swc_ecma_parser.proofs.parser.Parser.recast_expr.Goals as goal

pub reparse_expr_as_pat-requires : goal.reparse_expr_as_pat-requires
reparse_expr_as_pat-requires g c =
    let p = c.args.self.now in
    let marked =
    subst (λ k. Marks (marks_of p) k c.put_expr.new.nodes c.mark.new.nodes) c.len-start.ensures c.mark.ensures in
    from-down (let zero : 0 ≤ count (nodes_of p) = omega arith in zero)
    (from-put g.I.Tokens.model p p c.put_expr.new.nodes c.mark.new.nodes c.in-Ok.ensures.grows marked
    c.args.pat_type c.args.expr c.in-Ok.id c.in-Ok.ensures.made)

pub returns-in-Ok-clause-recasts : goal.returns-in-Ok-clause-recasts
returns-in-Ok-clause-recasts g c =
    let p = c.args.self.now in
    let marked =
    subst (λ k. Marks (marks_of p) k c.put_expr.new.nodes c.mark.new.nodes) c.len-start.ensures c.mark.ensures in
    recasts-expr g.I.Tokens.model p _ c.put_expr.new.nodes c.mark.new.nodes c.in-Ok.ensures.grows marked
    c.args.pat_type c.args.expr c.in-Ok.id c.in-Ok.ensures.made
    c.reparse_expr_as_pat.result c.reparse_expr_as_pat.ensures.refined c.reparse_expr_as_pat.ensures.unrefined

pub returns-in-Err-clause-recasts : goal.returns-in-Err-clause-recasts
returns-in-Err-clause-recasts g c = record {
  refuses =
      unfit-memory g.met.I.Tokens.laws (buffer_of c.args.self.now) (last_position (buffer_of c.args.self.now))
      c.out_of_memory.result c.out_of_memory.ensures;
  kept = kept-put c.put_expr.ensures.grows;
}

pub returns-in-Ok-clause-judges : goal.returns-in-Ok-clause-judges
returns-in-Ok-clause-judges g c =
    let p = c.args.self.now in
    let marked =
    subst (λ k. Marks (marks_of p) k c.put_expr.new.nodes c.mark.new.nodes) c.len-start.ensures c.mark.ensures in
    let same = tree-put g.I.Tokens.model p p c.put_expr.new.nodes c.mark.new.nodes c.in-Ok.ensures.grows marked
    c.args.pat_type c.args.expr c.in-Ok.id c.in-Ok.ensures.made in
    subst (λ t. JudgesBy g.I.Tokens.model (verdict_as (context g.I.Tokens.model (buffer_of p)).strict c.args.pat_type t)
    (buffer_of p) c.reparse_expr_as_pat.result c.reparse_expr_as_pat.new.p.input) same
    c.reparse_expr_as_pat.ensures.judges

pub returns-in-Err-clause-judges : goal.returns-in-Err-clause-judges
returns-in-Err-clause-judges g c = λ n. absurd (n (ap (λ e. e.kind) c.out_of_memory.ensures))
