use Rattle.std.proofs.Common.{ap, subst}
use Rattle.swc_input.specs.Buffer.{context, last_position}
use Rattle.swc_cover.proofs.Checked.{unfit-memory}
use Rattle.swc_cover.specs.{Faults.params_verdict, Items.want_items, Noting.names_bound, Noting.JudgesParams}
use Rattle.swc_nodes.specs.{Marking.Marks, NodeParts.args_parts}
use Rattle.swc_ecma_parser.specs.{Calls.buffer_of, Refinement.marks_of}
use Rattle.swc_ecma_parser.proofs.Recast.{apart-put, items-put, kept-put, recasts-items}
use Rattle.swc_ecma_parser.proofs.Moving.{apart-low}
use Rattle.swc_ecma_parser.proofs.parser.Parser.recast_items.Goals as goal

pub parse_paren_items_as_params-requires : goal.parse_paren_items_as_params-requires
parse_paren_items_as_params-requires g c =
    let p = c.args.self.now in
    let marked =
    subst (λ k. Marks (marks_of p) k c.put_args.new.nodes c.mark.new.nodes) c.len-start.ensures c.mark.ensures in
    apart-low (args_parts c.in-Ok.items)
    (apart-put g.I.Tokens.model p p c.put_args.new.nodes c.mark.new.nodes c.in-Ok.ensures.grows marked
    c.args.items c.args.trailing_comma c.in-Ok.items
    c.in-Ok.ensures.apart c.in-Ok.ensures.moved)

pub returns-in-Ok-clause-recasts : goal.returns-in-Ok-clause-recasts
returns-in-Ok-clause-recasts g c =
    let p = c.args.self.now in
    let marked =
    subst (λ k. Marks (marks_of p) k c.put_args.new.nodes c.mark.new.nodes) c.len-start.ensures c.mark.ensures in
    recasts-items g.I.Tokens.model p _ c.put_args.new.nodes c.mark.new.nodes c.in-Ok.ensures.grows marked
    c.args.items c.args.trailing_comma c.in-Ok.items
    c.in-Ok.ensures.apart c.in-Ok.ensures.moved
    c.parse_paren_items_as_params.result c.parse_paren_items_as_params.ensures.refined
    c.parse_paren_items_as_params.ensures.unrefined

pub returns-in-Err-clause-recasts : goal.returns-in-Err-clause-recasts
returns-in-Err-clause-recasts g c = record {
  refuses =
      unfit-memory g.met.I.Tokens.laws (buffer_of c.args.self.now) (last_position (buffer_of c.args.self.now))
      c.out_of_memory.result c.out_of_memory.ensures;
  kept = kept-put c.put_args.ensures.grows;
}

pub returns-in-Ok-clause-judges : goal.returns-in-Ok-clause-judges
returns-in-Ok-clause-judges g c =
    let p = c.args.self.now in
    let marked =
    subst (λ k. Marks (marks_of p) k c.put_args.new.nodes c.mark.new.nodes) c.len-start.ensures c.mark.ensures in
    let same = items-put g.I.Tokens.model p p c.put_args.new.nodes c.mark.new.nodes c.in-Ok.ensures.grows marked
    c.args.items c.args.trailing_comma c.in-Ok.items c.in-Ok.ensures.apart c.in-Ok.ensures.moved in
    subst (λ ts. JudgesParams g.I.Tokens.model (params_verdict c.args.trailing_comma ts)
    (names_bound (context g.I.Tokens.model (buffer_of p)) (want_items ts))
    (buffer_of p) c.parse_paren_items_as_params.result c.parse_paren_items_as_params.new.p.input) same
    c.parse_paren_items_as_params.ensures.judges

pub returns-in-Err-clause-judges : goal.returns-in-Err-clause-judges
returns-in-Err-clause-judges g c = λ n. absurd (n (ap (λ e. e.kind) c.out_of_memory.ensures))
