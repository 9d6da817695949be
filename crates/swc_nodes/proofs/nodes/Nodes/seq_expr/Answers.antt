use Rattle.std.proofs.Common.{◌≡◌, ◌-◌, ◌≤◌, length, ap, ◌∙◌, arith}
use Rattle.std.specs.Prelude.{slice_index_or}
use Rattle.swc_context.specs.Spans.{from_to}
use Rattle.swc_nodes.specs.GrowingNodes.{first_start}
use Rattle.swc_nodes.proofs.Sequences.{from-nth, first-is, last-is, seq-made}
use Rattle.swc_nodes.proofs.nodes.Nodes.seq_expr.Goals as goal

pub start-requires : goal.start-requires
start-requires g c =
    let some = c.requires.some in
    from-nth 0 c.args.exprs.items 0 c.index.result.now (omega (arith, some)) c.index.ensures c.requires.apart

pub end-requires : goal.end-requires
end-requires g c =
    let some = c.requires.some in
    let l : c.len.result ≡ length c.args.exprs.items = c.len.ensures ∙ c.args.exprs.ok.0 in
    from-nth 0 c.args.exprs.items (c.len.result - 1) c.index-2.result.now (omega (arith, some, l)) c.index-2.ensures
    c.requires.apart

pub returns-clause-made : goal.returns-clause-made
returns-clause-made g c =
    let xs = c.args.exprs.items in let ns = c.args.self.now in
    let first = c.index.result.now in let last = c.index-2.result.now in
    let l : c.len.result ≡ length xs = c.len.ensures ∙ c.args.exprs.ok.0 in
    let m : c.len-2.result ≡ length xs = c.len-2.ensures ∙ c.args.exprs.ok.0 in
    let some : 1 ≤ length xs = c.requires.some in
    let more : length xs ≡ 1 → ⊥ = λ h. c.if-len-eq1.false (m ∙ h) in
    let end : last ≡ slice_index_or xs (length xs - 1) last =
    c.index-2.ensures ∙ ap (λ n. slice_index_or xs (n - 1) last) l in
    let place = ap (λ v. from_to v c.end.result) (c.start.ensures ∙ first-is ns xs first some c.index.ensures)
    ∙ ap (λ v. from_to (first_start ns xs) v) (c.end.ensures ∙ last-is ns xs last some end) in
    seq-made _ c.args.exprs place (omega (arith, some, more)) c.requires.apart c.in_ok-push.ensures.added
