use Rattle.std.proofs.Common.{refl, arith}
use Rattle.swc_nodes.proofs.Standing.{grows-same}
use Rattle.swc_steps.proofs.Steps as s
use Rattle.swc_patterns.proofs.PatNodes.{array_made, kept_apart, pat_node_on}
use Rattle.swc_patterns.proofs.pat.array_pat.Goals as goal

pub array_pat-node-requires : goal.array_pat-node-requires
array_pat-node-requires g c = record {
  apart = kept_apart c.args.p.now.nodes 0 c.args.list.items.items c.drop_holes-elems.result c.drop_holes-elems.ensures
      c.requires.apart;
}

pub returns : goal.returns
returns g c = λ k apart.
    pat_node_on {k = k} {j = k} _ c.array_pat-node.result c.made.result (omega arith)
    (array_made c.args.p.now.nodes _ k _ c.args.list.items.items c.drop_holes-elems.result c.array_pat-node.result
    c.drop_holes-elems.ensures c.array_pat-node.ensures.made apart)
    c.made.ensures.ok c.made.ensures.refused (grows-same _) c.array_pat-node.ensures.grows
    (s.on_here g.met.I.Tokens.laws _ (λ x ts. refl))
