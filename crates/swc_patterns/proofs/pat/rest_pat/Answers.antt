use Rattle.std.proofs.Common.{refl, arith}
use Rattle.swc_nodes.proofs.Standing.{grows-same}
use Rattle.swc_steps.proofs.Steps as s
use Rattle.swc_patterns.proofs.PatNodes.{pat_node_on}
use Rattle.swc_patterns.proofs.pat.rest_pat.Goals as goal

pub returns : goal.returns
returns g c =
    pat_node_on _ c.rest_pat-node.result c.made.result (omega arith) c.rest_pat-node.ensures.made c.made.ensures.ok
    c.made.ensures.refused (grows-same _) c.rest_pat-node.ensures.grows
    (s.on_here g.met.I.Tokens.laws _ (λ x ts. refl))
