use Rattle.std.proofs.Common.{arith}
use Rattle.swc_nodes.specs.Lists.{pat_props_parts}
use Rattle.swc_nodes.proofs.Standing.{grows-same}
use Rattle.swc_steps.proofs.Making as m
use Rattle.swc_steps.proofs.Steps as s
use Rattle.swc_patterns.specs.Answers.{pat_props_at}
use Rattle.swc_patterns.proofs.{PatNodes.pat_node_on, Objects.object_splits, PropRests.pat_made_over}
use Rattle.swc_patterns.proofs.object.object_pat.Goals as goal

pub returns-in_err-check_rests : goal.returns-in_err-check_rests
returns-in_err-check_rests g c = λ k apart.
    m.refused_more c.from_residual.ensures.1
    (s.unheard_call _ (object_splits c.args.start (pat_props_at c.args.p.now.nodes c.args.list))
    (c.in_err-check_rests.ensures.checks g.B.Bodies.is_faithful)) (grows-same _)

pub returns : goal.returns
returns g c = λ k apart.
    pat_node_on {k = k} {j = k} _ c.object_pat-node.result c.made.result (omega arith)
    (pat_made_over _ _ k (pat_props_parts c.args.list.items) _ c.object_pat-node.result
    c.object_pat-node.ensures.made apart)
    c.made.ensures.ok c.made.ensures.refused (grows-same _) c.object_pat-node.ensures.grows
    (s.on_call _ (object_splits c.args.start (pat_props_at c.args.p.now.nodes c.args.list))
    (c.in_ok-check_rests.ensures.checks g.B.Bodies.is_faithful))
