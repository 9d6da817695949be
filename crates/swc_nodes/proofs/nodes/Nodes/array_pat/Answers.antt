use Rattle.swc_nodes.proofs.PatternParts.{array-apart, array-made}
use Rattle.swc_nodes.proofs.nodes.Nodes.array_pat.Goals as goal

pub push-requires : goal.push-requires
push-requires g c = array-apart c.args.elems c.in_ok-elems.elems c.in_ok-elems.ensures c.requires.apart

pub returns-clause-made : goal.returns-clause-made
returns-clause-made g c =
    array-made _ c.args.elems c.in_ok-elems.elems c.in_ok-elems.ensures c.requires.apart c.in_ok-push.ensures.added
