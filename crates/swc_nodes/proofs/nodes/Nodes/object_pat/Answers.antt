use Rattle.std.proofs.Common.{refl}
use Rattle.swc_nodes.specs.NodeParts.{pat}
use Rattle.swc_nodes.proofs.Lists.{list-made-as}
use Rattle.swc_nodes.proofs.nodes.Nodes.object_pat.Goals as goal

pub returns-clause-made : goal.returns-clause-made
returns-clause-made g c = list-made-as pat _ refl c.requires.apart c.in_ok-push.ensures.added
