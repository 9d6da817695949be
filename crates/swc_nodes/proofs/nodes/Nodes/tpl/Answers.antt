use Rattle.std.proofs.Common.{refl}
use Rattle.swc_nodes.proofs.Lists.{list-made}
use Rattle.swc_nodes.proofs.nodes.Nodes.tpl.Goals as goal

pub returns-clause-made : goal.returns-clause-made
returns-clause-made g c =
    let is = c.in_ok-tpl.ensures.ok in
    rw is at (list-made _ refl (rw is c.requires.apart) c.in_ok-push.ensures.added)
