use Rattle.swc_nodes.specs.NodeParts.{expr}
use Rattle.swc_trees.proofs.Puts.{puts-made}
use Rattle.swc_trees.specs.Splitting.{part}
use Rattle.swc_trees.proofs.putting.put_expr.Goals as goal

pub returns : goal.returns
returns g c = record { grows = c.in_ok-put_whole.ensures.grows; made = puts-made (part expr) c.in_ok-put_whole.ensures }
