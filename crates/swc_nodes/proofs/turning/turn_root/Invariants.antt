use Rattle.std.proofs.Common.{map}
use Rattle.swc_nodes.specs.Roles.{due}
use Rattle.swc_nodes.proofs.Going.{Going}
use Rattle.swc_nodes.proofs.turning.turn_root.Given as goal

abbrev pub invariant-loop-duty : goal.invariant-loop-duty
invariant-loop-duty g l =
    Going g.F.Spanned.place g.C.Spanned.place g.K.Spanned.place l.fn.nodes.items (due l.fn.root) l.first l.nodes.items
    (map due l.due.items) l.settled.items

abbrev pub decreases-loop-duty : goal.decreases-loop-duty
decreases-loop-duty g l = l.first
