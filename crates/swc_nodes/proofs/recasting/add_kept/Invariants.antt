use Rattle.std.proofs.Common.{◌≡◌, ◌++◌, drop, map}
use Rattle.swc_nodes.specs.Roles.{due, keep}
use Rattle.swc_nodes.specs.Walking.{part_of}
use Rattle.swc_nodes.proofs.recasting.add_kept.Given as goal

abbrev pub invariant-loop-part : goal.invariant-loop-part
invariant-loop-part g l =
    map due l.due.items ++ map keep (map part_of (drop l.part-index l.part-items))
    ≡ map due l.fn.due.items ++ map keep (g.T.Parts.parts l.item)
