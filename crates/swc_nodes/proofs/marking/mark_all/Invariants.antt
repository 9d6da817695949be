use Rattle.swc_nodes.specs.Commas.{comma_at}
use Rattle.swc_nodes.proofs.Marked.{Marking}
use Rattle.swc_nodes.proofs.marking.mark_all.Given as goal

abbrev pub invariant-loop-i : goal.invariant-loop-i
invariant-loop-i g l = Marking (comma_at l.commas) l.from l.i l.fn.nodes.items l.nodes.items
