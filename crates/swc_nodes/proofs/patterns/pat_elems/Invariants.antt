use Rattle.std.proofs.Common.{◌≡◌, ◌++◌, drop, map}
use Rattle.swc_nodes.specs.Lists.{pat_elem}
use Rattle.swc_nodes.proofs.patterns.pat_elems.Given as goal

abbrev pub invariant-loop-pat : goal.invariant-loop-pat
invariant-loop-pat l = l.elems.items ++ map pat_elem (drop l.pat-index l.pats.items) ≡ map pat_elem l.pats.items
