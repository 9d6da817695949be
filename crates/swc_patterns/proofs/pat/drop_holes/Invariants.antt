use Rattle.std.proofs.Common.{◌≡◌, length}
use Rattle.swc_patterns.specs.Arrays.{without_holes}
use Rattle.swc_patterns.proofs.pat.drop_holes.Given as goal

abbrev pub invariant-loop-elems : goal.invariant-loop-elems
invariant-loop-elems l = without_holes l.elems.items ≡ without_holes l.fn.elems.items

abbrev pub decreases-loop-elems : goal.decreases-loop-elems
decreases-loop-elems l = length l.elems.items
