use Rattle.std.proofs.Common.{◌≡◌, length}
use Rattle.swc_trees.proofs.Shells.{Filling}
use Rattle.swc_trees.proofs.putting.put_all.Given as goal

-- the numbers are those of trees that were put in, as the nodes that are left have it
abbrev pub invariant-loop-shell : goal.invariant-loop-shell
invariant-loop-shell g l = record {
  from : l.numbers.from ≡ 0;
  filling : Filling l.fn.trees.items l.shells.items l.fn.nodes l.numbers.ids.items l.nodes;
}

abbrev pub decreases-loop-shell : goal.decreases-loop-shell
decreases-loop-shell g l = length l.shells.items
