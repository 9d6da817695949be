use Rattle.std.proofs.Common.{◌≡◌, ◌≤◌, true, drop, length}
use Rattle.swc_nodes.specs.Recasting.{all_none}
use Rattle.swc_nodes.proofs.recasting.without_holes.Given as goal

abbrev pub invariant-loop-len : goal.invariant-loop-len
invariant-loop-len l = record {
  within : l.len ≤ length l.elems.items;
  after : all_none (drop l.len l.elems.items) ≡ true;
}

abbrev pub decreases-loop-len : goal.decreases-loop-len
decreases-loop-len l = l.len
