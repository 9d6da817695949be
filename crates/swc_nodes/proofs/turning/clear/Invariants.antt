use Rattle.std.proofs.Common.{◌≡◌, ◌-◌}
use Rattle.swc_nodes.specs.Onward.{cleared}
use Rattle.swc_nodes.proofs.turning.clear.Given as goal

abbrev pub invariant-loop-number : goal.invariant-loop-number
invariant-loop-number g l = l.nodes.items ≡ cleared l.from (l.number - l.from) l.fn.nodes.items
