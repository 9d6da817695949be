use Rattle.std.proofs.Common.{◌≡◌, ◌++◌, take}
use Rattle.swc_nodes.specs.{NodeParts.flat, Weights.ats}
use Rattle.swc_print.specs.Numbers.{numbers}
use Rattle.swc_print.proofs.items.put_list.Given as goal

abbrev pub invariant-loop-i : goal.invariant-loop-i
invariant-loop-i g l = numbers l.pieces.waiting.items ≡ numbers l.fn.pieces.waiting.items ++ ats
    (flat g.T.Item.parts (take l.i l.items))
