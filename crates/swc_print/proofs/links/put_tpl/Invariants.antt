use Rattle.std.proofs.Common.{◌≡◌, ◌++◌, take}
use Rattle.swc_nodes.specs.{NodeParts.one_expr, NodeParts.flat, Weights.ats}
use Rattle.swc_print.specs.Numbers.{numbers}
use Rattle.swc_print.proofs.links.put_tpl.Given as goal

abbrev pub invariant-loop-i : goal.invariant-loop-i
invariant-loop-i l = numbers l.pieces.waiting.items ≡ numbers l.fn.pieces.waiting.items ++ ats
    (flat one_expr (take l.i l.tpl.exprs.items))
