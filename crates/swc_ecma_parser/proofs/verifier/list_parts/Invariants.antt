use Rattle.std.proofs.Common.{◌≡◌, ◌++◌, drop, map}
use Rattle.swc_nodes.specs.Walking.{part_of}
use Rattle.swc_ecma_parser.specs.Dues.{due_of, part_dues}
use Rattle.swc_ecma_parser.proofs.verifier.list_parts.Given as goal

abbrev pub invariant-loop-part : goal.invariant-loop-part
invariant-loop-part g l =
    map due_of l.due.items ++ part_dues (map part_of (drop l.part-index l.part-items))
    ≡ map due_of l.fn.due.items ++ part_dues (g.T.Parts.parts l.item)
