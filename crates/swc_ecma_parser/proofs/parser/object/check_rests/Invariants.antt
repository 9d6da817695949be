use Rattle.std.proofs.Common.{map, take}
use Rattle.swc_ast.specs.{Tree.trees, TreeOf.pat_prop_tree}
use Rattle.swc_patterns.proofs.PropRests.{RestsSeen}
use Rattle.swc_ecma_parser.proofs.RestsNoted.{RestsNoted}
use Rattle.swc_ecma_parser.proofs.parser.object.check_rests.Given as goal

abbrev pub invariant-loop-prop : goal.invariant-loop-prop
invariant-loop-prop g l =
    RestsSeen g.I.Tokens.model
    (trees (map (pat_prop_tree _ _ _ g.F.Spanned.place g.C.Spanned.place g.K.Spanned.place)
    (take l.prop-index l.prop-items)))
    l.last l.fn.input l.input
    × RestsNoted g.I.Tokens.model
    (trees (map (pat_prop_tree _ _ _ g.F.Spanned.place g.C.Spanned.place g.K.Spanned.place)
    (take l.prop-index l.prop-items)))
    l.last l.fn.input l.input
