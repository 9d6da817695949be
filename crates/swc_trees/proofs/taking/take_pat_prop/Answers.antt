use Rattle.std.proofs.Common.{◌≡◌}
use Rattle.swc_ast.specs.TreeOf.{pat_prop_tree}
use Rattle.swc_nodes.specs.{NodeParts.pat_prop_parts, NodeTree.pat_prop_of}
use Rattle.swc_trees.proofs.Rebuilt.{left-none, left-piece, piece-offered, piece-made}
use Rattle.swc_trees.proofs.taking.take_pat_prop.Goals as goal

pub returns-in_err-parts-clause-left : goal.returns-in_err-parts-clause-left
returns-in_err-parts-clause-left g c = left-none (pat_prop_parts c.args.prop) c.requires

pub returns-in_err-built-clause-left : goal.returns-in_err-built-clause-left
returns-in_err-built-clause-left g c = left-piece c.in_ok-parts.ensures c.take_all.ensures.left

pub assemble-requires : goal.assemble-requires
assemble-requires g c = piece-offered (pat_prop_parts c.args.prop) c.in_ok-parts.ensures c.in_ok-built.ensures

pub returns-clause-left : goal.returns-clause-left
returns-clause-left g c = left-piece c.in_ok-parts.ensures c.in_ok-built.ensures.left

pub returns-clause-moved : goal.returns-clause-moved
returns-clause-moved g c =
    piece-made
    (λ at y. pat_prop_tree _ _ _ g.F.Spanned.place g.C.Spanned.place g.K.Spanned.place y
    ≡ pat_prop_of g.F.Spanned.place g.C.Spanned.place g.K.Spanned.place at c.args.prop)
    (pat_prop_parts c.args.prop) _ c.assemble.result c.in_ok-parts.ensures c.in_ok-built.ensures c.assemble.ensures
