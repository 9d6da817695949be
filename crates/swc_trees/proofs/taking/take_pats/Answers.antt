use Rattle.std.proofs.Common.{◌≡◌, map}
use Rattle.swc_ast.specs.TreeOf.{pat_tree}
use Rattle.swc_nodes.specs.{Lists.pats_parts, NodeTree.pat_of}
use Rattle.swc_trees.proofs.Rebuilt.{left-none, left-piece, piece-offered, piece-made}
use Rattle.swc_trees.proofs.taking.take_pats.Goals as goal

pub returns-in_err-parts-clause-left : goal.returns-in_err-parts-clause-left
returns-in_err-parts-clause-left g c = left-none (pats_parts c.args.pats) c.requires

pub returns-in_err-built-clause-left : goal.returns-in_err-built-clause-left
returns-in_err-built-clause-left g c = left-piece c.in_ok-parts.ensures c.take_all.ensures.left

pub all-requires : goal.all-requires
all-requires g c = piece-offered (pats_parts c.args.pats) c.in_ok-parts.ensures c.in_ok-built.ensures

pub returns-clause-left : goal.returns-clause-left
returns-clause-left g c = left-piece c.in_ok-parts.ensures c.in_ok-built.ensures.left

pub returns-clause-moved : goal.returns-clause-moved
returns-clause-moved g c =
    piece-made
    (λ at ys. map (pat_tree _ _ _ g.F.Spanned.place g.C.Spanned.place g.K.Spanned.place) ys.items
    ≡ map (pat_of g.F.Spanned.place g.C.Spanned.place g.K.Spanned.place at) c.args.pats.items)
    (pats_parts c.args.pats) _ c.all.result c.in_ok-parts.ensures c.in_ok-built.ensures c.all.ensures
