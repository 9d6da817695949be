use Rattle.std.proofs.Common.{◌≡◌, Ok}
use Rattle.swc_ast.specs.TreeOf.{boxed_tree}
use Rattle.swc_nodes.specs.NodeParts.{expr_part, one_expr}
use Rattle.swc_nodes.proofs.Held.{apart-from}
use Rattle.swc_trees.proofs.Rebuilt.{left-none, left-piece, piece-apart, piece-offered, piece-made}
use Rattle.swc_trees.proofs.taking.take_expr.Goals as goal

pub take_all-requires : goal.take_all-requires
take_all-requires g c = piece-apart (one_expr c.args.id) c.in_ok-parts.ensures
    (apart-from (expr_part c.args.id) c.requires)

pub returns-in_err-parts-clause-left : goal.returns-in_err-parts-clause-left
returns-in_err-parts-clause-left g c = left-none (one_expr c.args.id) (apart-from (expr_part c.args.id) c.requires)

pub returns-in_err-built-clause-left : goal.returns-in_err-built-clause-left
returns-in_err-built-clause-left g c = left-piece c.in_ok-parts.ensures c.take_all.ensures.left

pub pop_expr-requires : goal.pop_expr-requires
pop_expr-requires g c = piece-offered (one_expr c.args.id) c.in_ok-parts.ensures c.in_ok-built.ensures

pub returns-clause-left : goal.returns-clause-left
returns-clause-left g c = left-piece c.in_ok-parts.ensures c.in_ok-built.ensures.left

pub returns-clause-moved : goal.returns-clause-moved
returns-clause-moved g c =
    piece-made
    (λ at y. boxed_tree _ _ _ g.F.Spanned.place g.C.Spanned.place g.K.Spanned.place y ≡ at c.args.id.0)
    (one_expr c.args.id) _ (Ok c.pop_expr.result) c.in_ok-parts.ensures c.in_ok-built.ensures c.pop_expr.ensures
