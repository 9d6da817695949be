use Rattle.std.proofs.Common.{refl}
use Rattle.swc_trees.proofs.Splits.{split-none, split-one}
use Rattle.swc_trees.proofs.parting.split_body.Goals as goal

pub returns-in-BlockStmt : goal.returns-in-BlockStmt
returns-in-BlockStmt g c = rw c.in-BlockStmt.is (split-none refl (λ at. refl))

pub returns-in_ok-place_expr-in-Expr : goal.returns-in_ok-place_expr-in-Expr
returns-in_ok-place_expr-in-Expr g c = rw c.in-Expr.is (split-one c.in_ok-place_expr-in-Expr.ensures refl (λ at e. e))
