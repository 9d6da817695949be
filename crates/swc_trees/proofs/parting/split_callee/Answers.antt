use Rattle.std.proofs.Common.{refl, ap}
use Rattle.swc_ast.specs.{Parts.leaf, Tree.import}
use Rattle.swc_trees.proofs.Splits.{split-none, split-one}
use Rattle.swc_trees.proofs.parting.split_callee.Goals as goal

pub returns-in-Super : goal.returns-in-Super
returns-in-Super g c = rw c.in-Super.is (split-none refl (λ at. refl))

pub returns-in-Import : goal.returns-in-Import
returns-in-Import g c = rw c.in-Import.is (split-none refl
    (λ at. ap (λ v. leaf (import v.phase) v.span) c.taken_import.ensures))

pub returns-in_ok-place_expr-in-Expr : goal.returns-in_ok-place_expr-in-Expr
returns-in_ok-place_expr-in-Expr g c = rw c.in-Expr.is (split-one c.in_ok-place_expr-in-Expr.ensures refl (λ at e. e))
