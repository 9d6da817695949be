-- What is left is no deeper than the whole.
use Rattle.std.proofs.Common.{◌≤◌}
use Rattle.swc_ast.proofs.expr.Expr.TheLaws.{the_size}
use Rattle.swc_ast.proofs.+ast.Given as goal

abbrev pub invariant-expr::Expr::drop-loop-self : goal.invariant-expr::Expr::drop-loop-self
invariant-expr::Expr::drop-loop-self g l =
    the_size g.row.F g.row.C g.row.K g.F.laws g.C.laws g.K.laws l.self
    ≤ the_size g.row.F g.row.C g.row.K g.F.laws g.C.laws g.K.laws l.fn.self
