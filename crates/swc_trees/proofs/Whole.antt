-- What was moved out of an expression whole: a function, a class, and the parts of an arrow function.
use Rattle.std.proofs.Common.{◌≡◌, Bool, Option, Some, IsSome, is_some, sym, ap, ◌∙◌}
use Rattle.std.specs.{declared.alloc.Global.Global, declared.boxed.Box.Box, declared.vec.Vec.Vec}
use Rattle.swc_context.specs.declared.span.Span.{Span}
use Rattle.swc_ast.specs.{declared.expr.BlockStmtOrExpr.BlockStmtOrExpr, declared.expr.Expr.Expr, declared.pat.Pat.Pat}
use Rattle.swc_ast.specs.declared.expr.Expr.TheVariants as e

pub some-out : {T : Type 0} {r : Option T} {t : T} → r ≡ Some t → IsSome r
some-out s = ap is_some s

pub same-some : {T : Type 0} {t u : T} → Some t ≡ Some u → t ≡ u
same-some e = cc

module _ {F C K : Type 0} where
  pub fn-out : (x : Expr F C K) (f g : F) (r : Option F) → x ≡ e.Fn f → r ≡ Some f → r ≡ Some g → x ≡ e.Fn g
  fn-out x f g r was out in_some = cc

  pub class-out : (x : Expr F C K) (c d : C) (r : Option C) → x ≡ e.Class c → r ≡ Some c → r ≡ Some d → x ≡ e.Class d
  class-out x c d r was out in_some = cc

  pub arrow-out : (x : Expr F C K) (s : Span) (ps qs : Vec (Pat F C K) Global)
      (b d : Box (BlockStmtOrExpr (Box (Expr F C K) Global) K) Global) (a : Bool)
      (r : Option (Vec (Pat F C K) Global × Box (BlockStmtOrExpr (Box (Expr F C K) Global) K) Global)) →
      x ≡ e.Arrow s ps b a → r ≡ Some (ps, b) → r ≡ Some (qs, d) → x ≡ e.Arrow s qs d a
  arrow-out x s ps qs b d a r was out in_some =
      let both : (ps, b) ≡ (qs, d) = same-some (sym out ∙ in_some) in
      was ∙ ap (λ w. e.Arrow s w.0 w.1 a) both
