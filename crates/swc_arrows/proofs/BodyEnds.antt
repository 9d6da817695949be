-- Where the body of an arrow function ends: it holds nothing that was refused, so that its place says it.
use Rattle.std.proofs.Common.{◌≡◌, ℕ, Bool, List, Some, refl}
use Rattle.swc_input.specs.declared.token.TokenAndSpan.{TokenAndSpan}
use Rattle.swc_ast.specs.{Tree.span_of, declared.expr.BlockStmtOrExpr.BlockStmtOrExpr, declared.expr.BlockStmtOrExpr.BlockStmtOrExpr as body, declared.spanned.Spanned.Ghosts}
use Rattle.swc_bodies.specs.Readings.{Hook, LawfulHook}
use Rattle.swc_grammar.specs.{Clean.run, Clean.sym as at, Scope.Scope, Symbols.ArrowBody}
use Rattle.swc_nodes.specs.{GrowingNodes.body_end, GrowingNodes.Apart, NodeParts.body_parts, declared.node.ExprId.ExprId, declared.nodes.Nodes.Nodes}
use Rattle.swc_nodes.proofs.ArrowNodes.{body-from}
use Rattle.swc_steps.proofs.Endings.{ended}
use Rattle.swc_arrows.specs.Answers.{body_at}

module _ {F C K : Type 0} {fg : Ghosts F} {cg : Ghosts C} {kg : Ghosts K} (hook : Hook F C K)
    (lawful : LawfulHook fg.place cg.place kg.place hook) where
  pub body_ended : {ns : Nodes F C K fg cg kg} {k : ℕ} (b : BlockStmtOrExpr ExprId K) (a : Bool) (x : Scope)
      (ts us : List TokenAndSpan) → Apart k ns (body_parts b) → run hook (at (ArrowBody a)) x ts
      ≡ Some (body_at ns b, us) → body_end ns b ≡ (span_of (body_at ns b)).hi
  body_ended (body.BlockStmt v) a x ts us p h = refl
  body_ended (body.Expr e) a x ts us p h = ended hook lawful e (ArrowBody a) x ts us (body-from
      (body.Expr e) e refl p) h
