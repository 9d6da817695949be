-- Arrow functions: their nodes, over parameters and a body that lie apart, in this order.
use Rattle.std.proofs.Common.{◌≡◌, ℕ, Bool, Option, Some, List, [], ◌++◌, fold, refl, sym, ap, subst, ◌∙◌}
use Rattle.std.proofs.lemmas.List.Sums.{fold-append}
use Rattle.std.specs.{declared.alloc.Global.Global, declared.boxed.Box.Box, declared.vec.Vec.Vec}
use Rattle.swc_context.specs.{Spans.from_to, declared.span.BytePos.BytePos}
use Rattle.swc_ast.specs.{Parts.body_tree, Tree.Tree, Trees.arrow_e, declared.expr.BlockStmtOrExpr.BlockStmtOrExpr, declared.expr.BlockStmtOrExpr.BlockStmtOrExpr as body, declared.spanned.Spanned.Ghosts}
use Rattle.swc_nodes.specs.NodeParts.{Part, expr, expr_part, body_parts}
use Rattle.swc_nodes.specs.GrowingNodes.{seat_at, count, tree_at, body_end, Apart, From, Added, Made}
use Rattle.swc_nodes.specs.{Lists.pats_parts, Lists.pat_trees, Walking.behind, declared.node.ExprId.ExprId, declared.node.Node.Node as n, declared.node.PatId.PatId, declared.nodes.Nodes.Nodes}
use Rattle.swc_nodes.proofs.{Chains.chain-second, Held.from-apart, Lists.list-made}

module _ {F C K : Type 0} {fg : Ghosts F} {cg : Ghosts C} {kg : Ghosts K} where
  -- the parts after others lie apart too
  pub apart-back : {ns : Nodes F C K fg cg kg} {k : ℕ} (ps qs : List Part) → Apart k ns (ps ++ qs) → Apart 0 ns qs
  apart-back {ns} {k} ps qs a = record { chained = chain-second (seat_at ns) k ps qs (count ns) a.chained }

  -- the expression that is a body
  pub body-from : {ns : Nodes F C K fg cg kg} {k : ℕ} (b : BlockStmtOrExpr ExprId K) (e : ExprId) → b ≡ body.Expr e →
      Apart k ns (body_parts b) → From k ns (expr_part e)
  body-from {ns} {k} b e h a = from-apart (expr_part e) [] (subst (λ v. Apart k ns (body_parts v)) h a)

  -- going over parts, and then over others
  pub walked-both : (ns : Nodes F C K fg cg kg) (ps qs : List Part) (first found : Option ℕ) →
      first ≡ fold (behind ns) (Some 0) ps → found ≡ fold (behind ns) first qs →
      found ≡ fold (behind ns) (Some 0) (ps ++ qs)
  walked-both ns ps qs first found e h =
      h ∙ ap (λ v. fold (behind ns) v qs) e ∙ sym (fold-append (behind ns) (Some 0) ps qs)

  -- a node over the body that is in its box
  pub arrow-made : {ns ms : Nodes F C K fg cg kg} {i : ℕ} (lo hi : BytePos) (is_async : Bool) (ps : Vec PatId Global)
      (b : BlockStmtOrExpr ExprId K) (boxed : Box (BlockStmtOrExpr ExprId K) Global) → boxed.value ≡ b →
      hi ≡ body_end ns b → Apart 0 ns (pats_parts ps ++ body_parts b) →
      Added ns ms i (n.Arrow (from_to lo hi) ps boxed is_async) → (k : ℕ) → Apart k ns (pats_parts ps ++ body_parts b) →
      Made k ms (record { at = i; view = expr }) (arrow_e (from_to lo (body_end ns b)) is_async
      (body_tree kg.place (λ e. tree_at ns e.0) b) (pat_trees (tree_at ns) ps))
  arrow-made {ns} {ms} {i} lo hi is_async ps b boxed e h parts d k from =
      let x = n.Arrow (from_to lo hi) ps boxed is_async in
      let tree : BlockStmtOrExpr ExprId K → BytePos → Tree F C K =
      λ v end. arrow_e (from_to lo end) is_async (body_tree kg.place (λ j. tree_at ns j.0) v)
      (pat_trees (tree_at ns) ps) in
      let made = list-made x refl (subst (λ v. Apart 0 ns (pats_parts ps ++ body_parts v)) (sym e) parts) d k
      (subst (λ v. Apart k ns (pats_parts ps ++ body_parts v)) (sym e) from) in
      record { from = made.from; stands = made.stands ∙ ap (λ v. tree v hi) e ∙ ap (tree b) h }
