-- The body of an arrow function (15.3, 15.9), as the code reads it: in its own context, a block or an assignment
-- expression.
use Rattle.std.proofs.Common.{◌≡◌, ℕ, Bool, true, false, if◌then◌else◌, List, Result, refl, ap}
use Rattle.swc_context.specs.Contexts.{arrow_body}
use Rattle.swc_context.specs.Contexts.{view as deciding}
use Rattle.swc_context.specs.declared.context.Context.{Context}
use Rattle.swc_context.specs.declared.error.Error.{Error}
use Rattle.swc_context.specs.declared.span.Span.{Span}
use Rattle.swc_input.specs.declared.buffer.Buffer.{Buffer}
use Rattle.swc_input.specs.declared.token.TokenAndSpan.{TokenAndSpan}
use Rattle.swc_input.specs.Buffer.{context}
use Rattle.swc_input.specs.Kinds.{at_token}
use Rattle.swc_input.specs.Source.{Model}
use Rattle.swc_ast.specs.declared.expr.BlockStmtOrExpr.{BlockStmtOrExpr}
use Rattle.swc_ast.specs.declared.spanned.Spanned.{Ghosts}
use Rattle.swc_ast.specs.Tree.{Tree}
use Rattle.swc_bodies.specs.Readings.{Hook, LawfulHook, is_brace}
use Rattle.swc_grammar.specs.Clean.{first, sym as at, run}
use Rattle.swc_grammar.specs.Scope.{Scope, in_context}
use Rattle.swc_grammar.specs.Symbols.{Assign, ArrowBody}
use Rattle.swc_nodes.specs.declared.node.ExprId.{ExprId}
use Rattle.swc_steps.specs.Parsing.{Moves, Produces}
use Rattle.swc_steps.specs.declared.productions.Productions.{Productions}
use Rattle.swc_operators.proofs.InContext.{within}
use Rattle.swc_steps.proofs.Steps.{Reader}
use Rattle.swc_arrows.specs.Answers.{body_at, body_of, ReadsArrow}
use Rattle.swc_arrows.specs.declared.bodies.ArrowOrBase.{ArrowOrBase}
use Rattle.swc_arrows.specs.Readers.{block_inside, body_by}
use Rattle.swc_arrows.proofs.BodyLaws.{body_block, body_expr}

module _ {F C K : Type 0} (hook : Hook F C K) (place : K → Span) where
  pub body_is : {fun_at : F → Span} {class_at : C → Span} → LawfulHook fun_at class_at place hook
      → (a : Bool) (x : Scope)
      (ts : List TokenAndSpan) → run hook (at (ArrowBody a)) x ts ≡ body_by hook place (in_context (arrow_body a) x) ts
  body_is laws a x ts = by_brace (at_token is_brace (first ts)) refl
    where
      by_brace : (b : Bool) → at_token is_brace (first ts) ≡ b
          → run hook (at (ArrowBody a)) x ts ≡ (if b then block_inside hook place (in_context (arrow_body a) x) ts else
          run hook (at Assign) (in_context (arrow_body a) x) ts)
      by_brace true e = body_block hook laws a x ts e
      by_brace false e = body_expr hook a x ts e

  pub block_read : (x : Scope) (ts : List TokenAndSpan) → at_token is_brace (first ts) ≡ true
      → body_by hook place x ts ≡ block_inside hook place x ts
  block_read x ts e = rw e refl

  pub expr_read : (x : Scope) (ts : List TokenAndSpan) → at_token is_brace (first ts) ≡ false
      → body_by hook place x ts ≡ run hook (at Assign) x ts
  expr_read x ts e = rw e refl

-- in its context, which is set back
module _ {S H F C K : Type 0} {fg : Ghosts F} {cg : Ghosts C} {kg : Ghosts K} {model : Model S} {sure : Bool}
    (hook : Hook F C K) (laws : LawfulHook fg.place cg.place kg.place hook) {k : ℕ}
    {p q : Productions S H F C K fg cg kg}
    {b e : Buffer S} {was made ctx : Context} {r o : Result (BlockStmtOrExpr ExprId K) Error} where
  pub body_within : (a : Bool) → was ≡ context model p.input → made ≡ arrow_body a was
      → ctx ≡ context model p.input → Moves model p.input b → context model b ≡ made
      → Produces model sure body_of body_at (body_by hook kg.place) k (record p { input = b }) r q
      → r ≡ o → Moves model q.input e → context model e ≡ ctx
      → Produces model sure body_of body_at (run hook (at (ArrowBody a))) k p o (record q { input = e })
  body_within a from says before to set h answer back left =
      within (arrow_body a) (λ x. refl) (λ x ts. body_is hook kg.place laws a x ts) from (ap deciding says) before to
      set h answer back left

-- what was found is put back after the arrow function
module _ {S H F C K : Type 0} {fg : Ghosts F} {cg : Ghosts C} {kg : Ghosts K} {model : Model S} {sure : Bool}
    {f : Reader (Tree F C K)} {k : ℕ} {p q : Productions S H F C K fg cg kg} {r : Result ArrowOrBase Error} where
  pub found_before : (found : Bool) → ReadsArrow model sure f k p r q
      → ReadsArrow model sure f k p r (record q { found_module_item = found })
  found_before found h = record { reads = h.reads; falls = h.falls; grows = h.grows; from = h.from }
