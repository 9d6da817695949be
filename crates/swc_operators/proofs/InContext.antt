-- What a production reads in a context that was set for it, and set back after it.
use Rattle.std.proofs.Common.{◌≡◌, ℕ, Bool, List, Result, refl, ap, subst, ◌∙◌}
use Rattle.swc_context.specs.{Contexts.view as deciding, declared.context.Context.Context, declared.error.Error.Error}
use Rattle.swc_input.specs.{declared.buffer.Buffer.Buffer, declared.token.TokenAndSpan.TokenAndSpan, Buffer.context, Source.Model}
use Rattle.swc_ast.specs.{Tree.Tree, declared.spanned.Spanned.Ghosts}
use Rattle.swc_bodies.specs.Readings.{Hook}
use Rattle.swc_grammar.specs.Scope.{Scope, in_context, inner}
use Rattle.swc_grammar.specs.{Symbols.Args, Symbols.Elements, Symbols.Expr, Symbols.Assign, Tokens.include_in, Clean.sym as at, Clean.run}
use Rattle.swc_nodes.specs.{declared.node.ExprId.ExprId, declared.nodes.Nodes.Nodes}
use Rattle.swc_steps.specs.Parsing.{Moves, Produces, itself, tree_of}
use Rattle.swc_steps.specs.{declared.productions.Productions.Productions, Args.args_inside, Lists.elements_inside, Readers.inside, Readers.whole_inside}
use Rattle.swc_steps.proofs.Making as m
use Rattle.swc_steps.proofs.Args.{inside_args}
use Rattle.swc_steps.proofs.Lists.{inside_elements}
use Rattle.swc_steps.proofs.Rules.{inside_assign}
use Rattle.swc_steps.proofs.Steps.{Reader, inner_of, parses_inner, parses_within}
use Rattle.swc_operators.proofs.Assignments.{inside_expr}

-- what w makes of the context at a was set, and decides so
pub as_set : {S : Type 0} (model : Model S) (a b : Buffer S) {was made : Context} (w : Context → Context)
    → was ≡ context model a → deciding made ≡ w (deciding was) → context model b ≡ made
    → deciding (context model b) ≡ w (deciding (context model a))
as_set model a b w from says set = ap deciding set ∙ says ∙ ap (λ x. w (deciding x)) from

module _ {S H F C K : Type 0} {fg : Ghosts F} {cg : Ghosts C} {kg : Ghosts K} {model : Model S} {sure : Bool}
    {T A : Type 0} {held : ℕ → Nodes F C K fg cg kg → T → Type 0}
    {view : Nodes F C K fg cg kg → T → A} {k : ℕ} {p q : Productions S H F C K fg cg kg} {b e : Buffer S}
    {was made ctx : Context} {r o : Result T Error} where
  -- q reads r, which is o, in the context that w makes of the one from before; after it the one from before is set back
  pub within : {f g : Reader A} (w : Context → Context) → ((x : Context) → (w x).ignore_error ≡ x.ignore_error)
      → ((x : Scope) (ts : List TokenAndSpan) → f x ts ≡ g (in_context w x) ts)
      → was ≡ context model p.input → deciding made ≡ w (deciding was)
      → ctx ≡ context model p.input → Moves model p.input b → context model b ≡ made
      → Produces model sure held view g k (record p { input = b }) r q
      → r ≡ o → Moves model q.input e → context model e ≡ ctx
      → Produces model sure held view f k p o (record q { input = e })
  within {f = f} {g = g} w quiet step from says before to set h answer back left =
      subst (λ x. Produces model sure held view f k p x (record q { input = e })) answer
      (m.yes r (parses_within model sure (view q.nodes) f g r w quiet step to (as_set model p.input b w from says set)
      h.reads back (left ∙ before))
      h.grows h.from)

  -- the same, where no assignment expression begins
  pub within_inner : {f g : Reader A} (w : Context → Context) → ((x : Context) → (w x).ignore_error ≡ x.ignore_error)
      → ((x : Scope) (ts : List TokenAndSpan) → f x ts ≡ g (inner (in_context w x)) ts)
      → was ≡ context model p.input → deciding made ≡ w (deciding was)
      → ctx ≡ context model p.input → Moves model p.input b → context model b ≡ made
      → Produces model sure held view g k (record p { input = b }) r q
      → r ≡ o → Moves model q.input e → context model e ≡ ctx
      → Produces model sure held view f k p o (record q { input = e })
  within_inner {g = g} w quiet step from says before to set h answer back left =
      within {g = inner_of g} w quiet step from says before to set
      (m.yes r (parses_inner model sure (view q.nodes) g _ _ r h.reads) h.grows h.from) answer back left

  -- in a context that decides the same
  pub aside : {f : Reader A} → was ≡ context model p.input → deciding made ≡ deciding was
      → ctx ≡ context model p.input → Moves model p.input b → context model b ≡ made
      → Produces model sure held view f k (record p { input = b }) r q
      → r ≡ o → Moves model q.input e → context model e ≡ ctx
      → Produces model sure held view f k p o (record q { input = e })
  aside {f = f} from says before to set h answer back left =
      within {f = f} {g = f} (λ x. x) (λ x. refl) (λ x ts. refl) from says before to set h answer back left

-- what is read where `in` counts as an operator: items in brackets or parentheses
module _ {S H F C K : Type 0} {fg : Ghosts F} {cg : Ghosts C} {kg : Ghosts K} {model : Model S} {sure : Bool}
    {T : Type 0} {held : ℕ → Nodes F C K fg cg kg → T → Type 0}
    {view : Nodes F C K fg cg kg → T → Tree F C K} (hook : Hook F C K) {k : ℕ}
    {p q : Productions S H F C K fg cg kg} {b e : Buffer S} {was made ctx : Context} {r o : Result T Error} where
  pub args_within : (i : Bool) → was ≡ context model p.input → deciding made ≡ include_in (deciding was)
      → ctx ≡ context model p.input → Moves model p.input b → context model b ≡ made
      → Produces model sure held view (run hook (at (Args i))) k (record p { input = b }) r q
      → r ≡ o → Moves model q.input e → context model e ≡ ctx
      → Produces model sure held view (args_inside hook i) k p o (record q { input = e })
  args_within i from says before to set h answer back left =
      within_inner include_in (λ x. refl) (λ x ts. inside_args hook i x ts) from says before to set h answer back left

  pub elements_within : was ≡ context model p.input → deciding made ≡ include_in (deciding was)
      → ctx ≡ context model p.input → Moves model p.input b → context model b ≡ made
      → Produces model sure held view (run hook (at Elements)) k (record p { input = b }) r q
      → r ≡ o → Moves model q.input e → context model e ≡ ctx
      → Produces model sure held view (elements_inside hook) k p o (record q { input = e })
  elements_within from says before to set h answer back left =
      within_inner include_in (λ x. refl) (λ x ts. inside_elements hook x ts) from says before to set h answer back left

-- an assignment expression, and an expression
module _ {S H F C K : Type 0} {fg : Ghosts F} {cg : Ghosts C} {kg : Ghosts K} {model : Model S} {sure : Bool}
    (hook : Hook F C K) {k : ℕ} {p q : Productions S H F C K fg cg kg} {b e : Buffer S} {was made ctx : Context}
    {r o : Result ExprId Error} where
  pub assign_within : was ≡ context model p.input → deciding made ≡ include_in (deciding was)
      → ctx ≡ context model p.input → Moves model p.input b → context model b ≡ made
      → Produces model sure itself tree_of (run hook (at Assign)) k (record p { input = b }) r q
      → r ≡ o → Moves model q.input e → context model e ≡ ctx
      → Produces model sure itself tree_of (inside hook) k p o (record q { input = e })
  assign_within from says before to set h answer back left =
      within_inner include_in (λ x. refl) (λ x ts. inside_assign hook x ts) from says before to set h answer back left

  pub expr_within : was ≡ context model p.input → deciding made ≡ include_in (deciding was)
      → ctx ≡ context model p.input → Moves model p.input b → context model b ≡ made
      → Produces model sure itself tree_of (run hook (at Expr)) k (record p { input = b }) r q
      → r ≡ o → Moves model q.input e → context model e ≡ ctx
      → Produces model sure itself tree_of (whole_inside hook) k p o (record q { input = e })
  expr_within from says before to set h answer back left =
      within_inner include_in (λ x. refl) (λ x ts. inside_expr hook x ts) from says before to set h answer back left
