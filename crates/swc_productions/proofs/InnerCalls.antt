-- Productions at a buffer, whose scope never says that an assignment expression begins there: they read the same with
-- that flag cleared.
use Rattle.std.proofs.Common.{ℕ, Bool, Result}
use Rattle.swc_context.specs.declared.error.Error.{Error}
use Rattle.swc_input.specs.Source.{Model}
use Rattle.swc_ast.specs.declared.spanned.Spanned.{Ghosts}
use Rattle.swc_nodes.specs.declared.nodes.Nodes.{Nodes}
use Rattle.swc_steps.specs.Parsing.{GoesOn}
use Rattle.swc_steps.specs.declared.productions.Productions.{Productions}
use Rattle.swc_steps.proofs.Making.{on}
use Rattle.swc_steps.proofs.Steps.{Reader, inner_of, continues_inner}

module _ {S H F C K : Type 0} {fg : Ghosts F} {cg : Ghosts C} {kg : Ghosts K} {model : Model S} {sure : Bool}
    {T A : Type 0} {held : ℕ → Nodes F C K fg cg kg → T → Type 0} {view : Nodes F C K fg cg kg → T → A} {f : Reader A}
    {k : ℕ} where
  pub goes_inner : {p q : Productions S H F C K fg cg kg} (r : Result T Error) → GoesOn model sure held view f k p r q
      → GoesOn model sure held view (inner_of f) k p r q
  goes_inner {p} {q} r h = on r (continues_inner model sure (view q.nodes) f p.input q.input r h.reads) h.grows h.from
