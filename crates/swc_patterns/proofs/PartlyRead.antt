-- Productions that leave something to read: what is answered.
use Rattle.std.proofs.Common.{◌≡◌, ℕ, Bool, Result, Ok, Err, IsErrAnd}
use Rattle.swc_context.specs.declared.error.Error.{Error}
use Rattle.swc_input.specs.Source.{Model}
use Rattle.swc_ast.specs.declared.spanned.Spanned.{Ghosts}
use Rattle.swc_nodes.specs.{GrowingNodes.Grows, declared.nodes.Nodes.Nodes}
use Rattle.swc_steps.specs.{Parsing.On, Parsing.Unheard, declared.productions.Productions.Productions}
use Rattle.swc_steps.proofs.Steps.{Reader, less}
use Rattle.swc_patterns.specs.Answers.{Leaves}

module _ {S H F C K : Type 0} {fg : Ghosts F} {cg : Ghosts C} {kg : Ghosts K} {model : Model S} {sure : Bool}
    {T A : Type 0} {held : ℕ → Nodes F C K fg cg kg → T → Type 0} {f : Reader A}
    {g : Nodes F C K fg cg kg → T → Reader A} {k : ℕ} {p q : Productions S H F C K fg cg kg} where
  -- refused, as a `?` passes it on
  pub refused : {e : Error} {r : Result T Error} → IsErrAnd r (λ x. x ≡ e) → Unheard model sure f p.input e q.input
      → Grows p.nodes q.nodes → Leaves model sure held f g k p r q
  refused {r = Ok x} h u w = absurd h
  refused {r = Err x} h u w = rw h record { reads = u; falls = tt; grows = w; from = tt }

  -- read
  pub left : (x : T) → On model sure f (g q.nodes x) p.input q.input → Grows p.nodes q.nodes → held k q.nodes x
      → Leaves model sure held f g k p (Ok x) q
  left x o w h = record { reads = o; falls = less o.leads; grows = w; from = h }
