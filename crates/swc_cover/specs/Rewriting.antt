-- What a production does that changes nodes which were there: those of an expression that becomes a pattern.
use Rattle.std.specs.Prelude.{◌≤◌, ℕ, Bool, List, Result, MatchResult, OnOk, IfOk}
use Rattle.swc_context.specs.declared.error.Error.{Error}
use Rattle.swc_input.specs.{declared.token.TokenAndSpan.TokenAndSpan, Source.Model, Buffer.to_come}
use Rattle.swc_ast.specs.declared.spanned.Spanned.{Ghosts}
use Rattle.swc_grammar.specs.{Scope.Scope, Clean.Out}
use Rattle.swc_nodes.specs.declared.nodes.Nodes.{Nodes}
use Rattle.swc_steps.specs.{Parsing.On, Parsing.Unheard, declared.productions.Productions.Productions}
use Rattle.swc_cover.specs.Moving.{KeptTo}

module _ {S H F C K : Type 0} {fg : Ghosts F} {cg : Ghosts C} {kg : Ghosts K} (model : Model S) (sure : Bool)
    {T A : Type 0} (held : ℕ → Nodes F C K fg cg kg → T → Type 0) (f : Scope → List TokenAndSpan → Out A)
    (g : Nodes F C K fg cg kg → T → Scope → List TokenAndSpan → Out A) where
  -- From p to q: reading f is, from there on, reading g of the answer; nodes below the number k stay, and the answer
  -- holds numbers from k on.
  pub record Rewrites (k : ℕ) (p : Productions S H F C K fg cg kg) (r : Result T Error)
      (q : Productions S H F C K fg cg kg) : Type 0 where
    pub reads : MatchResult r (λ t. On model sure f (g q.nodes t) p.input q.input)
        (λ e. Unheard model sure f p.input e q.input)
    pub falls : OnOk r (to_come model q.input ≤ to_come model p.input)
    pub kept : KeptTo k p.nodes q.nodes
    pub from : IfOk r (λ t. held k q.nodes t)
