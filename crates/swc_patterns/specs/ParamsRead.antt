-- Formal parameters (15.1), each of which is read by itself, whatever comes after the last.
use Rattle.std.specs.Prelude.{◌≡◌, ◌≤◌, ℕ, Bool, List, Some, Result, MatchResult, OnOk, IfOk}
use Rattle.std.specs.{declared.alloc.Global.Global, declared.vec.Vec.Vec}
use Rattle.swc_context.specs.declared.error.Error.{Error}
use Rattle.swc_input.specs.{declared.token.TokenAndSpan.TokenAndSpan, Source.Model, Buffer.to_come}
use Rattle.swc_ast.specs.Tree.{Tree, Trees, nil, cons}
use Rattle.swc_ast.specs.{declared.function.Param.Param, declared.spanned.Spanned.Ghosts}
use Rattle.swc_bodies.specs.Readings.{Hook}
use Rattle.swc_grammar.specs.Symbols.{Element, Rest, Params}
use Rattle.swc_grammar.specs.{Scope.Scope, Clean.sym, Clean.run}
use Rattle.swc_nodes.specs.{GrowingNodes.Grows, declared.node.PatId.PatId}
use Rattle.swc_input.specs.Calls.{recorded, Loud}
use Rattle.swc_steps.specs.Parsing.{scope, On, Unheard}
use Rattle.swc_steps.specs.declared.productions.Productions.{Productions}
use Rattle.swc_steps.specs.Params.{params_at, params_of, params_close}

module _ {F C K : Type 0} (hook : Hook F C K) (c : Scope) where
  -- a parameter: an element, or a rest
  pub data ReadAlone (t : Tree F C K) : Type 0 where
    element : (xs ys : List TokenAndSpan) → run hook (sym Element) c xs ≡ Some (t, ys) → ReadAlone t
    dotted : (xs ys : List TokenAndSpan) → run hook (sym Rest) c xs ≡ Some (t, ys) → ReadAlone t

  abbrev pub AllReadAlone : Trees F C K → Type 0
  AllReadAlone nil = Unit {0}
  AllReadAlone (cons t ts) = ReadAlone t × AllReadAlone ts

-- What the production of formal parameters does from p to q. It leaves the parenthesis that closes them, and may stop
-- where there is none: so what it read of the list is said by what is left (`reads`), and what each of them is by
-- itself (`each`), if no fault was recorded.
pub record LeavesParams {S H F C K : Type 0} {fg : Ghosts F} {cg : Ghosts C} {kg : Ghosts K} (model : Model S)
    (sure : Bool) (hook : Hook F C K) (k : ℕ) (p : Productions S H F C K fg cg kg)
    (r : Result (Vec (Param PatId) Global) Error) (q : Productions S H F C K fg cg kg) : Type 0 where
  pub reads : MatchResult r
      (λ ps. On model sure (run hook (sym Params)) (params_close (params_at q.nodes ps)) p.input q.input)
      (λ e. Unheard model sure (run hook (sym Params)) p.input e q.input)
  pub each : Loud model p.input → recorded model q.input ≡ recorded model p.input
      → IfOk r (λ ps. AllReadAlone hook (scope model p.input) (params_at q.nodes ps))
  pub falls : OnOk r (to_come model q.input ≤ to_come model p.input)
  pub grows : Grows p.nodes q.nodes
  pub from : IfOk r (λ ps. params_of k q.nodes ps)
