-- The function of a method (15.4 to 15.6, 15.8): read in the context of its parameters, which is set back.
use Rattle.std.proofs.Common.{◌≡◌, ℕ, Bool, Option, Result, refl, ap}
use Rattle.swc_context.specs.Contexts.{method_params}
use Rattle.swc_context.specs.Contexts.{view as deciding}
use Rattle.swc_context.specs.declared.context.Context.{Context}
use Rattle.swc_context.specs.declared.error.Error.{Error}
use Rattle.swc_input.specs.declared.buffer.Buffer.{Buffer}
use Rattle.swc_input.specs.Buffer.{context}
use Rattle.swc_input.specs.Source.{Model}
use Rattle.swc_ast.specs.declared.function.Function.{Function}
use Rattle.swc_ast.specs.declared.spanned.Spanned.{Ghosts}
use Rattle.swc_bodies.specs.Readings.{Hook, LawfulHook}
use Rattle.swc_nodes.specs.declared.node.PatId.{PatId}
use Rattle.swc_steps.specs.Parsing.{Moves, Produces, shell_at}
use Rattle.swc_steps.specs.declared.productions.Productions.{Productions}
use Rattle.swc_operators.proofs.InContext.{within}
use Rattle.swc_primary.specs.Methods.{async_in, generator_in, method_function, method_inside, method_shell}
use Rattle.swc_primary.specs.declared.modifiers.MethodKind.{MethodKind}
use Rattle.swc_primary.proofs.Functions.{function_inside}

module _ {S H F C K : Type 0} {fg : Ghosts F} {cg : Ghosts C} {kg : Ghosts K} {model : Model S} {sure : Bool}
    (hook : Hook F C K) (laws : LawfulHook fg.place cg.place kg.place hook) {k : ℕ}
    {p q : Productions S H F C K fg cg kg} {b e : Buffer S} {was made ctx : Context}
    {r o : Result (Function PatId K) Error} where
  pub method_within : (m : Option MethodKind) → was ≡ context model p.input
      → made ≡ method_params (async_in m) (generator_in m) was → ctx ≡ context model p.input
      → Moves model p.input b → context model b ≡ made
      → Produces model sure (method_shell m) shell_at (method_inside hook kg.place m) k (record p { input = b }) r q
      → r ≡ o → Moves model q.input e → context model e ≡ ctx
      → Produces model sure (method_shell m) shell_at (method_function hook m) k p o (record q { input = e })
  method_within m from says before to set h answer back left =
      within (method_params (async_in m) (generator_in m)) (λ x. refl) (function_inside hook laws m) from
      (ap deciding says) before to set h answer back left
