-- An operand that was refused, in place of which a fault was recorded and more was read.
use Rattle.std.proofs.Common.{◌≡◌, ◌≢◌, ◌<◌, ℕ, Bool, Result, Ok, Err, arith}
use Rattle.std.specs.Result.{IsErrAnd}
use Rattle.swc_context.specs.declared.error.Error.{Error}
use Rattle.swc_context.specs.declared.error.SyntaxError.{SyntaxError}
use Rattle.swc_context.specs.declared.error.SyntaxError.TheVariants.{OutOfMemory}
use Rattle.swc_input.specs.declared.buffer.Buffer.{Buffer}
use Rattle.swc_input.specs.Source.{Model}
use Rattle.swc_ast.specs.declared.spanned.Spanned.{Ghosts}
use Rattle.swc_nodes.specs.GrowingNodes.{Grows}
use Rattle.swc_nodes.specs.declared.nodes.Nodes.{Nodes}
use Rattle.swc_steps.specs.declared.productions.Productions.{Productions}
use Rattle.swc_input.specs.Calls.{recorded, Loud}
use Rattle.swc_steps.specs.Parsing.{Advances, Recovers, Unheard}
use Rattle.swc_steps.proofs.Making.{not_recovered}
use Rattle.swc_steps.proofs.Steps.{Reader, more_recorded, loud_after, onward_later}
use Rattle.swc_steps.proofs.Steps.Consumed.{leads_refused, leads_then, spent}
use Rattle.swc_arrows.specs.Answers.{Fails}

module _ {S H F C K : Type 0} {fg : Ghosts F} {cg : Ghosts C} {kg : Ghosts K} {model : Model S} {T : Type 0}
    {held : ℕ → Nodes F C K fg cg kg → T → Type 0} {Effect : Buffer S → Result T Error → Buffer S → Type 0}
    {kind : SyntaxError} where
  -- a refusal that a `?` passes on
  pub not_recovered_so : {p q : Productions S H F C K fg cg kg} (e : Error) {r : Result T Error}
      → IsErrAnd r (λ x. x ≡ e) → Effect p.input (Err e) q.input → (e.kind ≢ OutOfMemory → kind ≢ OutOfMemory)
      → Grows p.nodes q.nodes → Recovers model held Effect kind p r q
  not_recovered_so e {r = Ok x} h effect memory g = absurd h
  not_recovered_so e {r = Err x} h effect memory g = rw h (not_recovered effect memory g)

module _ {S A : Type 0} {model : Model S} {sure : Bool} where
  -- A call was refused; in place of it a fault was recorded, and a token at least was consumed.
  pub fails_recovered : {f : Reader A} {b c d : Buffer S} {e : Error} → Unheard model sure f b e c
      → e.kind ≢ OutOfMemory → Advances model c d → (Loud model c → recorded model c < recorded model d)
      → Fails model sure f b d
  unfolding leads_then leads_refused spent
  fails_recovered u n p lt =
      let r = leads_refused u.refuses n in
      record {
        doomed = record {
          leads = leads_then r p.leads;
          notes = λ l. let i = more_recorded r in let j = lt (loud_after r l) in omega arith;
          none = λ y l ts k. u.none n y l ts k;
        };
        onward = onward_later (spent r) p.onward;
      }
