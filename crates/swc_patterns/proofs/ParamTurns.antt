-- The loop over formal parameters (15.1): what is read from the first of them on, turn by turn.
use Rattle.std.proofs.Common.{◌≡◌, Bool, Option, Some, None, Result, refl, ℕ}
use Rattle.std.specs.Option.{is_some}
use Rattle.swc_context.specs.{declared.error.Error.Error, declared.span.Span.Span}
use Rattle.swc_input.specs.{declared.buffer.Buffer.Buffer, Source.Model}
use Rattle.swc_ast.specs.Tree.{Tree, Trees, nil, cons}
use Rattle.swc_ast.specs.{Trees.trees_append, declared.spanned.Spanned.Ghosts}
use Rattle.swc_bodies.specs.Readings.{Hook}
use Rattle.swc_grammar.specs.{Symbols.Pat, Tokens.is_equals, Tokens.is_rparen, Clean.sym as at, Clean.run}
use Rattle.swc_nodes.specs.GrowingNodes.{first_at, From, Grows}
use Rattle.swc_nodes.specs.{NodeParts.pat_part, declared.node.PatId.PatId}
use Rattle.swc_nodes.proofs.Held.{from-down, from-later}
use Rattle.swc_input.specs.Calls.{Leads}
use Rattle.swc_steps.specs.Parsing.{On, Heard, Unheard, Produces, GoesOn}
use Rattle.swc_steps.specs.{Lists.eaten, Readers.nothing, declared.productions.Productions.Productions}
use Rattle.swc_steps.proofs.Making as m
use Rattle.swc_steps.proofs.Steps as s
use Rattle.swc_steps.proofs.Steps.{Reader, give}
use Rattle.swc_steps.specs.Params.{params_close, pat_at}
use Rattle.swc_patterns.specs.Params.{next_param, rest_by, rest_end, param_read, params_left, behind_param, params_with}
use Rattle.swc_patterns.specs.Rests.{Stage, separated_item, rest_node}
use Rattle.swc_patterns.specs.{Answers.pat_itself, declared.params.NextParam.NextParam, declared.params.NextParam.NextParam as next}
use Rattle.swc_patterns.proofs.FormalParams.{params_turn, behind_param_splits, rest_end_splits}

module _ {S F C K : Type 0} {model : Model S} {sure : Bool} (hook : Hook F C K) {f : Reader (Tree F C K)}
    (stage : Stage) (before : Trees F C K) {a b : Buffer S}
    (so_far : On model sure f (params_left hook stage before) a b) where
  -- what is before the next element
  pub turned : {c : Buffer S} {n : NextParam} (known : NextParam) → n ≡ known
      → On model sure (next_param stage) (give n) b c
      → On model sure f (λ x ts. params_with hook known stage before x ts) a c
  turned known is o =
      s.on_then so_far (s.on_call (λ x p. params_with hook p.0 stage before x p.1)
      (λ x ts. params_turn hook stage before x ts) (s.on_answer is o))

  pub not_turned : {c : Buffer S} {e : Error} → Unheard model sure (next_param stage) b e c → Unheard model sure f a e c
  not_turned u =
      s.unheard_after so_far (s.unheard_call (λ x p. params_with hook p.0 stage before x p.1)
      (λ x ts. params_turn hook stage before x ts) u)

  -- the parenthesis that closes the list, or the end
  pub ended : {c : Buffer S} {n : NextParam} → n ≡ next.End → On model sure (next_param stage) (give n) b c
      → On model sure f (params_close before) a c
  ended is o = turned next.End is o

module _ {S F C K : Type 0} {model : Model S} {sure : Bool} (hook : Hook F C K) {f : Reader (Tree F C K)}
    (stage : Stage) (before : Trees F C K) (dots : Option Span) {a b : Buffer S}
    (so_far : On model sure f (λ x ts. params_with hook (next.Item dots) stage before x ts) a b) where
  -- an element, or a rest
  pub item : {c : Buffer S} {t : Tree F C K} → On model sure (param_read hook dots) (give t) b c
      → On model sure f (behind_param hook (is_some dots) stage (trees_append before (cons t nil))) a c
  item o =
      s.on_then so_far
      (s.on_call (λ x p. behind_param hook (is_some dots) stage (trees_append before (cons p.0 nil)) x p.1)
      (λ x ts. refl) o)

  pub no_item : {c : Buffer S} {e : Error} → Unheard model sure (param_read hook dots) b e c
      → Unheard model sure f a e c
  no_item u =
      s.unheard_after so_far
      (s.unheard_call (λ x p. behind_param hook (is_some dots) stage (trees_append before (cons p.0 nil)) x p.1)
      (λ x ts. refl) u)

module _ {S F C K : Type 0} {model : Model S} {sure : Bool} (hook : Hook F C K) {f : Reader (Tree F C K)}
    (is_rest : Bool) (stage : Stage) (before : Trees F C K) {a b : Buffer S}
    (so_far : On model sure f (behind_param hook is_rest stage before) a b) where
  -- what is after it
  pub separated : {c : Buffer S} {to : Stage} → On model sure (separated_item is_rparen is_rest stage) (give to) b c
      → On model sure f (params_left hook to before) a c
  separated o =
      s.on_then so_far (s.on_call (λ x p. params_left hook p.0 before x p.1)
      (λ x ts. behind_param_splits hook is_rest stage before x ts) o)

  pub not_separated : {c : Buffer S} {e : Error} → Unheard model sure (separated_item is_rparen is_rest stage) b e c
      → Unheard model sure f a e c
  not_separated u =
      s.unheard_after so_far (s.unheard_call (λ x p. params_left hook p.0 before x p.1)
      (λ x ts. behind_param_splits hook is_rest stage before x ts) u)

-- a rest: its pattern, and what is looked for after it
module _ {S F C K : Type 0} {model : Model S} {sure : Bool} (dots : Span) (t : Tree F C K) {a b : Buffer S} where
  pub rest_bare : On model sure (eaten is_equals) (give None) a b
      → On model sure (rest_end dots t) (give (rest_node dots t)) a b
  rest_bare o = s.on_call (λ x p. rest_by dots t p.0 p.1) (λ x ts. rest_end_splits dots t x ts) o

  pub rest_unlooked : {e : Error} → Unheard model sure (eaten is_equals) a e b
      → Unheard model sure (rest_end dots t) a e b
  rest_unlooked u = s.unheard_call (λ x p. rest_by dots t p.0 p.1) (λ x ts. rest_end_splits dots t x ts) u

  -- after the `=` nothing is read, whatever is there
  pub rest_ill : {e : Span} → On model sure (eaten is_equals) (give (Some e)) a b
      → On model sure (rest_end dots t) nothing a b
  rest_ill o = s.on_call (λ x p. rest_by dots t p.0 p.1) (λ x ts. rest_end_splits dots t x ts) o

  pub rest_faulty : {e : Span} {c : Buffer S} → On model sure (eaten is_equals) (give (Some e)) a b → Leads model b c
      → On model sure (rest_end dots t) nothing a c
  rest_faulty o h = s.on_then (rest_ill o) (s.on_none (λ x ts. refl) (λ x ts. refl) h)

module _ {S F C K : Type 0} {model : Model S} {sure : Bool} (hook : Hook F C K) (dots : Span) where
  pub rest_begun : {t : Tree F C K} {a b : Buffer S} → On model sure (run hook (at Pat)) (give t) a b
      → On model sure (param_read hook (Some dots)) (rest_end dots t) a b
  rest_begun o = s.on_call (λ x p. rest_end dots p.0 x p.1) (λ x ts. refl) o

  pub no_rest : {a b : Buffer S} {e : Error} → Unheard model sure (run hook (at Pat)) a e b
      → Unheard model sure (param_read hook (Some dots)) a e b
  no_rest u = s.unheard_call (λ x p. rest_end dots p.0 x p.1) (λ x ts. refl) u

module _ {S H F C K : Type 0} {fg : Ghosts F} {cg : Ghosts C} {kg : Ghosts K} {model : Model S} {sure : Bool}
    (hook : Hook F C K) (dots : Span) where
  pub rest_param : {k : ℕ} {p n o : Productions S H F C K fg cg kg} {g : Reader (Tree F C K)}
      (q : Productions S H F C K fg cg kg) (arg : PatId) (r : Result PatId Error)
      → Heard model sure (run hook (at Pat)) (pat_at q.nodes arg) p.input q.input
      → Grows p.nodes q.nodes → From k q.nodes (pat_part arg)
      → On model sure (rest_end dots (pat_at q.nodes arg)) g q.input n.input → Grows q.nodes n.nodes
      → GoesOn model sure pat_itself pat_at g (first_at n.nodes arg.0) n r o
      → Produces model sure pat_itself pat_at (param_read hook (Some dots)) k p r o
  rest_param {n = n} q arg r read grows from behind more made =
      let above = (from-later more from).above in
      m.call {m = q} r (λ x p. rest_end dots p.0 x p.1) (λ x ts. refl) read grows
      (λ x h. from-down above h) (m.on_after {m = n} r behind more made)
