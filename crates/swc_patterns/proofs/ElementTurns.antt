-- The loop over the elements of an array pattern (14.3.3): what is read from the bracket on, turn by turn.
use Rattle.std.proofs.Common.{◌≡◌, Bool, List, [], ◌∷◌, ◌++◌, Option, Some, None, Result, refl, ℕ}
use Rattle.std.specs.Option.{is_some}
use Rattle.swc_context.specs.{declared.error.Error.Error, declared.span.Span.Span}
use Rattle.swc_input.specs.{declared.buffer.Buffer.Buffer, Source.Model}
use Rattle.swc_ast.specs.{Tree.Tree, Tree.nil, Trees.listed, declared.spanned.Spanned.Ghosts}
use Rattle.swc_bodies.specs.Readings.{Hook}
use Rattle.swc_grammar.specs.{Symbols.Pat, Tokens.is_rbracket, Clean.sym as at, Clean.run}
use Rattle.swc_nodes.specs.GrowingNodes.{first_at, From, Grows}
use Rattle.swc_nodes.specs.{NodeParts.pat_part, declared.node.PatId.PatId}
use Rattle.swc_nodes.proofs.Held.{from-down}
use Rattle.swc_steps.specs.Parsing.{On, Heard, Unheard, Produces, GoesOn}
use Rattle.swc_steps.specs.declared.productions.Productions.{Productions}
use Rattle.swc_steps.proofs.Making as m
use Rattle.swc_steps.proofs.Steps as s
use Rattle.swc_steps.proofs.Steps.{Reader, give}
use Rattle.swc_patterns.specs.Arrays.{put_elements, next_element, item_read, elements_left, behind_element, elements_with}
use Rattle.swc_patterns.specs.Rests.{Stage, behind_item, separated_item, rest_node}
use Rattle.swc_steps.specs.Params.{pat_at}
use Rattle.swc_patterns.specs.{Answers.pat_itself, declared.pat.NextElement.NextElement, declared.pat.NextElement.NextElement as next}
use Rattle.swc_patterns.proofs.Arrays.{elements_turn, behind_element_splits}

module _ {S F C K : Type 0} {model : Model S} {sure : Bool} (hook : Hook F C K) {f : Reader (Tree F C K)}
    (stage : Stage) (before : List (Option (Tree F C K))) {a b : Buffer S}
    (so_far : On model sure f (elements_left hook stage before) a b) where
  -- what is before the next element
  pub turned : {c : Buffer S} {n : NextElement} (known : NextElement) → n ≡ known
      → On model sure (next_element stage) (give n) b c
      → On model sure f (λ x ts. elements_with hook known stage before x ts) a c
  turned known is o =
      s.on_then so_far (s.on_call (λ x p. elements_with hook p.0 stage before x p.1)
      (λ x ts. elements_turn hook stage before x ts) (s.on_answer is o))

  pub not_turned : {c : Buffer S} {e : Error} → Unheard model sure (next_element stage) b e c
      → Unheard model sure f a e c
  not_turned u =
      s.unheard_after so_far (s.unheard_call (λ x p. elements_with hook p.0 stage before x p.1)
      (λ x ts. elements_turn hook stage before x ts) u)

  -- the bracket that closes the list
  pub ended : {c : Buffer S} {n : NextElement} (end : Span) → n ≡ next.End end
      → Heard model sure (next_element stage) n b c → Heard model sure f (listed None end (put_elements before nil)) a c
  ended end is h =
      s.heard_after so_far (s.heard_call (λ x p. elements_with hook p.0 stage before x p.1)
      (λ x ts. elements_turn hook stage before x ts) (λ x ts. refl) (s.heard_answer is h))

  -- a hole
  pub holed : {c : Buffer S} {n : NextElement} → n ≡ next.Hole → On model sure (next_element stage) (give n) b c
      → On model sure f (elements_left hook (behind_item stage) (before ++ None ∷ [])) a c
  holed is o = turned next.Hole is o

module _ {S F C K : Type 0} {model : Model S} {sure : Bool} (hook : Hook F C K) {f : Reader (Tree F C K)}
    (stage : Stage) (before : List (Option (Tree F C K))) (dots : Option Span) {a b : Buffer S}
    (so_far : On model sure f (λ x ts. elements_with hook (next.Item dots) stage before x ts) a b) where
  -- an element, or a rest
  pub item : {c : Buffer S} {t : Tree F C K} → On model sure (item_read hook dots) (give t) b c
      → On model sure f (behind_element hook (is_some dots) stage (before ++ Some t ∷ [])) a c
  item o =
      s.on_then so_far
      (s.on_call (λ x p. behind_element hook (is_some dots) stage (before ++ Some p.0 ∷ []) x p.1) (λ x ts. refl) o)

  pub no_item : {c : Buffer S} {e : Error} → Unheard model sure (item_read hook dots) b e c → Unheard model sure f a e c
  no_item u =
      s.unheard_after so_far
      (s.unheard_call (λ x p. behind_element hook (is_some dots) stage (before ++ Some p.0 ∷ []) x p.1)
      (λ x ts. refl) u)

module _ {S F C K : Type 0} {model : Model S} {sure : Bool} (hook : Hook F C K) {f : Reader (Tree F C K)}
    (is_rest : Bool) (stage : Stage) (before : List (Option (Tree F C K))) {a b : Buffer S}
    (so_far : On model sure f (behind_element hook is_rest stage before) a b) where
  -- what is after it
  pub separated : {c : Buffer S} {to : Stage} → On model sure (separated_item is_rbracket is_rest stage) (give to) b c
      → On model sure f (elements_left hook to before) a c
  separated o =
      s.on_then so_far (s.on_call (λ x p. elements_left hook p.0 before x p.1)
      (λ x ts. behind_element_splits hook is_rest stage before x ts) o)

  pub not_separated : {c : Buffer S} {e : Error} → Unheard model sure (separated_item is_rbracket is_rest stage) b e c
      → Unheard model sure f a e c
  not_separated u =
      s.unheard_after so_far (s.unheard_call (λ x p. elements_left hook p.0 before x p.1)
      (λ x ts. behind_element_splits hook is_rest stage before x ts) u)

-- a rest, over the pattern after its dots
module _ {S F C K : Type 0} {model : Model S} {sure : Bool} (hook : Hook F C K) (dots : Span) where
  pub rest_begun : {t : Tree F C K} {a b : Buffer S} → On model sure (run hook (at Pat)) (give t) a b
      → On model sure (item_read hook (Some dots)) (give (rest_node dots t)) a b
  rest_begun o = s.on_call (λ x p. Some (rest_node dots p.0, p.1)) (λ x ts. refl) o

  pub no_rest : {a b : Buffer S} {e : Error} → Unheard model sure (run hook (at Pat)) a e b
      → Unheard model sure (item_read hook (Some dots)) a e b
  no_rest u = s.unheard_call (λ x p. Some (rest_node dots p.0, p.1)) (λ x ts. refl) u

module _ {S H F C K : Type 0} {fg : Ghosts F} {cg : Ghosts C} {kg : Ghosts K} {model : Model S} {sure : Bool}
    (hook : Hook F C K) (dots : Span) where
  pub rest_item : {k : ℕ} {p o : Productions S H F C K fg cg kg} (q : Productions S H F C K fg cg kg) (arg : PatId)
      (r : Result PatId Error)
      → Heard model sure (run hook (at Pat)) (pat_at q.nodes arg) p.input q.input → Grows p.nodes q.nodes
      → From k q.nodes (pat_part arg)
      → GoesOn model sure pat_itself pat_at (λ x ts. Some (rest_node dots (pat_at q.nodes arg), ts))
      (first_at q.nodes arg.0) q r o → Produces model sure pat_itself pat_at (item_read hook (Some dots)) k p r o
  rest_item q arg r read grows from made =
      m.call {m = q} r (λ x p. Some (rest_node dots p.0, p.1)) (λ x ts. refl) read grows
      (λ x h. from-down from.above h) made
