-- What is looked for in an answer before a call hands it out: cover names that are left in it.
use Rattle.std.specs.Prelude.{◌≡◌, ℕ, Bool, true, false, not, ◌||◌, List, [], ◌∷◌, Result, Err, MatchResult}
use Rattle.swc_context.specs.{declared.error.Error.Error, declared.span.Span.Span}
use Rattle.swc_input.specs.{Buffer.last_position, Buffer.state_of, Recording.is_silent, Source.Model, declared.buffer.Buffer.Buffer}
use Rattle.swc_ast.specs.{Tree.Tree, declared.spanned.Spanned.Ghosts}
use Rattle.swc_grammar.specs.Scope.{Scope}
use Rattle.swc_nodes.specs.{GrowingNodes.tree_at, GrowingNodes.CutTo, NodeParts.Part}
use Rattle.swc_input.specs.Calls.{Checks, Forgoes}
use Rattle.swc_steps.specs.Parsing.{scope}
use Rattle.swc_ecma_parser.specs.{CoverNames.parts_covers_left, declared.parser.Parser.Parser}
use Rattle.swc_ecma_parser.specs.Calls.{buffer_of, nodes_of, standing, Ends, with_buffer, Kept, MovesOut, RemembersParts}

abbrev pub no_places : List Span → Bool
no_places [] = true
no_places (s ∷ ss) = false

-- Is no cover name left in parts, if the syntax is pedantic?
abbrev pub parts_done : {F C K : Type 0} → Scope → (ℕ → Tree F C K) → List Part → Bool
parts_done c at ps = not c.syntax.pedantic || no_places (parts_covers_left at ps)

module _ {S : Type 0} (model : Model S) where
  -- A fault is recorded unless all is well. Where all is, and where no fault is recorded at all, nothing is done.
  pub record ChecksCovers (well : Bool) (b c : Buffer S) : Type 0 where
    pub checks : Checks model well b c
    pub still : well ≡ true → c ≡ b
    pub silent : is_silent (state_of model b) ≡ true → c ≡ b

  -- of an item, and of an answer that is one; or memory ran out
  abbrev pub ChecksItem : {T : Type 0} → Bool → Buffer S → Result T Error → Buffer S → Type 0
  ChecksItem well b r c = MatchResult r (λ t. ChecksCovers well b c) (λ e. Forgoes model b e c)

  abbrev pub ChecksAnswer : {X : Type 0} → (X → Bool) → Buffer S → Result X Error → Result X Error → Buffer S → Type 0
  ChecksAnswer well b answer r c = MatchResult answer
      (λ x. MatchResult r (λ y. (y ≡ x) × ChecksCovers (well x) b c) (λ e. Forgoes model b e c))
      (λ e. (r ≡ Err e) × (c ≡ b))

-- An answer that the parser p has read was moved out of the nodes, and those from `start` on were cut off. The parser q
-- has failed if it ran out of memory.
pub record HandsOut {S H F C K X T : Type 0} {fg : Ghosts F} {cg : Ghosts C} {kg : Ghosts K} (parts : X → List Part)
    (start : ℕ)
    (p : Parser S H F C K fg cg kg) (answer : Result X Error) (by : (ℕ → Tree F C K) → X → Tree F C K)
    (view : T → Tree F C K)
    (r : Result T Error) (q : Parser S H F C K fg cg kg) : Type 0 where
  pub moved : MovesOut by view p answer r
  pub commas : RemembersParts parts p answer r q
  pub nodes : CutTo start (nodes_of p) (nodes_of q)
  pub buffer : buffer_of q ≡ buffer_of p
  pub fails : Ends (standing p) r q

module _ {S H F C K X : Type 0} {fg : Ghosts F} {cg : Ghosts C} {kg : Ghosts K} (model : Model S)
    (parts : X → List Part) (start : ℕ) (p : Parser S H F C K fg cg kg) (answer : Result X Error) where
  -- An answer that the parser p has read was looked through, up to the buffer b.
  abbrev pub LooksThroughAnswer : Result X Error → Buffer S → Type 0
  LooksThroughAnswer checked b = ChecksAnswer model (λ x.
      parts_done (scope model (buffer_of p)) (tree_at (nodes_of p)) (parts x))
      (buffer_of p) answer checked b

  -- What is left of it was kept among the nodes; after a refusal those from `start` on were cut off. The parser q has
  -- failed if it ran out of memory.
  pub record KeepsChecked (r : Result X Error) (q : Parser S H F C K fg cg kg) : Type 0 where
    pub at : Buffer S
    pub checked : Result X Error
    pub checks : LooksThroughAnswer checked at
    pub kept : Kept (last_position at) checked r
    pub commas : RemembersParts parts p checked r q
    pub nodes : MatchResult r (λ x. nodes_of q ≡ nodes_of p) (λ e. CutTo start (nodes_of p) (nodes_of q))
    pub buffer : buffer_of q ≡ at
    pub fails : Ends (standing p) r q

  -- Or it was moved out of them.
  pub record MovesCheckedOut {T : Type 0} (by : (ℕ → Tree F C K) → X → Tree F C K) (view : T → Tree F C K)
      (r : Result T Error)
      (q : Parser S H F C K fg cg kg) : Type 0 where
    pub at : Buffer S
    pub checked : Result X Error
    pub checks : LooksThroughAnswer checked at
    pub out : HandsOut parts start (with_buffer at p) checked by view r q
