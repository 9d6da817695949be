-- Patterns that were made: ranges of nodes from which nothing below the first is reached.
use Rattle.std.specs.Prelude.{◌≡◌, ℕ, suc, ◌<◌, ◌≤◌, List, [], ◌∷◌, ◌++◌, length}
use Rattle.std.proofs.Props.{props}
use Rattle.swc_context.specs.declared.span.Span.{Span}
use Rattle.swc_ast.specs.Tree.{Tree}
use Rattle.swc_nodes.specs.NumberedTrees.{Seat, found, seats_after}
use Rattle.swc_nodes.specs.{declared.node.Node.Node, declared.turning.Settled.Settled}

-- the seat of a number among nodes
module _ {F C K : Type 0} (fun_at : F → Span) (class_at : C → Span) (block_at : K → Span) where
  abbrev pub seat_in : List (Node F C K) → ℕ → Seat F C K
  seat_in xs i = found (seats_after fun_at class_at block_at [] xs) i

  abbrev pub tree_in : List (Node F C K) → ℕ → Tree F C K
  tree_in xs i = (seat_in xs i).tree

module _ {F C K : Type 0} (at : ℕ → Seat F C K) where
  -- from the numbers of the range nothing below the first is reached, and from the last the first is
  pub record IsSettled (b : Settled) : Type 0 where
    pub order : b.first ≤ b.last
    pub first : (at b.last).first ≡ b.first
    pub above : (i : ℕ) → b.first ≤ i → i ≤ b.last → b.first ≤ (at i).first

  -- ranges one after another, between two bounds
  abbrev pub Ranges : ℕ → List Settled → ℕ → Type 0
  Ranges lo [] hi = lo ≤ hi
  Ranges lo (b ∷ bs) hi = (lo ≤ b.first) × IsSettled b × Ranges (suc b.last) bs hi

-- these have one proof at most, so they may be a ghost field
ranges-prop : {F C K : Type 0} (at : ℕ → Seat F C K) (lo : ℕ) (bs : List Settled) (hi : ℕ) → IsProp (Ranges at lo bs hi)
ranges-prop at lo [] hi = Prim.hlevel props
ranges-prop at lo (b ∷ bs) hi = Prim.hlevel (props, ranges-prop at (suc b.last) bs hi)

-- those of nodes
module _ {F C K : Type 0} (fun_at : F → Span) (class_at : C → Span) (block_at : K → Span) where
  pub record SettledIn (xs : List (Node F C K)) (bs : List Settled) : Type 0 where
    pub ranges : Ranges (seat_in fun_at class_at block_at xs) 0 bs (length xs)

pub settled-prop : {F C K : Type 0} (fun_at : F → Span) (class_at : C → Span) (block_at : K → Span)
    (xs : List (Node F C K)) (bs : List Settled) → IsProp (SettledIn fun_at class_at block_at xs bs)
settled-prop fun_at class_at block_at xs bs = Prim.hlevel (props, ranges-prop)

-- those with a last number from n on were dropped, from the end
pub record DroppedFrom (n : ℕ) (old new : List Settled) : Type 0 where
  pub more : List Settled
  pub dropped : old ≡ new ++ more
  pub below : (bs : List Settled) (b : Settled) → new ≡ bs ++ b ∷ [] → b.last < n
