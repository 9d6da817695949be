-- How nodes become what they are to, one after another, the one with the largest number first.
use Rattle.std.specs.Prelude.{◌≡◌, ℕ, zero, suc, ◌+◌, ◌<◌, ◌≤◌, true, List, [], ◌∷◌, ◌++◌, Result, Ok, Err, drop, length, map, take}
use Rattle.std.specs.declared.alloc.AllocError.{AllocError}
use Rattle.swc_context.specs.declared.span.Span.{Span}
use Rattle.swc_ast.specs.Tree.{Tree}
use Rattle.swc_nodes.specs.NodeParts.{Part}
use Rattle.swc_nodes.specs.NumberedTrees.{chain, floor, ordered}
use Rattle.swc_nodes.specs.Roles.{Due, becomes_as, dues_of, part_of_due, suit}
use Rattle.swc_nodes.specs.Settled.{seat_in, tree_in, Ranges}
use Rattle.swc_nodes.specs.Turning.{node_at, no_node, Became, Law, RecastIn}
use Rattle.swc_nodes.specs.{Recasting.turned, declared.node.Node.Node, declared.role.Role.Role, declared.role.Role.Role as role, declared.turning.Settled.Settled}

-- nodes without parts
abbrev pub no_nodes : {F C K : Type 0} → ℕ → List (Node F C K)
no_nodes zero = []
no_nodes (suc n) = no_node ∷ no_nodes n

-- those with numbers from one to before another
abbrev pub cleared : {F C K : Type 0} → ℕ → ℕ → List (Node F C K) → List (Node F C K)
cleared from n xs = take from xs ++ (no_nodes n ++ drop (from + n) xs)

-- parts of the nodes that became what they are to
abbrev pub turned_parts : {F C K : Type 0} → List (Node F C K) → List Due → List Part
turned_parts xs qs = map (turned (node_at xs)) qs

-- the nodes up to a part
abbrev pub up_to : {F C K : Type 0} → Due → List (Node F C K) → List (Node F C K)
up_to q xs = take (suc q.part.at) xs

module _ {F C K : Type 0} (fun_at : F → Span) (class_at : C → Span) (block_at : K → Span) where
  -- xs are the nodes as they were
  module _ (xs : List (Node F C K)) where
    -- Nodes us go on from nodes zs, which end before i, and end before j. What is due became what it is to: `bs` among
    -- us as `as` among zs, from the number k on.
    pub record Met (k : ℕ) (zs us : List (Node F C K)) (i : ℕ) (qs : List Due) (j : ℕ) (bs : List Due)
        (cs : List Settled) : Type 0 where
      pub order : ordered fun_at class_at block_at [] us ≡ true
      pub apart : chain (seat_in fun_at class_at block_at us) k (turned_parts xs bs) j ≡ true
      pub lowest : floor (seat_in fun_at class_at block_at us) j (turned_parts xs bs)
          ≡ floor (seat_in fun_at class_at block_at zs) i (turned_parts xs qs)
      pub above : (l : ℕ) → i ≤ l → l < j → k ≤ (seat_in fun_at class_at block_at us l).first
      pub ranges : Ranges (seat_in fun_at class_at block_at us) i cs j

    -- over any nodes in which `as` became what they are to, and which end before i, `mid` is such nodes
    pub record Promise (i : ℕ) (qs : List Due) (mid : List (Node F C K)) (j : ℕ) (bs : List Due) (cs : List Settled)
        : Type 0 where
      pub long : i + length mid ≡ j
      pub meets : (k : ℕ) (zs : List (Node F C K)) → length zs ≡ i → ordered fun_at class_at block_at [] zs ≡ true →
          chain (seat_in fun_at class_at block_at zs) k (turned_parts xs qs) i ≡ true
          → Met k zs (zs ++ mid) i qs j bs cs
      pub became : (S : Role → Tree F C K → Tree F C K) → Law fun_at class_at block_at S →
          (k : ℕ) (zs : List (Node F C K)) → length zs ≡ i → ordered fun_at class_at block_at [] zs ≡ true →
          chain (seat_in fun_at class_at block_at zs) k (turned_parts xs qs) i ≡ true →
          Became fun_at class_at block_at S (node_at xs) (tree_in fun_at class_at block_at xs)
          (tree_in fun_at class_at block_at zs) qs →
          Became fun_at class_at block_at S (node_at xs) (tree_in fun_at class_at block_at xs)
          (tree_in fun_at class_at block_at (zs ++ mid)) bs

  -- ---- one node, and one root

  -- the node with the number i became what it is to, and what its parts are to become is due
  pub record TurnedOne (xs ys : List (Node F C K)) (i : ℕ) (r : Role) (qs bs : List Due) : Type 0 where
    pub node : Node F C K
    pub over : List (Node F C K)
    pub same : take i over ≡ take i xs
    pub recast : RecastIn fun_at class_at block_at over (becomes_as r (node_at xs i)) r (node_at xs i) node
    pub nodes : ys ≡ take i xs ++ node ∷ drop (suc i) xs
    pub dues : bs ≡ qs ++ dues_of r (node_at xs i)

  -- a settled pattern stays what it is
  pub record Stays (xs ys : List (Node F C K)) (i : ℕ) (r : Role) (qs bs : List Due) (cs : List Settled) (f : ℕ)
      : Type 0 where
    pub keeps : r ≡ role.Keep
    pub nodes : ys ≡ xs
    pub dues : bs ≡ qs
    pub before : List Settled
    pub range : Settled
    pub found : cs ≡ before ++ range ∷ []
    pub last : range.last ≡ i
    pub first : range.first ≡ f

  -- what a root asks: its part, among the nodes up to it
  pub record RootReady (xs : List (Node F C K)) (q : Due) (cs : List Settled) : Type 0 where
    pub within : q.part.at < length xs
    pub order : ordered fun_at class_at block_at [] (up_to q xs) ≡ true
    pub apart : chain (seat_in fun_at class_at block_at (up_to q xs)) 0 (q.part ∷ []) (suc q.part.at) ≡ true
    pub suits : suit (q ∷ []) ≡ true
    pub ranges : Ranges (seat_in fun_at class_at block_at (up_to q xs)) 0 cs (suc q.part.at)

  -- it became what it is to, and f is the smallest number that is reached from it then
  pub record RootDone (xs : List (Node F C K)) (q : Due) (f : ℕ) (ys : List (Node F C K))
      (cs : List Settled) : Type 0 where
    pub mid : List (Node F C K)
    pub nodes : ys ≡ take f xs ++ (mid ++ drop (suc q.part.at) xs)
    pub promise : Promise (up_to q xs) f [] mid (suc q.part.at) (q ∷ []) (record { first = f; last = q.part.at } ∷ [])
    pub above : (k : ℕ) →
        chain (seat_in fun_at class_at block_at (up_to q xs)) k (q.part ∷ []) (suc q.part.at) ≡ true → k ≤ f
    pub ranges : Ranges (seat_in fun_at class_at block_at (up_to q xs)) 0 cs f

  -- out of memory: what isn't done is dropped
  pub record RootCut (xs : List (Node F C K)) (q : Due) (ys : List (Node F C K)) (cs : List Settled) : Type 0 where
    pub end : ℕ
    pub nodes : ys ≡ take end xs
    pub within : end < suc q.part.at
    pub above : (k : ℕ) →
        chain (seat_in fun_at class_at block_at (up_to q xs)) k (q.part ∷ []) (suc q.part.at) ≡ true → k ≤ end
    pub ranges : Ranges (seat_in fun_at class_at block_at (up_to q xs)) 0 cs end

  abbrev pub RootTurned : List (Node F C K) → Due → Result ℕ AllocError → List (Node F C K) → List Settled → Type 0
  RootTurned xs q (Ok f) ys cs = RootDone xs q f ys cs
  RootTurned xs q (Err e) ys cs = RootCut xs q ys cs

  -- ---- all roots

  pub record AllReady (xs : List (Node F C K)) (qs : List Due) (cs : List Settled) : Type 0 where
    pub order : ordered fun_at class_at block_at [] xs ≡ true
    pub apart : chain (seat_in fun_at class_at block_at xs) 0 (map part_of_due qs) (length xs) ≡ true
    pub suits : suit qs ≡ true
    pub ranges : Ranges (seat_in fun_at class_at block_at xs) 0 cs (length xs)

  -- from f on they became what they are to
  pub record AllDone (xs : List (Node F C K)) (qs : List Due) (ys : List (Node F C K)) : Type 0 where
    pub first : ℕ
    pub end : ℕ
    pub mid : List (Node F C K)
    pub ranges : List Settled
    pub nodes : ys ≡ take first xs ++ mid
    pub within : first ≤ length xs
    pub promise : Promise xs first [] mid end qs ranges
    pub above : (k : ℕ) →
        chain (seat_in fun_at class_at block_at xs) k (map part_of_due qs) (length xs) ≡ true → k ≤ first

  -- the nodes are ordered, and those below all that is reached from the parts stay
  pub record AllKept (xs : List (Node F C K)) (qs : List Due) (ys : List (Node F C K))
      (cs : List Settled) : Type 0 where
    pub order : ordered fun_at class_at block_at [] ys ≡ true
    pub ranges : Ranges (seat_in fun_at class_at block_at ys) 0 cs (length ys)
    pub kept : (k : ℕ) →
        chain (seat_in fun_at class_at block_at xs) k (map part_of_due qs) (length xs) ≡ true →
        (take k ys ≡ take k xs) × (k ≤ length ys)
