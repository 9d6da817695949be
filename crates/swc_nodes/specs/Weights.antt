-- How many numbers are reached from numbers of nodes at most: what is left of a walk over trees.
use Rattle.std.specs.Prelude.{ℕ, suc, ◌-◌, ◌<◌, List, [], ◌∷◌}
use Rattle.std.specs.List.{All, sum_by}
use Rattle.swc_ast.specs.declared.spanned.Spanned.{Ghosts}
use Rattle.swc_nodes.specs.{NumberedTrees.Seat, NodeParts.Part, GrowingNodes.count, GrowingNodes.seat_at, declared.nodes.Nodes.Nodes}

-- the numbers of parts
abbrev pub ats : List Part → List ℕ
ats [] = []
ats (p ∷ ps) = p.at ∷ ats ps

-- how many numbers there are from the smallest that is reached from a number through the number itself
abbrev pub weight : {F C K : Type 0} → (ℕ → Seat F C K) → ℕ → ℕ
weight at i = suc i - (at i).first

module _ {F C K : Type 0} {fg : Ghosts F} {cg : Ghosts C} {kg : Ghosts K} where
  abbrev pub left_over : Nodes F C K fg cg kg → List ℕ → ℕ
  left_over ns is = sum_by (weight (seat_at ns)) is

  -- each is the number of a node
  abbrev pub AreNumbers : Nodes F C K fg cg kg → List ℕ → Type 0
  AreNumbers ns is = All (λ i. i < count ns) is
