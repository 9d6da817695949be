-- What is reached from parts, among nodes.
use Rattle.std.specs.Prelude.{◌≡◌, ◌<◌, ◌↔◌, List, ◌∷◌, ◌++◌, AllPairs, Contains}
use Rattle.swc_ast.specs.declared.spanned.Spanned.{Ghosts}
use Rattle.swc_nodes.specs.{NodeParts.Part, GrowingNodes.count, GrowingNodes.parts_at, Walking.part_of, declared.apart.PartId.PartId, declared.nodes.Nodes.Nodes}

-- What is reached from the parts ps: they themselves, where a node has their number, and the parts of the node of each
-- that is reached.
pub data Reaches {F C K : Type 0} {fg : Ghosts F} {cg : Ghosts C} {kg : Ghosts K} (ns : Nodes F C K fg cg kg)
    (ps : List Part) : Part → Type 0 where
  itself : {p : Part} → Contains ps p → p.at < count ns → Reaches ns ps p
  part : {p q : Part} → Reaches ns ps p → Contains (parts_at ns p.at) q → Reaches ns ps q

module _ {F C K : Type 0} {fg : Ghosts F} {cg : Ghosts C} {kg : Ghosts K} where
  -- the list has all that is reached from the parts ps, and nothing else
  abbrev pub HasReached : Nodes F C K fg cg kg → List Part → List Part → Type 0
  HasReached ns ps list = (p : Part) → Contains list p ↔ Reaches ns ps p

  -- before each in the list are all parts of its node
  abbrev pub PartsFirst : Nodes F C K fg cg kg → List Part → Type 0
  PartsFirst ns list = (before behind : List Part) (p q : Part) → list ≡ before ++ p ∷ behind
      → Contains (parts_at ns p.at) q → Contains before q

-- each has a smaller number than all after it: so none comes twice
abbrev pub NumbersRise : List PartId → Type 0
NumbersRise list = AllPairs (λ p q. (part_of p).at < (part_of q).at) list
