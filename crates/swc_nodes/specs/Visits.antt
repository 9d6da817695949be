-- Going over nodes, each before its parts and after them.
use Rattle.std.specs.Prelude.{◌≡◌, ℕ, ◌<◌, ◌≤◌, List, [], ◌∷◌, ◌++◌, Option, Some, None, Contains, length, map, reverse}
use Rattle.swc_ast.specs.declared.spanned.Spanned.{Ghosts}
use Rattle.swc_nodes.specs.{GrowingNodes.count, GrowingNodes.Stood, NodeParts.Part, NodeParts.slots, Walking.part_of, declared.apart.PartId.PartId, declared.node.Node.Node, declared.nodes.Nodes.Nodes, declared.walk.Open.Open, declared.walk.Step.Step, declared.walk.Step.TheVariants.Enter, declared.walk.Step.TheVariants.Leave, declared.walk.Visit.Visit}

-- of the nodes around, the innermost of which is first
abbrev pub innermost : List PartId → Option PartId
innermost [] = None
innermost (p ∷ ps) = Some p

-- a visit before the parts of p, and after them, where these nodes are around it
abbrev pub entering : PartId → List PartId → Visit
entering p around = record { step = Enter; part = p; parent = innermost around }

abbrev pub leaving : PartId → List PartId → Visit
leaving p around = record { step = Leave; part = p; parent = innermost around }

-- what is left, in its order
abbrev pub also_left : Step → PartId → List PartId → List PartId
also_left Enter p ps = ps
also_left Leave p ps = p ∷ ps

abbrev pub left_in : List Visit → List PartId
left_in [] = []
left_in (v ∷ vs) = also_left v.step v.part (left_in vs)

-- the parts of the innermost node around; where none is, those that the walk begins with
abbrev pub parts_under : (ℕ → List Part) → List Part → List PartId → List Part
parts_under at ps [] = ps
parts_under at ps (q ∷ qs) = at (part_of q).at

-- The visits go over what is reached from the parts ps, where `at` gives the parts of a number. The nodes around were
-- entered before them, and not left. So what is entered is left after all that was entered after it; each is a part of
-- the innermost node around it, and that is its parent.
pub data Walked (at : ℕ → List Part) (ps : List Part) : List Visit → List PartId → Type 0 where
  over : Walked at ps [] []
  enters : {p : PartId} {around : List PartId} {vs : List Visit} → Walked at ps vs (p ∷ around)
      → Walked at ps (entering p around ∷ vs) around
  leaves : {p : PartId} {around : List PartId} {vs : List Visit} → Contains (parts_under at ps around) (part_of p)
      → Walked at ps vs around
      → Walked at ps (leaving p around ∷ vs) (p ∷ around)

-- ---- how the walk goes: from the last visit to the first

-- what was left, and isn't entered yet, the innermost first
abbrev pub opened : List Open → List PartId
opened os = map (λ o. o.part) (reverse os)

abbrev pub opening : PartId → ℕ → Open
opening p rest = record { part = p; rest = rest }

-- Of the parts that are due the last ones are parts of the innermost node around, and those before them are due outside
-- it.
pub record Within (parts : List Part) (rest : ℕ) (Outer : List Part → Type 0) (due : List Part) : Type 0 where
  pub before : List Part
  pub more : List Part
  pub split : due ≡ before ++ more
  pub counted : rest ≡ length before
  pub under : (p : Part) → Contains more p → Contains parts p
  pub outer : Outer before

abbrev pub Due : (ℕ → List Part) → List Part → List Open → List Part → Type 0
Due at ps [] due = (p : Part) → Contains due p → Contains ps p
Due at ps (o ∷ os) due = Within (at (part_of o.part).at) o.rest (λ before. Due at ps os before) due

-- the visits so far, the last one first, and what is due before them
pub record Goes (at : ℕ → List Part) (ps due : List Part) (visits : List Visit) (around : List Open) : Type 0 where
  pub walked : Walked at ps (reverse visits) (opened around)
  pub under : Due at ps (reverse around) due

-- so many parts are due, of which the innermost node around has the last one
abbrev pub IsReady : ℕ → List Open → Type 0
IsReady due [] = Unit {0}
IsReady due (o ∷ os) = o.rest < due

-- The part was left, before which its own parts are due; or it was left out, since no node has its number.
pub data Turns {F C K : Type 0} {fg : Ghosts F} {cg : Ghosts C} {kg : Ghosts K} (ns : Nodes F C K fg cg kg)
    (id : PartId)
    (due : List PartId) (around : List Open) (visits : List Visit) : List PartId → List Open → List Visit → Type 0 where
  past : count ns ≤ (part_of id).at → Turns ns id due around visits due around visits
  left : {x : Node F C K} {rest : ℕ} {more : List PartId} {os : List Open} {vs : List Visit}
      → (part_of id).at < count ns
      → Stood ns (part_of id).at x → rest ≡ length due → map part_of more ≡ map part_of due ++ slots x
      → os ≡ around ++ opening id rest ∷ [] → vs ≡ visits ++ leaving id (opened around) ∷ []
      → Turns ns id due around visits more os vs
