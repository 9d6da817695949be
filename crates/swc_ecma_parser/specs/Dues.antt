-- What a walk over a tree has yet to do.
use Rattle.std.specs.Prelude.{ℕ, ◌<◌, Bool, List, [], ◌∷◌, ◌++◌, map, if◌then◌else◌}
use Rattle.std.specs.List.{All, sum_by}
use Rattle.swc_context.specs.declared.span.Span.{Span}
use Rattle.swc_ast.specs.{Tree.Tree, declared.spanned.Spanned.Ghosts}
use Rattle.swc_nodes.specs.NodeParts.{Part, slots, flat, one_pat, body_parts, prop_parts}
use Rattle.swc_nodes.specs.{GrowingNodes.count, GrowingNodes.seat_at, NumberedTrees.Seat, Walking.part_of, Weights.weight, declared.node.Node.Node, declared.node.Node.Node as n, declared.node.PropNode.PropNode, declared.node.PropNode.PropNode as prop, declared.nodes.Nodes.Nodes}
use Rattle.swc_ecma_parser.specs.{CoverNames.covers_by, declared.verifier.Due.Due, declared.verifier.Due.Due as d}

-- to go through the tree of a number, or to note a cover name
pub data Task : Type 0 where
  go : ℕ → Task
  note : Span → Task

abbrev pub due_of : Due → Task
due_of (d.Part p) = go (part_of p).at
due_of (d.Name s) = note s

-- what is due of parts, of a property, and of a node: all their parts, but of an arrow function only where these are to
-- be gone into, and of a cover name its place
abbrev pub part_dues : List Part → List Task
part_dues ps = map (λ p. go p.at) ps

abbrev pub prop_dues : {K : Type 0} → PropNode K → List Task
prop_dues (prop.Assign p) = note p.span ∷ []
prop_dues p = part_dues (prop_parts p)

abbrev pub node_dues : {F C K : Type 0} → Bool → Node F C K → List Task
node_dues in_arrows (n.Object s props comma) = flat prop_dues props.items
node_dues in_arrows (n.Arrow s ps b a) = if in_arrows then part_dues
    (flat one_pat ps.items ++ body_parts b.value) else []
node_dues in_arrows x = part_dues (slots x)

-- the cover names that are found by it, in the order of the source
abbrev pub names_of : {F C K : Type 0} → Bool → (ℕ → Tree F C K) → Task → List Span
names_of in_arrows at (go i) = covers_by in_arrows (at i)
names_of in_arrows at (note s) = s ∷ []

abbrev pub names_due : {F C K : Type 0} → Bool → (ℕ → Tree F C K) → List Task → List Span
names_due in_arrows at = flat (names_of in_arrows at)

-- how many steps it takes at most
abbrev pub steps_of : {F C K : Type 0} → (ℕ → Seat F C K) → Task → ℕ
steps_of at (go i) = weight at i
steps_of at (note s) = 1

-- it is to go through a node that there is
abbrev pub is_within : ℕ → Task → Type 0
is_within k (go i) = i < k
is_within k (note s) = Unit {0}

module _ {F C K : Type 0} {fg : Ghosts F} {cg : Ghosts C} {kg : Ghosts K} where
  abbrev pub steps_left : Nodes F C K fg cg kg → List Task → ℕ
  steps_left ns ts = sum_by (steps_of (seat_at ns)) ts

  abbrev pub AreWithin : Nodes F C K fg cg kg → List Task → Type 0
  AreWithin ns ts = All (is_within (count ns)) ts
