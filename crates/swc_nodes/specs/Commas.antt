-- Where commas are after the last parts of literals, by where these begin.
use Rattle.std.specs.Prelude.{◌≡◌, ◌≢◌, ℕ, List, [], ◌∷◌, ◌++◌, Option, None, nat_eq, if◌then◌else◌}
use Rattle.std.specs.{BTreeMap.get, Ordering.nat_cmp}
use Rattle.swc_context.specs.declared.span.Span.{Span}
use Rattle.swc_ast.specs.Tree.{Kind, array_with, object_with, arrow, Tree, node, Trees, nil, cons}
use Rattle.swc_nodes.specs.NodeParts.{Part, slots, flat, one_pat, body_parts}
use Rattle.swc_nodes.specs.{declared.commas.TrailingCommas.TrailingCommas, declared.node.Node.Node, declared.node.Node.Node as n}

-- the comma of a literal that begins at the position
abbrev pub comma_at : TrailingCommas → ℕ → Option Span
comma_at cs start = get nat_cmp cs.by_start start

-- what was remembered of a literal at the position is the comma, or that there is none; of others it is what it was
pub record Remembers (start : ℕ) (comma : Option Span) (old new : TrailingCommas) : Type 0 where
  pub here : comma_at new start ≡ comma
  pub others : (at : ℕ) → at ≢ start → comma_at new at ≡ comma_at old at

-- ---- the literals of a tree, and its array and object patterns, which have no comma

-- where a literal begins, and the comma after its last part, or that there is none
abbrev pub Literal : Type 0
Literal = ℕ × Option Span

-- the literal that is at a node itself
abbrev pub own_comma : {F C K : Type 0} → Kind F C K → Span → List Literal
own_comma (array_with comma) s = (s.lo.0, comma) ∷ []
own_comma (object_with comma) s = (s.lo.0, comma) ∷ []
own_comma k s = []

-- All literals of a tree, but for those in the bodies of arrow functions: a node before its parts, and these from the
-- last one on, in the order of the source.
abbrev mutual
  pub commas_in : {F C K : Type 0} → Tree F C K → List Literal
  commas_in (node (arrow a) s (cons body params)) = commas_of_all params
  commas_in (node k s ts) = own_comma k s ++ commas_of_all ts

  pub commas_of_all : {F C K : Type 0} → Trees F C K → List Literal
  commas_of_all nil = []
  commas_of_all (cons t ts) = commas_of_all ts ++ commas_in t

-- those of the trees of parts, from the last one on
abbrev pub part_commas : {F C K : Type 0} → (ℕ → Tree F C K) → List Part → List Literal
part_commas at [] = []
part_commas at (p ∷ ps) = part_commas at ps ++ commas_in (at p.at)

-- the parts of a node in which literals are remembered: all but the body of an arrow function; and that body
abbrev pub outer_parts : {F C K : Type 0} → Node F C K → List Part
outer_parts (n.Arrow s ps b a) = flat one_pat ps.items
outer_parts x = slots x

abbrev pub body_part : {F C K : Type 0} → Node F C K → List Part
body_part (n.Arrow s ps b a) = body_parts b.value
body_part x = []

-- the literal or pattern that a node itself is
abbrev pub node_comma : {F C K : Type 0} → Node F C K → List Literal
node_comma (n.Array s elems comma) = (s.lo.0, comma) ∷ []
node_comma (n.Object s props comma) = (s.lo.0, comma) ∷ []
node_comma (n.PatArray s elems) = (s.lo.0, None) ∷ []
node_comma (n.PatObject s props) = (s.lo.0, None) ∷ []
node_comma x = []

-- ---- remembering literals

-- what is remembered at a position once literals were remembered, one after another: the comma of the last one that
-- begins there, and what there was where none does
abbrev pub recalled : List Literal → ℕ → Option Span → Option Span
recalled [] at was = was
recalled (l ∷ ls) at was = recalled ls at (if nat_eq l.0 at then l.1 else was)

-- the literals were remembered, and no other
abbrev pub Recalls : List Literal → TrailingCommas → TrailingCommas → Type 0
Recalls ls old new = (at : ℕ) → comma_at new at ≡ recalled ls at (comma_at old at)
