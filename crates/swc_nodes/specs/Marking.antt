-- Literals that were read without the places of their commas, with those that are known by where a literal begins.
use Rattle.std.specs.Prelude.{◌≡◌, ℕ, List, ◌++◌, Option, map, take, drop}
use Rattle.swc_context.specs.declared.span.Span.{Span}
use Rattle.swc_ast.specs.Tree.{array_with, object_with, assign, arrow, param, setter, pat_expr, default, key_value, binding_prop, Tree, node, Trees, nil, cons}
use Rattle.swc_ast.specs.declared.spanned.Spanned.{Ghosts}
use Rattle.swc_nodes.specs.NodeParts.{Part, View, expr, pat, simple, pattern}
use Rattle.swc_nodes.specs.GrowingNodes.{count, seat_at, tree_at, first_at, From}
use Rattle.swc_nodes.specs.{declared.node.Node.Node, declared.node.Node.Node as n, declared.nodes.Nodes.Nodes}

-- where the comma of a literal is, by where the literal begins, or that there is none
abbrev pub Marker : Type 0
Marker = ℕ → Option Span

-- The tree of an expression, and of a pattern, with the marks of commas at all array and object literals in it: an
-- array or object pattern has none. On the left of an assignment, among the parameters of an arrow function, in that of
-- a function and in that of a setter patterns are; in a pattern expressions are its initialisers, its keys, and what is
-- written to as it is.
abbrev mutual
  pub marked_by : {F C K : Type 0} → Marker → Tree F C K → Tree F C K
  marked_by m (node (array_with comma) s ts) = node (array_with (m s.lo.0)) s (all_marked_by m ts)
  marked_by m (node (object_with comma) s ts) = node (object_with (m s.lo.0)) s (all_marked_by m ts)
  marked_by m (node (assign op) s (cons l ts)) = node (assign op) s (cons (target_marked_by m l) (all_marked_by m ts))
  marked_by m (node (arrow a) s (cons body ts)) = node (arrow a) s (cons (marked_by m body) (pats_marked_by m ts))
  marked_by m (node param s ts) = node param s (pats_marked_by m ts)
  marked_by m (node setter s (cons k (cons p ts))) =
      node setter s (cons (marked_by m k) (cons (pat_marked_by m p) (all_marked_by m ts)))
  marked_by m (node k s ts) = node k s (all_marked_by m ts)

  pub all_marked_by : {F C K : Type 0} → Marker → Trees F C K → Trees F C K
  all_marked_by m nil = nil
  all_marked_by m (cons t ts) = cons (marked_by m t) (all_marked_by m ts)

  -- a literal on the left of an assignment is a pattern
  pub target_marked_by : {F C K : Type 0} → Marker → Tree F C K → Tree F C K
  target_marked_by m (node (array_with comma) s ts) = node (array_with comma) s (pats_marked_by m ts)
  target_marked_by m (node (object_with comma) s ts) = node (object_with comma) s (pats_marked_by m ts)
  target_marked_by m (node k s ts) = node k s (all_marked_by m ts)

  pub pat_marked_by : {F C K : Type 0} → Marker → Tree F C K → Tree F C K
  pat_marked_by m (node pat_expr s ts) = node pat_expr s (all_marked_by m ts)
  pat_marked_by m (node default s (cons l ts)) = node default s (cons (pat_marked_by m l) (all_marked_by m ts))
  pat_marked_by m (node key_value s (cons k ts)) = node key_value s (cons (marked_by m k) (pats_marked_by m ts))
  pat_marked_by m (node binding_prop s ts) = node binding_prop s (all_marked_by m ts)
  pat_marked_by m (node k s ts) = node k s (pats_marked_by m ts)

  pub pats_marked_by : {F C K : Type 0} → Marker → Trees F C K → Trees F C K
  pats_marked_by m nil = nil
  pats_marked_by m (cons t ts) = cons (pat_marked_by m t) (pats_marked_by m ts)

-- the tree of a part
abbrev pub marked_as : {F C K : Type 0} → Marker → View → Tree F C K → Tree F C K
marked_as m expr t = marked_by m t
marked_as m simple t = target_marked_by m t
marked_as m pat t = pat_marked_by m t
marked_as m pattern t = target_marked_by m t

-- a node with the mark of its comma, where it is an array or object literal
abbrev pub with_comma : {F C K : Type 0} → Option Span → Node F C K → Node F C K
with_comma comma (n.Array s elems was) = n.Array s elems comma
with_comma comma (n.Object s props was) = n.Object s props comma
with_comma comma x = x

abbrev pub marked_node : {F C K : Type 0} → Marker → Node F C K → Node F C K
marked_node m (n.Array s elems was) = n.Array s elems (m s.lo.0)
marked_node m (n.Object s props was) = n.Object s props (m s.lo.0)
marked_node m x = x

-- the nodes from the number k on, so marked
abbrev pub marked_from : {F C K : Type 0} → Marker → ℕ → List (Node F C K) → List (Node F C K)
marked_from m k xs = take k xs ++ map (marked_node m) (drop k xs)

module _ {F C K : Type 0} {fg : Ghosts F} {cg : Ghosts C} {kg : Ghosts K} where
  -- The literals with numbers from k on were marked: what is reached from each number, and what its node is, are what
  -- they were, and so are the nodes below k; the parts from which nothing below k is reached stand for their marked
  -- trees.
  pub record Marks (m : Marker) (k : ℕ) (ns ms : Nodes F C K fg cg kg) : Type 0 where
    pub kept : take k ms.nodes.items ≡ take k ns.nodes.items
    pub counted : count ms ≡ count ns
    pub firsts : (i : ℕ) → first_at ms i ≡ first_at ns i
    pub forms : (i : ℕ) → (seat_at ms i).form ≡ (seat_at ns i).form
    pub stands : (p : Part) → From k ns p → tree_at ms p.at ≡ marked_as m p.view (tree_at ns p.at)
