-- The cover names of a tree: properties `name = value` of object literals (ECMA-262, 13.2.5), which no finished
-- expression may have.
use Rattle.std.specs.Prelude.{ℕ, Bool, true, false, List, [], ◌∷◌, ◌++◌, if◌then◌else◌}
use Rattle.swc_context.specs.declared.span.Span.{Span}
use Rattle.swc_ast.specs.Tree.{cover, arrow, Tree, node, Trees, nil, cons}
use Rattle.swc_nodes.specs.NodeParts.{Part, flat}

-- Where they are, in the order of the source, with those in arrow functions or without them. Nothing is looked for
-- after a cover name; but in keys, in parameters of methods and in patterns. What the hook reads has no parts. The body
-- of an arrow function is before its parameters in the tree, and after them in the source.
abbrev mutual
  pub covers_by : {F C K : Type 0} → Bool → Tree F C K → List Span
  covers_by in_arrows (node cover s ts) = s ∷ []
  covers_by in_arrows (node (arrow is_async) s ts) = if in_arrows then covers_of_arrow in_arrows ts else []
  covers_by in_arrows (node k s ts) = covers_by_of_all in_arrows ts

  pub covers_by_of_all : {F C K : Type 0} → Bool → Trees F C K → List Span
  covers_by_of_all in_arrows nil = []
  covers_by_of_all in_arrows (cons t ts) = covers_by in_arrows t ++ covers_by_of_all in_arrows ts

  pub covers_of_arrow : {F C K : Type 0} → Bool → Trees F C K → List Span
  covers_of_arrow in_arrows nil = []
  covers_of_arrow in_arrows (cons body params) = covers_by_of_all in_arrows params ++ covers_by in_arrows body

-- those outside of arrow functions
abbrev pub cover_names : {F C K : Type 0} → Tree F C K → List Span
cover_names t = covers_by false t

-- all that are left
abbrev pub covers_left : {F C K : Type 0} → Tree F C K → List Span
covers_left t = covers_by true t

abbrev pub covers_left_of_all : {F C K : Type 0} → Trees F C K → List Span
covers_left_of_all ts = covers_by_of_all true ts

-- all that are left in parts, one after another, by the tree of each number
abbrev pub parts_covers_left : {F C K : Type 0} → (ℕ → Tree F C K) → List Part → List Span
parts_covers_left at ps = flat (λ p. covers_left (at p.at)) ps
