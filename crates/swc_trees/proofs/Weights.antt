-- How many nodes a tree has: each call is made with fewer, or on the way to a part of the same tree.
use Rattle.std.proofs.Common.{ℕ, suc, ◌+◌, ◌≤◌, List, [], ◌∷◌, ◌++◌, map, Option, Some, None, arith}
use Rattle.swc_context.specs.declared.span.Span.{Span}
use Rattle.swc_ast.specs.Parts.{item_of}
use Rattle.swc_ast.specs.Tree.{Tree, Trees, node, nil, cons, trees}

abbrev mutual
  pub weight : {F C K : Type 0} → Tree F C K → ℕ
  weight (node k s ts) = suc (weight_all ts)

  pub weight_all : {F C K : Type 0} → Trees F C K → ℕ
  weight_all nil = 0
  weight_all (cons t ts) = weight t + weight_all ts

-- of a list of trees
abbrev pub weight_of : {F C K X : Type 0} → (X → Tree F C K) → List X → ℕ
weight_of tree xs = weight_all (trees (map tree xs))

-- an expression weighs no more than the item that it is
pub weight-item-of : {F C K : Type 0} (dots : Option Span) (t : Tree F C K) → weight t ≤ weight (item_of dots t)
weight-item-of None t = omega arith
weight-item-of (Some s) t = omega arith

-- trees after others weigh no more than all
pub weight-behind : {F C K : Type 0} (ss ts : List (Tree F C K)) → weight_all (trees ts) ≤ weight_all (trees (ss ++ ts))
weight-behind [] ts = omega arith
weight-behind (s ∷ ss) ts = let w = weight-behind ss ts in omega arith
