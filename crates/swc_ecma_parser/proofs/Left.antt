-- Which cover names are left: none, where the tree has none; and those of the parts, where a tree is made of parts.
use Rattle.std.proofs.Common.{◌≡◌, ℕ, true, List, [], ◌∷◌, ◌++◌, map, refl, ap, ◌∙◌, arith}
use Rattle.std.proofs.lemmas.List.Elements.{All-same}
use Rattle.std.specs.{declared.alloc.Global.Global, declared.vec.Vec.Vec}
use Rattle.swc_ast.specs.Tree.{cover, arrow, args, Tree, node, Trees, nil, cons, no_span, trees}
use Rattle.swc_ast.specs.{Parts.args_tree, Pedantic.no_cover_left, Pedantic.none_left, declared.expr.ExprOrSpread.ExprOrSpread, declared.spanned.Spanned.Ghosts}
use Rattle.swc_nodes.specs.GrowingNodes.{count, seat_at, Apart}
use Rattle.swc_nodes.specs.NodeParts.{Part, flat, one_expr, one_pat, args_parts}
use Rattle.swc_nodes.specs.{declared.node.ExprId.ExprId, declared.node.PatId.PatId, declared.nodes.Nodes.Nodes}
use Rattle.swc_nodes.proofs.Chains.{both_true, true_both}
use Rattle.swc_ecma_parser.specs.CoverNames.{covers_left, covers_left_of_all, covers_of_arrow, parts_covers_left}
use Rattle.swc_ecma_parser.specs.Dues.{Task, part_dues, names_due, is_within, AreWithin}
use Rattle.swc_ecma_parser.proofs.Names.{listed, expr_same, pat_same, args_names}
use Rattle.swc_ecma_parser.proofs.Shrinking.{part_within}

-- ---- none is left

none-before : {X : Type 0} (xs ys : List X) → xs ++ ys ≡ [] → xs ≡ []
none-before [] ys e = refl
none-before (x ∷ xs) ys e = absurd cc

none-behind : {X : Type 0} (xs ys : List X) → xs ++ ys ≡ [] → ys ≡ []
none-behind [] ys e = e
none-behind (x ∷ xs) ys e = absurd cc

none-both : {X : Type 0} (xs ys : List X) → xs ≡ [] → ys ≡ [] → xs ++ ys ≡ []
none-both xs ys d e = ap (λ v. v ++ ys) d ∙ e

mutual
  -- where a tree has no cover name, there are no places of any
  pub nowhere : {F C K : Type 0} (t : Tree F C K) → no_cover_left t ≡ true → covers_left t ≡ []
  nowhere (node cover s ts) h = absurd cc
  nowhere (node (arrow is_async) s ts) h = nowhere-in-arrow ts h
  nowhere (node k s ts) h = nowhere-in-all ts h

  pub nowhere-in-all : {F C K : Type 0} (ts : Trees F C K) → none_left ts ≡ true → covers_left_of_all ts ≡ []
  nowhere-in-all nil h = refl
  nowhere-in-all (cons t ts) h = let b = both_true h in none-both _ _ (nowhere t b.0) (nowhere-in-all ts b.1)

  nowhere-in-arrow : {F C K : Type 0} (ts : Trees F C K) → none_left ts ≡ true → covers_of_arrow true ts ≡ []
  nowhere-in-arrow nil h = refl
  nowhere-in-arrow (cons t ts) h = let b = both_true h in none-both _ _ (nowhere-in-all ts b.1) (nowhere t b.0)

mutual
  -- where there are no places of cover names, the tree has none
  pub none-has : {F C K : Type 0} (t : Tree F C K) → covers_left t ≡ [] → no_cover_left t ≡ true
  none-has (node cover s ts) e = absurd cc
  none-has (node (arrow is_async) s ts) e = none-has-arrow ts e
  none-has (node k s ts) e = none-have ts e

  pub none-have : {F C K : Type 0} (ts : Trees F C K) → covers_left_of_all ts ≡ [] → none_left ts ≡ true
  none-have nil e = refl
  none-have (cons t ts) e = true_both (none-has t (none-before _ _ e)) (none-have ts (none-behind _ _ e))

  none-has-arrow : {F C K : Type 0} (ts : Trees F C K) → covers_of_arrow true ts ≡ [] → none_left ts ≡ true
  none-has-arrow nil e = refl
  none-has-arrow (cons t ts) e = true_both (none-has t (none-behind _ _ e)) (none-have ts (none-before _ _ e))

-- ---- those of parts

module _ {F C K : Type 0} (at : ℕ → Tree F C K) where
  pub due-left : (ps : List Part) → names_due true at (part_dues ps) ≡ parts_covers_left at ps
  due-left [] = refl
  due-left (p ∷ ps) = ap (λ v. covers_left (at p.at) ++ v) (due-left ps)

  pub expr-left : (e : ExprId) → covers_left (at e.0) ≡ parts_covers_left at (one_expr e)
  expr-left e = expr_same true at e ∙ due-left (one_expr e)

  pub pat-left : (p : PatId) → covers_left (at p.0) ≡ parts_covers_left at (one_pat p)
  pat-left p = pat_same true at p ∙ due-left (one_pat p)

  pub args-left : (xs : Vec (ExprOrSpread ExprId) Global)
      → covers_left (args_tree (λ (e : ExprId). at e.0) xs) ≡ parts_covers_left at (args_parts xs)
  args-left xs = args_names true at xs ∙ due-left (args_parts xs)

  pub pats-left : (ps : List PatId)
      → covers_left (node args no_span (trees (map (λ (p : PatId). at p.0) ps))) ≡ parts_covers_left at
      (flat one_pat ps)
  pats-left ps = listed true at (λ (p : PatId). at p.0) one_pat (pat_same true at) ps ∙ due-left (flat one_pat ps)

-- ---- what a walk begins with, among nodes

module _ {F C K : Type 0} {fg : Ghosts F} {cg : Ghosts C} {kg : Ghosts K} (ns : Nodes F C K fg cg kg) where
  pub begun-within : (ps : List Part) (ts : List Task) → ts ≡ part_dues ps → Apart 0 ns ps → AreWithin ns ts
  begun-within ps ts e apart =
      All-same (is_within (count ns)) ts (part_dues ps) e
      (part_within (seat_at ns) ps 0 (count ns) (count ns) (omega arith) apart.chained)
