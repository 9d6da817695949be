-- The parts of patterns: elements, properties and parameters that are read one after another keep what they stand for;
-- and an expression as a pattern.
use Rattle.std.proofs.Common.{◌≡◌, ℕ, suc, ◌<◌, true, List, [], ◌∷◌, ◌++◌, map, Option, Some, None, refl, sym, ap, ◌∙◌, subst}
use Rattle.std.proofs.lemmas.Bool.{le-leb}
use Rattle.swc_context.specs.declared.span.Span.{Span}
use Rattle.swc_ast.specs.Parts.{leaf, or_hole, binding_tree, prop_name_tree, param_tree, no_tree}
use Rattle.swc_ast.specs.Tree.{Tree, node, cons, nil, trees, span_of, key_value, binding_prop, rest, dots, pat_expr, array}
use Rattle.swc_ast.specs.{Trees.trees_append, Trees.setter_parts, declared.function.Param.Param, declared.spanned.Spanned.Ghosts}
use Rattle.swc_nodes.specs.NodeParts.{Part, expr_part, flat, one_expr, one_pat, if_some, key_parts, param_parts, pat_prop_parts, pat, pat_part, part_parts, pat_elem_part}
use Rattle.swc_nodes.specs.GrowingNodes.{count, seat_at, tree_at, Apart, Grows, Stood, Added, Made}
use Rattle.swc_nodes.specs.Lists.{first_param_pat, pat_elem, pat_elem_tree, pat_elem_trees, pat_elem_parts, held_elem_parts}
use Rattle.swc_nodes.specs.NodeTree.{pat_prop_of, part_tree, pat_elem_of}
use Rattle.swc_nodes.specs.{NumberedTrees.Seat, NumberedTrees.chain, declared.node.ExprId.ExprId, declared.node.PatId.PatId, declared.node.Node.Node, declared.node.Node.Node as n, declared.node.PatPropNode.PatPropNode, declared.node.PatPropNode.PatPropNode as pat_prop, declared.nodes.Nodes.Nodes, declared.node.PatElem.PatElem, declared.node.PatPart.PatPart, declared.node.PatPart.PatPart as of_pat}
use Rattle.swc_nodes.proofs.Chains.{both_true, true_both, chain-bound}
use Rattle.swc_nodes.proofs.Lists.{SameTrees, same_first, same-front, same-back, key-same, param-same, list-later, list-more, list-made-as}
use Rattle.swc_nodes.proofs.{Held.stood-is, Held.stood-parts, Targets.Leads, Targets.leads}
use Rattle.std.specs.{declared.alloc.Global.Global, declared.vec.Vec.Vec}

module _ {F C K : Type 0} (at by : ℕ → Tree F C K) where
  pub pat-same : (p : PatId) → SameTrees at by (one_pat p) → at p.0 ≡ by p.0
  pat-same p h = same_first h

  part-same : (p : PatPart) → SameTrees at by (part_parts p) → part_tree at p ≡ part_tree by p
  part-same (of_pat.Pat p) h = same_first h
  part-same (of_pat.Expr e) h = ap (λ t. node pat_expr (span_of t) (cons t nil)) (same_first h)

  value-same : (v : Option ExprId) → SameTrees at by (if_some one_expr v) →
      or_hole (λ e. at e.0) v ≡ or_hole (λ e. by e.0) v
  value-same None h = refl
  value-same (Some e) h = same_first h

module _ {F C K : Type 0} (fun_at : F → Span) (class_at : C → Span) (block_at : K → Span) (at by : ℕ → Tree F C K) where
  pub pat-prop-same : (p : PatPropNode) → SameTrees at by (pat_prop_parts p) →
      pat_prop_of fun_at class_at block_at at p ≡ pat_prop_of fun_at class_at block_at by p
  pat-prop-same (pat_prop.KeyValue s k v) h =
      let key = key-same at by k (same-front at by (key_parts k) (part_parts v) h) in
      let value = part-same at by v (same-back at by (key_parts k) (part_parts v) h) in
      let key_by = prop_name_tree (λ e. by e.0) k in
      ap (λ t. node key_value s (cons t (cons (part_tree at v) nil))) key
      ∙ ap (λ t. node key_value s (cons key_by (cons t nil))) value
  pat-prop-same (pat_prop.Assign s k v) h =
      ap (λ t. node binding_prop s (cons (binding_tree k) (cons t nil))) (value-same at by v h)
  pat-prop-same (pat_prop.Rest s d p) h = ap (λ t. node rest s (cons (leaf dots d) (cons t nil))) (part-same at by p h)

-- ---- elements that are patterns, as an array pattern holds them

pub elems-parts : (xs : List (Option PatId)) →
    flat (if_some pat_elem_part) (map pat_elem xs) ≡ flat (if_some one_pat) xs
elems-parts [] = refl
elems-parts (None ∷ xs) = elems-parts xs
elems-parts (Some p ∷ xs) = ap (λ v. pat_part p ∷ v) (elems-parts xs)

pub elems-trees : {F C K : Type 0} (at : ℕ → Tree F C K) (xs : List (Option PatId)) →
    map (or_hole (pat_elem_of at)) (map pat_elem xs) ≡ map (pat_elem_tree at) xs
elems-trees at [] = refl
elems-trees at (None ∷ xs) = ap (λ v. no_tree ∷ v) (elems-trees at xs)
elems-trees at (Some p ∷ xs) = ap (λ v. at p.0 ∷ v) (elems-trees at xs)

-- ---- what a setter has of its function, before its block: the pattern of the first parameter

module _ {F C K : Type 0} (at : ℕ → Tree F C K) where
  pub setter-parts : (body : Tree F C K) (xs : List (Param PatId)) (p : PatId) → first_param_pat xs ≡ Some p →
      setter_parts (cons body (trees (map (param_tree (λ q. at q.0)) xs))) ≡ cons (at p.0) (cons body nil)
  setter-parts body [] p h = cc
  setter-parts body (x ∷ xs) p h = let same : x.pat ≡ p = cc in ap (λ q. cons (at q.0) (cons body nil)) same

module _ {F C K : Type 0} (at : ℕ → Seat F C K) where
  chain-front : (lo : ℕ) (ps qs : List Part) (hi : ℕ) → chain at lo (ps ++ qs) hi ≡ true → chain at lo ps hi ≡ true
  chain-front lo [] qs hi h = le-leb lo hi (chain-bound at lo qs hi h)
  chain-front lo (p ∷ ps) qs hi h =
      let b = both_true h in
      true_both b.0 (chain-front (suc p.at) ps qs hi b.1)

  chain-first-param : (lo : ℕ) (ps : List Part) (xs : List (Param PatId)) (p : PatId) (hi : ℕ) →
      first_param_pat xs ≡ Some p → chain at lo (ps ++ flat param_parts xs) hi ≡ true →
      chain at lo (ps ++ one_pat p) hi ≡ true
  chain-first-param lo [] [] p hi e h = cc
  chain-first-param lo [] (x ∷ xs) p hi e h =
      let same : x.pat ≡ p = cc in
      ap (λ q. chain at lo (one_pat q) hi) (sym same) ∙ chain-front lo (one_pat x.pat) (flat param_parts xs) hi h
  chain-first-param lo (q ∷ ps) xs p hi e h =
      let b = both_true h in
      true_both b.0 (chain-first-param (suc q.at) ps xs p hi e b.1)

module _ {F C K : Type 0} {fg : Ghosts F} {cg : Ghosts C} {kg : Ghosts K} where
  -- parts, and the parameters of a setter after them, of which it has the first
  pub setter-apart : {ns : Nodes F C K fg cg kg} {k : ℕ} (ps : List Part) (xs : List (Param PatId)) (p : PatId) →
      first_param_pat xs ≡ Some p → Apart k ns (ps ++ flat param_parts xs) → Apart k ns (ps ++ one_pat p)
  setter-apart {ns} {k} ps xs p e a =
      record { chained = chain-first-param (seat_at ns) k ps xs p (count ns) e a.chained }

  -- ---- patterns one after another, as the parameters of an arrow function

  pub pats-later : {ns ms : Nodes F C K fg cg kg} {k : ℕ} (xs : List PatId) →
      Grows ns ms → Apart k ns (flat one_pat xs) →
      trees (map (λ p. tree_at ms p.0) xs) ≡ trees (map (λ p. tree_at ns p.0) xs)
  pats-later xs g a = list-later one_pat (λ at p. at p.0) pat-same xs g a

  -- ---- the properties of an object

  pub pat-props-more : {ns ms : Nodes F C K fg cg kg} {k : ℕ} (xs : List PatPropNode) (x : PatPropNode) →
      Grows ns ms → Apart k ns (flat pat_prop_parts xs) →
      trees (map (pat_prop_of fg.place cg.place kg.place (tree_at ms)) (xs ++ x ∷ []))
      ≡ trees_append (trees (map (pat_prop_of fg.place cg.place kg.place (tree_at ns)) xs))
      (cons (pat_prop_of fg.place cg.place kg.place (tree_at ms) x) nil)
  pat-props-more xs x g a =
      let same = pat-prop-same fg.place cg.place kg.place in
      list-more pat_prop_parts (pat_prop_of fg.place cg.place kg.place) same xs x g a

  -- ---- parameters

  pub params-later : {ns ms : Nodes F C K fg cg kg} {k : ℕ} (xs : List (Param PatId)) →
      Grows ns ms → Apart k ns (flat param_parts xs) →
      trees (map (param_tree (λ p. tree_at ms p.0)) xs) ≡ trees (map (param_tree (λ p. tree_at ns p.0)) xs)
  params-later xs g a = list-later param_parts (λ at. param_tree (λ p. at p.0)) param-same xs g a

  pub params-more : {ns ms : Nodes F C K fg cg kg} {k : ℕ} (xs : List (Param PatId)) (x : Param PatId) →
      Grows ns ms → Apart k ns (flat param_parts xs) →
      trees (map (param_tree (λ p. tree_at ms p.0)) (xs ++ x ∷ []))
      ≡ trees_append (trees (map (param_tree (λ p. tree_at ns p.0)) xs)) (cons (param_tree (λ p. tree_at ms p.0) x) nil)
  params-more xs x g a = list-more param_parts (λ at. param_tree (λ p. at p.0)) param-same xs x g a

  -- ---- an array pattern

  pub array-apart : {ns : Nodes F C K fg cg kg} {k : ℕ} (elems : Vec (Option PatId) Global)
      (all : Vec (Option PatElem) Global) → all.items ≡ map pat_elem elems.items → Apart k ns (pat_elem_parts elems) →
      Apart k ns (held_elem_parts all)
  array-apart {ns} {k} elems all e a =
      subst (λ v. Apart k ns v) (sym (ap (flat (if_some pat_elem_part)) e ∙ elems-parts elems.items)) a

  pub array-made : {ns ms : Nodes F C K fg cg kg} {i : ℕ} (s : Span) (elems : Vec (Option PatId) Global)
      (all : Vec (Option PatElem) Global) → all.items ≡ map pat_elem elems.items → Apart 0 ns (pat_elem_parts elems) →
      Added ns ms i (n.PatArray s all) → (k : ℕ) → Apart k ns (pat_elem_parts elems) →
      Made k ms (record { at = i; view = pat }) (node array s (pat_elem_trees (tree_at ns) elems))
  array-made {ns} s elems all e a d k b =
      let m = list-made-as pat (n.PatArray s all) refl (array-apart elems all e a) d k (array-apart elems all e b) in
      let same = ap (map (or_hole (pat_elem_of (tree_at ns)))) e ∙ elems-trees (tree_at ns) elems.items in
      record { from = m.from; stands = m.stands ∙ ap (λ v. node array s (trees v)) same }

  -- ---- an expression as a pattern, which is where the expression does

  pub pat-expr-leads : {ns : Nodes F C K fg cg kg} {i : ℕ} {x : Node F C K} (e : ExprId) →
      x ≡ n.PatExpr e → Stood ns i x → i < count ns → Leads ns i (expr_part e)
  pat-expr-leads e h t lt = leads 0 (expr_part e) [] (stood-parts (stood-is (n.PatExpr e) h t) lt) lt

  pub pat-expr-span : {ns : Nodes F C K fg cg kg} {i : ℕ} {x : Node F C K} (e : ExprId) →
      x ≡ n.PatExpr e → Stood ns i x → i < count ns → span_of (tree_at ns e.0) ≡ span_of (tree_at ns i)
  pat-expr-span e h t lt =
      sym (ap (λ v. span_of v.tree) (stood-is (n.PatExpr e) h t).stands
      ∙ ap (λ v. span_of v.tree) (pat-expr-leads e h t lt).same)
