-- The trees of nodes have the parts that their kinds ask, as far as refinement looks at them.
use Rattle.std.proofs.Common.{◌≡◌, ℕ, suc, zero, ◌<◌, true, false, List, [], ◌∷◌, ◌++◌, map, inl, Option, Some, None, refl, sym, subst, ◌∙◌, arith}
use Rattle.swc_context.specs.declared.span.Span.{Span}
use Rattle.swc_ast.specs.Parts.{or_hole, item_tree, item_of}
use Rattle.swc_ast.specs.Tree.{hole, item, spread, array_with, object_with, assign, shorthand, key_value, cover, binding_prop, rest, default, Tree, node, Trees, nil, cons, no_span, trees}
use Rattle.swc_ast.specs.{Trees.is_ident, declared.expr.ExprOrSpread.ExprOrSpread, declared.spanned.Spanned.Ghosts}
use Rattle.swc_grammar.specs.Cover.{is_pattern}
use Rattle.swc_cover.specs.Moving.{In}
use Rattle.swc_cover.proofs.Dressed.{Shaped, simple-expr, pattern-pat}
use Rattle.swc_cover.proofs.Fitting.{chain-in, stood-tree, stood-at, form-at, shaped-at}
use Rattle.swc_cover.proofs.Among.{in-left, in-right}
use Rattle.swc_nodes.proofs.Held.{stood-parts}
use Rattle.swc_nodes.specs.NodeTree.{marked_tree, prop_of, part_tree, pat_prop_of}
use Rattle.swc_nodes.specs.NodeParts.{Part, View, expr, pat, simple, pattern, view_ok, form, expr_part, pat_part, target_part, flat, if_some, one_expr, item_parts, key_parts, prop_parts, part_parts, pat_elem_part, pat_prop_parts, slots}
use Rattle.swc_nodes.specs.GrowingNodes.{count, seat_at, tree_at, From}
use Rattle.swc_nodes.specs.{Lists.held_elem_tree, Turning.node_at, declared.node.ExprId.ExprId, declared.node.PatElem.PatElem, declared.node.PatElem.PatElem as elem, declared.node.PatPart.PatPart, declared.node.PatPart.PatPart as of_pat, declared.node.Node.Node, declared.node.Node.Node as n, declared.node.PatPropNode.PatPropNode, declared.node.PatPropNode.PatPropNode as pat_prop, declared.node.PropNode.PropNode, declared.node.PropNode.PropNode as prop, declared.node.TargetNode.TargetNode as target, declared.nodes.Nodes.Nodes}

module _ {F C K : Type 0} where
  -- of patterns
  abbrev mutual
    pub PatFormed : Tree F C K → Type 0
    PatFormed (node (array_with c) s ts) = (c ≡ None) × AllPats ts
    PatFormed (node (object_with c) s ts) = (c ≡ None) × AllPats ts
    PatFormed (node default s (cons l (cons r nil))) = PatFormed l
    PatFormed (node default s ts) = ⊥
    PatFormed (node rest s (cons d (cons p nil))) = PatFormed p
    PatFormed (node rest s ts) = ⊥
    PatFormed (node key_value s (cons k (cons v nil))) = PatFormed v
    PatFormed (node key_value s ts) = ⊥
    PatFormed (node binding_prop s (cons i (cons e nil))) = is_ident i ≡ true
    PatFormed (node binding_prop s ts) = ⊥
    PatFormed t = Unit {0}

    pub AllPats : Trees F C K → Type 0
    AllPats nil = Unit {0}
    AllPats (cons t ts) = PatFormed t × AllPats ts

  -- of expressions
  abbrev mutual
    pub Formed : Tree F C K → Type 0
    Formed (node hole s ts) = (s ≡ no_span) × (ts ≡ nil)
    Formed (node item s (cons e nil)) = Formed e
    Formed (node item s ts) = ⊥
    Formed (node spread s (cons d (cons e nil))) = Formed e
    Formed (node spread s ts) = ⊥
    Formed (node shorthand s (cons i nil)) = is_ident i ≡ true
    Formed (node shorthand s ts) = ⊥
    Formed (node cover s (cons i (cons e nil))) = is_ident i ≡ true
    Formed (node cover s ts) = ⊥
    Formed (node key_value s (cons k (cons v nil))) = Formed v
    Formed (node key_value s ts) = ⊥
    Formed (node (array_with c) s ts) = AllFormed ts
    Formed (node (object_with c) s ts) = AllFormed ts
    Formed (node (assign o) s (cons l (cons r nil))) = (is_pattern l ≡ true → PatFormed l) ×
        (is_pattern l ≡ false → Formed l)
    Formed (node (assign o) s ts) = ⊥
    Formed t = Unit {0}

    pub AllFormed : Trees F C K → Type 0
    AllFormed nil = Unit {0}
    AllFormed (cons t ts) = Formed t × AllFormed ts

  -- of a part, as its node has it
  abbrev pub PartFormed : View → Tree F C K → Type 0
  PartFormed expr t = Formed t
  PartFormed simple t = Formed t
  PartFormed pat t = PatFormed t
  PartFormed pattern t = PatFormed t

module _ {F C K : Type 0} (at : ℕ → Tree F C K) where
  abbrev Parts : List Part → Type 0
  Parts ps = (p : Part) → In p ps → PartFormed p.view (at p.at)

  parts-left : (ps qs : List Part) → Parts (ps ++ qs) → Parts ps
  parts-left ps qs h p i = h p (in-left p ps qs i)

  parts-right : (ps qs : List Part) → Parts (ps ++ qs) → Parts qs
  parts-right ps qs h p i = h p (in-right p ps qs i)

  -- ---- literals

  item-formed : (s : Option Span) (t : Tree F C K) → Formed t → Formed (item_of s t)
  item-formed None t f = f
  item-formed (Some d) t f = f

  elem-formed : (o : Option (ExprOrSpread ExprId)) → Parts (if_some item_parts o) →
      Formed (or_hole (item_tree (λ (e : ExprId). at e.0)) o)
  elem-formed None h = (refl, refl)
  elem-formed (Some x) h = item-formed x.spread (at x.expr.0) (h (expr_part x.expr) (inl refl))

  elems-formed : (xs : List (Option (ExprOrSpread ExprId))) → Parts (flat (if_some item_parts) xs) →
      AllFormed (trees (map (or_hole (item_tree (λ (e : ExprId). at e.0))) xs))
  elems-formed [] h = tt
  elems-formed (x ∷ xs) h = (
    elem-formed x (parts-left (if_some item_parts x) (flat (if_some item_parts) xs) h),
    elems-formed xs (parts-right (if_some item_parts x) (flat (if_some item_parts) xs) h),
  )

  pub items-formed : (xs : List (ExprOrSpread ExprId)) → Parts (flat item_parts xs) →
      AllFormed (trees (map (item_tree (λ (e : ExprId). at e.0)) xs))
  items-formed [] h = tt
  items-formed (x ∷ xs) h = (
    item-formed x.spread (at x.expr.0) (h (expr_part x.expr) (inl refl)),
    items-formed xs (parts-right (item_parts x) (flat item_parts xs) h),
  )

module _ {F C K : Type 0} (fun_at : F → Span) (class_at : C → Span) (block_at : K → Span) (at : ℕ → Tree F C K) where
  prop-formed : (y : PropNode K) → Parts at (prop_parts y) → Formed (prop_of fun_at class_at block_at at y)
  prop-formed (prop.Shorthand i) h = refl
  prop-formed (prop.Assign p) h = refl
  prop-formed (prop.KeyValue s k v) h = h (expr_part v) (in-right (expr_part v) (key_parts k) (expr_part v ∷ [])
      (inl refl))
  prop-formed (prop.Spread s) h = h (expr_part s.expr) (inl refl)
  prop-formed y h = tt

  props-formed : (ys : List (PropNode K)) → Parts at (flat prop_parts ys) →
      AllFormed (trees (map (prop_of fun_at class_at block_at at) ys))
  props-formed [] h = tt
  props-formed (y ∷ ys) h = (
    prop-formed y (parts-left at (prop_parts y) (flat prop_parts ys) h),
    props-formed ys (parts-right at (prop_parts y) (flat prop_parts ys) h),
  )

  -- ---- patterns

  pat-part-formed : (p : PatPart) → Parts at (part_parts p) → PatFormed (part_tree at p)
  pat-part-formed (of_pat.Pat p) h = h (pat_part p) (inl refl)
  pat-part-formed (of_pat.Expr e) h = tt

  pat-elem-formed : (o : Option PatElem) → Parts at (if_some pat_elem_part o) → PatFormed (held_elem_tree at o)
  pat-elem-formed None h = tt
  pat-elem-formed (Some (elem.Item p)) h = pat-part-formed p h
  pat-elem-formed (Some (elem.Rest s d p)) h = pat-part-formed p h

  pats-formed : (xs : List (Option PatElem)) → Parts at (flat (if_some pat_elem_part) xs) →
      AllPats (trees (map (held_elem_tree at) xs))
  pats-formed [] h = tt
  pats-formed (x ∷ xs) h = (
    pat-elem-formed x (parts-left at (if_some pat_elem_part x) (flat (if_some pat_elem_part) xs) h),
    pats-formed xs (parts-right at (if_some pat_elem_part x) (flat (if_some pat_elem_part) xs) h),
  )

  pat-prop-formed : (y : PatPropNode) → Parts at (pat_prop_parts y) →
      PatFormed (pat_prop_of fun_at class_at block_at at y)
  pat-prop-formed (pat_prop.KeyValue s k v) h = pat-part-formed v (parts-right at (key_parts k) (part_parts v) h)
  pat-prop-formed (pat_prop.Assign s k v) h = refl
  pat-prop-formed (pat_prop.Rest s d p) h = pat-part-formed p h

  pat-props-formed : (ys : List PatPropNode) → Parts at (flat pat_prop_parts ys) →
      AllPats (trees (map (pat_prop_of fun_at class_at block_at at) ys))
  pat-props-formed [] h = tt
  pat-props-formed (y ∷ ys) h = (
    pat-prop-formed y (parts-left at (pat_prop_parts y) (flat pat_prop_parts ys) h),
    pat-props-formed ys (parts-right at (pat_prop_parts y) (flat pat_prop_parts ys) h),
  )

  -- ---- nodes

  node-formed : (x : Node F C K) → view_ok expr (form x) ≡ true → Parts at (slots x) →
      ((p : Part) → In p (slots x) → Shaped p.view (at p.at)) → Formed (marked_tree fun_at class_at block_at at x)
  node-formed (n.Array s es c) v h q = elems-formed at es.items h
  node-formed (n.Object s ps c) v h q = props-formed ps.items h
  node-formed (n.Assign s o (target.Simple u) r) v h q = (
    λ e. let z : true ≡ false = sym e ∙ q (target_part (target.Simple u)) (inl refl) in
        cc,
    λ e. h (target_part (target.Simple u)) (inl refl),
  )
  node-formed (n.Assign s o (target.Pat u) r) v h q = (
    λ e. h (target_part (target.Pat u)) (inl refl),
    λ e. let z : true ≡ false = sym (q (target_part (target.Pat u)) (inl refl)) ∙ e in cc,
  )
  node-formed (n.PatArray s es) v h q = cc
  node-formed (n.PatObject s ps) v h q = cc
  node-formed (n.PatRest s d p) v h q = cc
  node-formed (n.PatAssign s l r) v h q = cc
  node-formed x v h q = tt

  pat-node-formed : (x : Node F C K) → view_ok pat (form x) ≡ true → Parts at (slots x) →
      PatFormed (marked_tree fun_at class_at block_at at x)
  pat-node-formed (n.PatArray s es) v h = (refl, pats-formed es.items h)
  pat-node-formed (n.PatObject s ps) v h = (refl, pat-props-formed ps.items h)
  pat-node-formed (n.PatRest s d p) v h = h (pat_part p) (inl refl)
  pat-node-formed (n.PatAssign s l r) v h = pat-part-formed l (parts-left at (part_parts l) (one_expr r) h)
  pat-node-formed (n.Array s es c) v h = cc
  pat-node-formed (n.Object s ps c) v h = cc
  pat-node-formed x v h = tt

  view-formed : (w : View) (x : Node F C K) → view_ok w (form x) ≡ true → Parts at (slots x) →
      ((p : Part) → In p (slots x) → Shaped p.view (at p.at)) → PartFormed w (marked_tree fun_at class_at block_at at x)
  view-formed expr x v h q = node-formed x v h q
  view-formed pat x v h q = pat-node-formed x v h
  view-formed simple x v h q = node-formed x (simple-expr (form x) v) h q
  view-formed pattern x v h q = pat-node-formed x (pattern-pat (form x) v) h

module _ {F C K : Type 0} {fg : Ghosts F} {cg : Ghosts C} {kg : Ghosts K} where
  formed-below : (ns : Nodes F C K fg cg kg) (k i : ℕ) (w : View) → i < k → i < count ns →
      view_ok w (seat_at ns i).form ≡ true → PartFormed w (tree_at ns i)
  formed-below ns zero i w lt h v = absurd (omega arith)
  formed-below ns (suc k) i w lt h v =
      let t = stood-at ns i h in
      let x = node_at ns.nodes.items i in
      subst (PartFormed w) (sym (stood-tree t h))
      (view-formed fg.place cg.place kg.place (tree_at ns) w x (form-at ns i w h v)
      (λ p j. let c = chain-in (seat_at ns) 0 i (slots x) p j (stood-parts t h) in let a = c.0 in
      formed-below ns k p.at p.view (omega arith) (omega arith) c.1.view)
      (λ p j. let c = chain-in (seat_at ns) 0 i (slots x) p j (stood-parts t h) in let a = c.0 in
      shaped-at ns p.at p.view (omega arith) c.1.view))

  -- each part that is among nodes
  pub part-formed : (ns : Nodes F C K fg cg kg) (p : Part) → From 0 ns p → PartFormed p.view (tree_at ns p.at)
  part-formed ns p f = formed-below ns (suc p.at) p.at p.view (omega arith) f.within f.view
