-- The parts of nodes that become patterns, and the trees of these.
use Rattle.std.proofs.Common.{◌≡◌, ℕ, suc, ◌+◌, ◌*◌, ◌<◌, ◌≤◌, ◌≢◌, inl, inr, Bool, true, false, List, [], ◌∷◌, ◌++◌, map, drop, take, get_or, length, Option, Some, refl, sym, ap, subst, ◌∙◌, arith, append_assoc, length-drop}
use Rattle.std.proofs.{lemmas.Bool.eqb-true, lemmas.Bool.eqb-false, lemmas.List.drop_all, lemmas.List.drop_more, lemmas.List.get_or_default, lemmas.List.take-append-drop}
use Rattle.std.specs.{Prelude.eqb, declared.alloc.Global.Global, declared.vec.Vec.Vec}
use Rattle.swc_context.specs.{declared.operator.AssignOp.AssignOp, declared.span.Span.Span}
use Rattle.swc_ast.specs.Tree.{Tree, Trees, trees}
use Rattle.swc_ast.specs.{Parts.or_hole, Parts.item_tree, declared.expr.ExprOrSpread.ExprOrSpread, declared.spanned.Spanned.Ghosts}
use Rattle.swc_cover.specs.{Below.PatPartFrom, Below.part_size, Fits.is_nil, Moving.In}
use Rattle.swc_cover.proofs.{Among.in-left, Among.in-right, Dressed.Shaped, Dressed.shaped, Dressed.simple-expr, Dressed.pattern-pat}
use Rattle.swc_nodes.proofs.Chains.{both_true, Fitting, fitting, chain-bound}
use Rattle.swc_nodes.proofs.{Held.stood-parts, Standing.before-same, Standing.get_stood, Along.Same, Along.node-along}
use Rattle.swc_nodes.specs.NodeTree.{marked_tree, prop_of, pat_prop_of}
use Rattle.swc_nodes.specs.Turning.{no_node, node_at}
use Rattle.swc_nodes.specs.NodeParts.{Part, View, view_ok, form, target_part, expr_part, pat_part, flat, if_some, one_expr, item_parts, prop_parts, part_parts, pat_elem_part, pat_prop_parts, slots}
use Rattle.swc_nodes.specs.GrowingNodes.{count, seat_at, seat_before, tree_at, From, Stood}
use Rattle.swc_nodes.specs.{Lists.held_elem_tree, NumberedTrees.Seat, NumberedTrees.chain, declared.node.Node.Node, declared.node.Node.Node as n, declared.node.ExprId.ExprId, declared.node.PatElem.PatElem, declared.node.PatId.PatId, declared.node.PatPart.PatPart, declared.node.PatPart.PatPart as of_pat, declared.node.PatPropNode.PatPropNode, declared.node.PropNode.PropNode, declared.nodes.Nodes.Nodes, declared.node.TargetNode.TargetNode, declared.node.TargetNode.TargetNode as target}

pub flat-both : {X Y : Type 0} (f : X → List Y) (xs ys : List X) → flat f (xs ++ ys) ≡ flat f xs ++ flat f ys
flat-both f [] ys = refl
flat-both f (x ∷ xs) ys = ap (λ v. f x ++ v) (flat-both f xs ys) ∙ sym (append_assoc (f x) (flat f xs) (flat f ys))

front-and : {A : Type 0} (xs : List A) (j : ℕ) (x : A) → j < length xs → x ≡ get_or xs j x →
    xs ≡ take j xs ++ x ∷ drop (j + 1) xs
front-and xs j x lt e =
    sym (take-append-drop j xs) ∙ ap (λ v. take j xs ++ v) (drop_more xs j x lt)
    ∙ ap (λ v. take j xs ++ v ∷ drop (j + 1) xs) (sym e)

module _ {F C K : Type 0} where
  -- ---- a part of a node
  pub chain-in : (at : ℕ → Seat F C K) (lo hi : ℕ) (ps : List Part) (p : Part) → In p ps → chain at lo ps hi ≡ true →
      (p.at < hi) × Fitting at 0 p
  chain-in at lo hi [] p i h = absurd i
  chain-in at lo hi (q ∷ ps) p (inl e) h =
      let b = both_true h in
      let f = fitting at lo q b.0 in
      let w = chain-bound at (suc q.at) ps hi b.1 in
      let here : q.at < hi = omega arith in
      let fit : Fitting at 0 q = record { above = omega arith; first = f.first; view = f.view } in
      subst (λ v. (v.at < hi) × Fitting at 0 v) (sym e) (here, fit)
  chain-in at lo hi (q ∷ ps) p (inr i) h = chain-in at (suc q.at) hi ps p i (both_true h).1

  trees-same : (at by : ℕ → Seat F C K) (lo : ℕ) (ps : List Part) (hi : ℕ) → ((i : ℕ) → i < hi → at i ≡ by i) →
      chain at lo ps hi ≡ true → Same (λ i. (at i).tree) (λ i. (by i).tree) ps
  trees-same at by lo [] hi same h = tt
  trees-same at by lo (p ∷ ps) hi same h =
      let b = both_true h in let w = chain-bound at (suc p.at) ps hi b.1 in
      (ap (λ s. s.tree) (same p.at (omega arith)), trees-same at by (suc p.at) ps hi same b.1)

module _ {F C K : Type 0} where
  some-left : {X : Type 0} (f : X → Tree F C K) (ys : List X) → 1 ≤ length ys → false ≡ is_nil (trees (map f ys))
  some-left f [] h = absurd (omega arith)
  some-left f (y ∷ ys) h = refl

  pub nil-by : {X : Type 0} (f : X → Tree F C K) (xs : List X) (i len : ℕ) (b : Bool) → i < length xs →
      len ≡ length xs → eqb (i + 1) len ≡ b → b ≡ is_nil (trees (map f (drop (i + 1) xs)))
  nil-by f xs i len true h l e =
      let w : i + 1 ≡ len = eqb-true (i + 1) len e in sym (ap (λ v. is_nil (trees (map f v)))
      (drop_all (i + 1) xs (omega arith)))
  nil-by f xs i len false h l e =
      let w : i + 1 ≢ len = eqb-false (i + 1) len e in
      let z = length-drop (i + 1) xs in
      some-left f (drop (i + 1) xs) (omega arith)

pub in-flat : {X : Type 0} (f : X → List Part) (xs : List X) (j : ℕ) (x : X) (p : Part) → j < length xs →
    x ≡ get_or xs j x → In p (f x) → In p (flat f xs)
in-flat f xs j x p h e i =
    let whole : flat f xs ≡ flat f (take j xs) ++ (f x ++ flat f (drop (j + 1) xs)) = ap (flat f)
    (front-and xs j x h e) ∙ flat-both f (take j xs) (x ∷ drop (j + 1) xs) in
    subst (λ v. In p v) (sym whole) (in-right p (flat f (take j xs)) (f x ++ flat f (drop (j + 1) xs))
    (in-left p (f x) (flat f (drop (j + 1) xs)) i))

module _ {F C K : Type 0} {fg : Ghosts F} {cg : Ghosts C} {kg : Ghosts K} where
  -- a part is before its node
  pub record Below (ns : Nodes F C K fg cg kg) (i : ℕ) (p : Part) : Type 0 where
    pub less : p.at < i
    pub from : From 0 ns p

  pub part-below : {ns : Nodes F C K fg cg kg} {i : ℕ} {x : Node F C K} (p : Part) → Stood ns i x → i < count ns →
      In p (slots x) → Below ns i p
  part-below {ns} {i} {x} p s lt j =
      let c = chain-in (seat_at ns) 0 i (slots x) p j (stood-parts s lt) in
      let w = c.0 in
      let f = c.1 in
      record { less = w; from = record { within = omega arith; above = f.above; first = f.first; view = f.view } }

  pub stood-tree : {ns : Nodes F C K fg cg kg} {i : ℕ} {x : Node F C K} → Stood ns i x → i < count ns →
      tree_at ns i ≡ marked_tree fg.place cg.place kg.place (tree_at ns) x
  stood-tree {ns} {i} {x} t lt =
      ap (λ v. v.tree) t.stands
      ∙ node-along (λ j. (seat_before i ns j).tree) (tree_at ns) fg.place cg.place kg.place x
      (trees-same (seat_before i ns) (seat_at ns) 0 (slots x) i (λ j h. before-same i ns j h (omega arith)) t.chained)

  pub tree-is : {ns : Nodes F C K fg cg kg} {i : ℕ} {x : Node F C K} (y : Node F C K) → Stood ns i x → i < count ns →
      x ≡ y → tree_at ns i ≡ marked_tree fg.place cg.place kg.place (tree_at ns) y
  tree-is {ns} y t lt e = stood-tree t lt ∙ ap (marked_tree fg.place cg.place kg.place (tree_at ns)) e

  -- ---- the node of a number
  pub stood-at : (ns : Nodes F C K fg cg kg) (i : ℕ) → i < count ns → Stood ns i (node_at ns.nodes.items i)
  stood-at ns i lt =
      get_stood ns i (node_at ns.nodes.items i) lt
      (get_or_default ns.nodes.items i no_node (node_at ns.nodes.items i) lt)

  pub form-at : (ns : Nodes F C K fg cg kg) (i : ℕ) (v : View) → i < count ns → view_ok v (seat_at ns i).form ≡ true →
      view_ok v (form (node_at ns.nodes.items i)) ≡ true
  form-at ns i v lt h = ap (λ s. view_ok v s.form) (sym (stood-at ns i lt).stands) ∙ h

  pub shaped-at : (ns : Nodes F C K fg cg kg) (i : ℕ) (v : View) → i < count ns →
      view_ok v (seat_at ns i).form ≡ true → Shaped v (tree_at ns i)
  shaped-at ns i v lt h =
      subst (Shaped v) (sym (stood-tree (stood-at ns i lt) lt))
      (shaped fg.place cg.place kg.place (tree_at ns) v (node_at ns.nodes.items i) (form-at ns i v lt h))

  -- ---- the elements of an array
  abbrev pub elems_of : Nodes F C K fg cg kg → List (Option (ExprOrSpread ExprId)) → Trees F C K
  elems_of ns xs = trees (map (or_hole (item_tree (λ (e : ExprId). tree_at ns e.0))) xs)

  pub elem-below : {ns : Nodes F C K fg cg kg} {i j : ℕ} {x : Node F C K} (s : Span)
      (elems : Vec (Option (ExprOrSpread ExprId)) Global) (comma : Option Span) (o : Option (ExprOrSpread ExprId))
      (item : ExprOrSpread ExprId) → Stood ns i x → i < count ns → x ≡ n.Array s elems comma →
      j < length elems.items → o ≡ get_or elems.items j o → o ≡ Some item → Below ns i (expr_part item.expr)
  elem-below {ns} {i} {j} {x} s elems comma o item t lt e h g q =
      let own : In (expr_part item.expr) (if_some item_parts o) = subst
      (λ v. In (expr_part item.expr) (if_some item_parts v)) (sym q) (inl refl) in
      part-below (expr_part item.expr) t lt (subst (λ v. In (expr_part item.expr) (slots v)) (sym e)
      (in-flat (if_some item_parts) elems.items j o (expr_part item.expr) h g own))

  -- ---- the properties of an object
  abbrev pub props_of : Nodes F C K fg cg kg → List (PropNode K) → Trees F C K
  props_of ns xs = trees (map (prop_of fg.place cg.place kg.place (tree_at ns)) xs)

  pub prop-in : {ns : Nodes F C K fg cg kg} {i j : ℕ} {x : Node F C K} (s : Span) (props : Vec (PropNode K) Global)
      (comma : Option Span) (y z : PropNode K) (p : Part) → Stood ns i x → i < count ns → x ≡ n.Object s props comma →
      j < length props.items → y ≡ get_or props.items j y → y ≡ z → In p (prop_parts z) → Below ns i p
  prop-in {ns} {i} {j} {x} s props comma y z p t lt e h g q own =
      part-below p t lt (subst (λ v. In p (slots v)) (sym e) (in-flat prop_parts props.items j y p h g
      (subst (λ v. In p (prop_parts v)) (sym q) own)))

  -- ---- what is left of an assignment
  pub left-shape : {ns : Nodes F C K fg cg kg} (l : TargetNode) → From 0 ns (target_part l) →
      Shaped (target_part l).view (tree_at ns (target_part l).at)
  left-shape {ns} l f = shaped-at ns (target_part l).at (target_part l).view f.within f.view

  pub left-below : {ns : Nodes F C K fg cg kg} {i : ℕ} {x : Node F C K} (s : Span) (o : AssignOp) (l : TargetNode)
      (r : ExprId) → Stood ns i x → i < count ns → x ≡ n.Assign s o l r → Below ns i (target_part l)
  left-below s o l r t lt e = part-below (target_part l) t lt
      (subst (λ v. In (target_part l) (slots v)) (sym e) (inl refl))

  pub simple-below : {ns : Nodes F C K fg cg kg} {i : ℕ} {x : Node F C K} (s : Span) (o : AssignOp) (l : TargetNode)
      (r u : ExprId) → Stood ns i x → i < count ns → x ≡ n.Assign s o l r → l ≡ target.Simple u →
      Below ns i (expr_part u)
  simple-below {ns} {i} s o l r u t lt e q =
      let b = subst (λ v. Below ns i (target_part v)) q (left-below s o l r t lt e) in
      let a = b.less in let f = b.from in
      record {
        less = omega arith;
        from = record {
          within = f.within;
          above = f.above;
          first = f.first;
          view = simple-expr (seat_at ns u.0).form f.view;
        };
      }

  pub pattern-below : {ns : Nodes F C K fg cg kg} {i : ℕ} {x : Node F C K} (s : Span) (o : AssignOp) (l : TargetNode)
      (r : ExprId) (u : PatId) → Stood ns i x → i < count ns → x ≡ n.Assign s o l r → l ≡ target.Pat u →
      Below ns i (pat_part u)
  pattern-below {ns} {i} s o l r u t lt e q =
      let b = subst (λ v. Below ns i (target_part v)) q (left-below s o l r t lt e) in
      let a = b.less in let f = b.from in
      record {
        less = omega arith;
        from = record {
          within = f.within;
          above = f.above;
          first = f.first;
          view = pattern-pat (seat_at ns u.0).form f.view;
        };
      }

  -- ---- patterns that bind
  abbrev pub pats_of : Nodes F C K fg cg kg → List (Option PatElem) → Trees F C K
  pats_of ns xs = trees (map (held_elem_tree (tree_at ns)) xs)

  abbrev pub pat_props_of : Nodes F C K fg cg kg → List PatPropNode → Trees F C K
  pat_props_of ns xs = trees (map (pat_prop_of fg.place cg.place kg.place (tree_at ns)) xs)

  -- a part of a pattern is before its node
  pub record PartBelow (ns : Nodes F C K fg cg kg) (i : ℕ) (p : PatPart) : Type 0 where
    pub less : part_size p < i * 4
    pub from : PatPartFrom ns p

  pub held-below : {ns : Nodes F C K fg cg kg} {i : ℕ} {x : Node F C K} (p : PatPart) → Stood ns i x → i < count ns →
      ((q : Part) → In q (part_parts p) → In q (slots x)) → PartBelow ns i p
  held-below (of_pat.Pat p) t lt own =
      let b = part-below (pat_part p) t lt (own (pat_part p) (inl refl)) in
      let a = b.less in
      record { less = omega arith; from = b.from }
  held-below (of_pat.Expr e) t lt own =
      let b = part-below (expr_part e) t lt (own (expr_part e) (inl refl)) in
      let a = b.less in
      record { less = omega arith; from = b.from }

  pub pat-elem-below : {ns : Nodes F C K fg cg kg} {i j : ℕ} {x : Node F C K} (s : Span)
      (elems : Vec (Option PatElem) Global) (o : Option PatElem) (e : PatElem) (p : PatPart) → Stood ns i x →
      i < count ns → x ≡ n.PatArray s elems → j < length elems.items → o ≡ get_or elems.items j o → o ≡ Some e →
      pat_elem_part e ≡ part_parts p → PartBelow ns i p
  pat-elem-below {ns} {i} {j} {x} s elems o e p t lt same h g q parts =
      held-below p t lt (λ u own. subst (λ v. In u (slots v)) (sym same)
      (in-flat (if_some pat_elem_part) elems.items j o u h g
      (subst (λ v. In u (if_some pat_elem_part v)) (sym q) (subst (λ v. In u v) (sym parts) own))))

  pub pat-prop-below : {ns : Nodes F C K fg cg kg} {i j : ℕ} {x : Node F C K} (s : Span)
      (props : Vec PatPropNode Global) (y z : PatPropNode) (p : PatPart) → Stood ns i x → i < count ns →
      x ≡ n.PatObject s props → j < length props.items → y ≡ get_or props.items j y → y ≡ z →
      ((q : Part) → In q (part_parts p) → In q (pat_prop_parts z)) → PartBelow ns i p
  pat-prop-below {ns} {i} {j} {x} s props y z p t lt e h g q parts =
      held-below p t lt (λ u own. subst (λ v. In u (slots v)) (sym e)
      (in-flat pat_prop_parts props.items j y u h g (subst (λ v. In u (pat_prop_parts v)) (sym q) (parts u own))))

  pub assign-left-below : {ns : Nodes F C K fg cg kg} {i : ℕ} {x : Node F C K} (s : Span) (l : PatPart) (r : ExprId) →
      Stood ns i x → i < count ns → x ≡ n.PatAssign s l r → PartBelow ns i l
  assign-left-below s l r t lt e =
      held-below l t lt (λ u own. subst (λ v. In u (slots v)) (sym e) (in-left u (part_parts l) (one_expr r) own))

  pub rest-held-below : {ns : Nodes F C K fg cg kg} {i : ℕ} {x : Node F C K} (s d : Span) (p : PatId) → Stood ns i x →
      i < count ns → x ≡ n.PatRest s d p → Below ns i (pat_part p)
  rest-held-below s d p t lt e = part-below (pat_part p) t lt
      (subst (λ v. In (pat_part p) (slots v)) (sym e) (inl refl))
