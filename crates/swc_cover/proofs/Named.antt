-- Where names are that may not be bound in strict code, one after another.
use Rattle.std.proofs.Common.{◌≡◌, ℕ, ◌+◌, ◌<◌, ◌≤◌, inl, List, ◌∷◌, ◌++◌, map, drop, get_or, length, Option, refl, sym, ap, ◌∙◌, append_assoc}
use Rattle.std.proofs.lemmas.List.{append-nil, drop_more, drop_all}
use Rattle.swc_context.specs.declared.span.Span.{Span}
use Rattle.swc_ast.specs.{Tree.Trees, Tree.trees, declared.spanned.Spanned.Ghosts}
use Rattle.swc_cover.proofs.Fitting.{chain-in, in-flat, pats_of, pat_props_of, tree-is}
use Rattle.swc_cover.specs.ReservedNames.{reserved_spans, all_reserved, props_reserved}
use Rattle.swc_nodes.specs.NodeParts.{pat_part, flat, one_pat}
use Rattle.swc_nodes.specs.GrowingNodes.{count, seat_at, tree_at, Apart, From, Stood}
use Rattle.swc_nodes.specs.{NodeTree.marked_tree, declared.node.Node.Node, declared.node.PatElem.PatElem, declared.node.PatId.PatId, declared.node.PatPropNode.PatPropNode, declared.nodes.Nodes.Nodes}

module _ {F C K : Type 0} {fg : Ghosts F} {cg : Ghosts C} {kg : Ghosts K} where
  abbrev pub arrow_params_of : Nodes F C K fg cg kg → List PatId → Trees F C K
  arrow_params_of ns ps = trees (map (λ (p : PatId). tree_at ns p.0) ps)

  pub named-params-more : (ns : Nodes F C K fg cg kg) (xs : List PatId) (i : ℕ) (p : PatId) (fs gs whole : List Span) →
      i < length xs → p ≡ get_or xs i p → gs ≡ fs ++ reserved_spans (tree_at ns p.0) →
      fs ++ all_reserved (arrow_params_of ns (drop i xs)) ≡ whole
      → gs ++ all_reserved (arrow_params_of ns (drop (i + 1) xs)) ≡ whole
  named-params-more ns xs i p fs gs whole h e g w =
      let back = all_reserved (arrow_params_of ns (drop (i + 1) xs)) in
      ap (λ v. v ++ back) g ∙ append_assoc fs (reserved_spans (tree_at ns p.0)) back
      ∙ ap (λ v. fs ++ all_reserved (arrow_params_of ns v))
      (sym (drop_more xs i p h ∙ ap (λ v. v ∷ drop (i + 1) xs) (sym e)))
      ∙ w

  pub named-pats-ended : (ns : Nodes F C K fg cg kg) (xs : List (Option PatElem)) (i : ℕ) (fs whole : List Span) →
      length xs ≤ i → fs ++ all_reserved (pats_of ns (drop i xs)) ≡ whole → fs ≡ whole
  named-pats-ended ns xs i fs whole h w = sym (ap (λ v. fs ++ all_reserved (pats_of ns v)) (drop_all i xs h) ∙
      append-nil fs) ∙ w

  pub named-props-ended : (ns : Nodes F C K fg cg kg) (xs : List PatPropNode) (i : ℕ) (fs whole : List Span) →
      length xs ≤ i → fs ++ props_reserved (pat_props_of ns (drop i xs)) ≡ whole → fs ≡ whole
  named-props-ended ns xs i fs whole h w = sym (ap (λ v. fs ++ props_reserved (pat_props_of ns v)) (drop_all i xs h) ∙
      append-nil fs) ∙ w

  pub named-params-ended : (ns : Nodes F C K fg cg kg) (xs : List PatId) (i : ℕ) (fs whole : List Span) →
      length xs ≤ i → fs ++ all_reserved (arrow_params_of ns (drop i xs)) ≡ whole → fs ≡ whole
  named-params-ended ns xs i fs whole h w = sym (ap (λ v. fs ++ all_reserved (arrow_params_of ns v)) (drop_all i xs h) ∙
      append-nil fs) ∙ w

  pub named-is : {ns : Nodes F C K fg cg kg} {i : ℕ} {x : Node F C K} (y : Node F C K) → Stood ns i x → i < count ns →
      x ≡ y → reserved_spans (tree_at ns i) ≡ reserved_spans (marked_tree fg.place cg.place kg.place (tree_at ns) y)
  named-is y t lt e = ap reserved_spans (tree-is y t lt e)

  -- one of the parameters is among the nodes
  pub head-from : {ns : Nodes F C K fg cg kg} (xs : List PatId) (i : ℕ) (p : PatId) → Apart 0 ns (flat one_pat xs) →
      i < length xs → p ≡ get_or xs i p → From 0 ns (pat_part p)
  head-from {ns} xs i p a h e =
      let c = chain-in (seat_at ns) 0 (count ns) (flat one_pat xs) (pat_part p)
      (in-flat one_pat xs i p (pat_part p) h e (inl refl)) a.chained in
      let w = c.0 in
      let f = c.1 in
      record { within = w; above = f.above; first = f.first; view = f.view }
