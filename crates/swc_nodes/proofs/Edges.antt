-- Where nodes begin and end: where their operands do, and where a tree says it.
use Rattle.std.proofs.Common.{◌≡◌, ℕ, zero, suc, ◌<◌, true, false, [], ◌∷◌, Some, None, refl, sym, ap, subst, ◌∙◌, arith}
use Rattle.swc_context.specs.declared.span.Span.{Span}
use Rattle.swc_ast.specs.{Tree.Tree, Tree.span_of, Trees.ends_in_invalid, Trees.begins_in_invalid, declared.spanned.Spanned.Ghosts}
use Rattle.swc_nodes.specs.Operands.{left_operand, last_operand, own_start, own_end}
use Rattle.swc_nodes.specs.NumberedTrees.{Seat, start_refused, end_refused}
use Rattle.swc_nodes.specs.GrowingNodes.{count, seat_at, seat_before, tree_at, start_at, end_at, or_position, From, Grows, Stood}
use Rattle.swc_nodes.specs.{NodeTree.marked_tree, NodeParts.expr_part, declared.node.ExprId.ExprId, declared.node.Node.Node, declared.node.Node.Node as n, declared.nodes.Nodes.Nodes}
use Rattle.swc_nodes.proofs.Targets.{Leads, leads, own}
use Rattle.swc_nodes.proofs.{Chains.both_true, Held.stood-parts, Standing.get_stood, Standing.seat-later}

-- ---- of a node, by its operand or by itself

module _ {F C K : Type 0} (at : ℕ → Seat F C K) where
  start-of : (x : Node F C K) (e : ExprId) → left_operand x ≡ Some e → start_refused at x ≡ (at e.0).refused_start
  start-of (n.Bin s op l r) e h = let same : l ≡ e = cc in ap (λ v. (at v.0).refused_start) same
  start-of x e h = cc

  pub start-own : (x : Node F C K) → left_operand x ≡ None → start_refused at x ≡ own_start x
  start-own (n.Bin s op l r) h = cc
  start-own x h = refl

  end-of : (x : Node F C K) (e : ExprId) → last_operand x ≡ Some e → end_refused at x ≡ (at e.0).refused_end
  end-of (n.Unary s op a) e h = let same : a ≡ e = cc in ap (λ v. (at v.0).refused_end) same
  end-of (n.Update s op true a) e h = let same : a ≡ e = cc in ap (λ v. (at v.0).refused_end) same
  end-of (n.Bin s op l r) e h = let same : r ≡ e = cc in ap (λ v. (at v.0).refused_end) same
  end-of (n.Cond s t c a) e h = let same : a ≡ e = cc in ap (λ v. (at v.0).refused_end) same
  end-of x e h = cc

  pub end-own : (x : Node F C K) → last_operand x ≡ None → end_refused at x ≡ own_end x
  end-own (n.Unary s op a) h = cc
  end-own (n.Update s op true a) h = cc
  end-own (n.Bin s op l r) h = cc
  end-own (n.Cond s t c a) h = cc
  end-own x h = refl

module _ {F C K : Type 0} {fg : Ghosts F} {cg : Ghosts C} {kg : Ghosts K} where
  -- ---- the operand is before the node, which begins or ends where it does

  pub left-leads : {ns : Nodes F C K fg cg kg} {i : ℕ} (x : Node F C K) (e : ExprId) → left_operand x ≡ Some e →
      Stood ns i x → i < count ns → Leads ns i (expr_part e)
  left-leads {ns} {i} (n.Bin s op l r) e h t lt =
      let same : l ≡ e = cc in
      subst (λ v. Leads ns i (expr_part v)) same (leads 0 (expr_part l) (expr_part r ∷ []) (stood-parts t lt) lt)
  left-leads x e h t lt = cc

  pub last-leads : {ns : Nodes F C K fg cg kg} {i : ℕ} (x : Node F C K) (e : ExprId) → last_operand x ≡ Some e →
      Stood ns i x → i < count ns → Leads ns i (expr_part e)
  last-leads {ns} {i} (n.Unary s op a) e h t lt =
      let same : a ≡ e = cc in
      subst (λ v. Leads ns i (expr_part v)) same (leads 0 (expr_part a) [] (stood-parts t lt) lt)
  last-leads {ns} {i} (n.Update s op true a) e h t lt =
      let same : a ≡ e = cc in
      subst (λ v. Leads ns i (expr_part v)) same (leads 0 (expr_part a) [] (stood-parts t lt) lt)
  last-leads {ns} {i} (n.Bin s op l r) e h t lt =
      let same : r ≡ e = cc in
      let b = both_true (stood-parts t lt) in
      subst (λ v. Leads ns i (expr_part v)) same (leads (suc l.0) (expr_part r) [] b.1 lt)
  last-leads {ns} {i} (n.Cond s test c a) e h t lt =
      let same : a ≡ e = cc in
      let b = both_true (stood-parts t lt) in
      subst (λ v. Leads ns i (expr_part v)) same (leads (suc c.0) (expr_part a) [] (both_true b.1).1 lt)
  last-leads x e h t lt = cc

  pub left-same : {ns : Nodes F C K fg cg kg} {i : ℕ} (x : Node F C K) (e : ExprId) → left_operand x ≡ Some e →
      Stood ns i x → i < count ns → (seat_at ns e.0).refused_start ≡ (seat_at ns i).refused_start
  left-same {ns} {i} x e h t lt =
      sym (ap (λ s. s.refused_start) t.stands ∙ start-of (seat_before i ns) x e h
      ∙ ap (λ s. s.refused_start) (left-leads x e h t lt).same)

  pub last-same : {ns : Nodes F C K fg cg kg} {i : ℕ} (x : Node F C K) (e : ExprId) → last_operand x ≡ Some e →
      Stood ns i x → i < count ns → (seat_at ns e.0).refused_end ≡ (seat_at ns i).refused_end
  last-same {ns} {i} x e h t lt =
      sym (ap (λ s. s.refused_end) t.stands ∙ end-of (seat_before i ns) x e h
      ∙ ap (λ s. s.refused_end) (last-leads x e h t lt).same)

  pub left-own : {ns : Nodes F C K fg cg kg} {i : ℕ} (x : Node F C K) → left_operand x ≡ None → Stood ns i x →
      own_start x ≡ (seat_at ns i).refused_start
  left-own {ns} {i} x h t = sym (ap (λ s. s.refused_start) t.stands ∙ start-own (seat_before i ns) x h)

  pub last-own : {ns : Nodes F C K fg cg kg} {i : ℕ} (x : Node F C K) → last_operand x ≡ None → Stood ns i x →
      own_end x ≡ (seat_at ns i).refused_end
  last-own {ns} {i} x h t = sym (ap (λ s. s.refused_end) t.stands ∙ end-own (seat_before i ns) x h)

-- ---- what a tree says of where it begins and ends

module _ {F C K : Type 0} (fun_at : F → Span) (class_at : C → Span) (block_at : K → Span) (at : ℕ → Tree F C K) where
  begins-of : (x : Node F C K) (e : ExprId) → left_operand x ≡ Some e →
      begins_in_invalid (marked_tree fun_at class_at block_at at x) ≡ begins_in_invalid (at e.0)
  begins-of (n.Bin s op l r) e h = let same : l ≡ e = cc in ap (λ v. begins_in_invalid (at v.0)) same
  begins-of x e h = cc

  begins-own : (x : Node F C K) → begins_in_invalid (marked_tree fun_at class_at block_at at x) ≡ false
      → own_start x ≡ None
  begins-own (n.Invalid i) h = cc
  begins-own x h = refl

  ends-of : (x : Node F C K) (e : ExprId) → last_operand x ≡ Some e →
      ends_in_invalid (marked_tree fun_at class_at block_at at x) ≡ ends_in_invalid (at e.0)
  ends-of (n.Unary s op a) e h = let same : a ≡ e = cc in ap (λ v. ends_in_invalid (at v.0)) same
  ends-of (n.Update s op true a) e h = let same : a ≡ e = cc in ap (λ v. ends_in_invalid (at v.0)) same
  ends-of (n.Bin s op l r) e h = let same : r ≡ e = cc in ap (λ v. ends_in_invalid (at v.0)) same
  ends-of (n.Cond s t c a) e h = let same : a ≡ e = cc in ap (λ v. ends_in_invalid (at v.0)) same
  ends-of x e h = cc

  ends-own : (x : Node F C K) → ends_in_invalid (marked_tree fun_at class_at block_at at x) ≡ false → own_end x ≡ None
  ends-own (n.Invalid i) h = cc
  ends-own x h = refl

module _ {F C K : Type 0} {fg : Ghosts F} {cg : Ghosts C} {kg : Ghosts K} where
  none-begins : (ns : Nodes F C K fg cg kg) (k i : ℕ) → i < k → i < count ns
      → begins_in_invalid (tree_at ns i) ≡ false →
      (seat_at ns i).refused_start ≡ None
  none-begins ns zero i le lt h = absurd (omega arith)
  none-begins ns (suc k) i le lt h =
      let o = own ns.nodes.items i lt in
      let x = o.item in
      let t = get_stood ns i x lt o.at in
      let here = ap (λ s. begins_in_invalid s.tree) (sym t.stands) ∙ h in
      elim (left_operand x) as (λ p. left_operand x ≡ p → (seat_at ns i).refused_start ≡ None) [
        | None ↦ (λ e. sym (left-own x e t) ∙ begins-own fg.place cg.place kg.place _ x here)
        | Some a ↦ (λ e.
            let l = left-leads x a e t lt in
            let below = l.below in
            sym (left-same x a e t lt) ∙ none-begins ns k a.0 (omega arith) l.from.within
            (ap (λ s. begins_in_invalid s.tree) (sym l.same) ∙ sym
            (begins-of fg.place cg.place kg.place _ x a e) ∙ here))
      ] refl

  none-ends : (ns : Nodes F C K fg cg kg) (k i : ℕ) → i < k → i < count ns → ends_in_invalid (tree_at ns i) ≡ false →
      (seat_at ns i).refused_end ≡ None
  none-ends ns zero i le lt h = absurd (omega arith)
  none-ends ns (suc k) i le lt h =
      let o = own ns.nodes.items i lt in
      let x = o.item in
      let t = get_stood ns i x lt o.at in
      let here = ap (λ s. ends_in_invalid s.tree) (sym t.stands) ∙ h in
      elim (last_operand x) as (λ p. last_operand x ≡ p → (seat_at ns i).refused_end ≡ None) [
        | None ↦ (λ e. sym (last-own x e t) ∙ ends-own fg.place cg.place kg.place _ x here)
        | Some a ↦ (λ e.
            let l = last-leads x a e t lt in
            let below = l.below in
            sym (last-same x a e t lt) ∙ none-ends ns k a.0 (omega arith) l.from.within
            (ap (λ s. ends_in_invalid s.tree) (sym l.same) ∙ sym (ends-of fg.place cg.place kg.place _ x a e) ∙ here))
      ] refl

  pub start-clean : {ns : Nodes F C K fg cg kg} {k : ℕ} {e : ExprId} → From k ns (expr_part e) →
      begins_in_invalid (tree_at ns e.0) ≡ false → start_at ns e.0 ≡ (span_of (tree_at ns e.0)).lo
  start-clean {ns} {k} {e} f h =
      ap (λ o. or_position o (span_of (tree_at ns e.0)).lo) (none-begins ns (suc e.0) e.0 (omega arith) f.within h)

  pub end-clean : {ns : Nodes F C K fg cg kg} {k : ℕ} {e : ExprId} → From k ns (expr_part e) →
      ends_in_invalid (tree_at ns e.0) ≡ false → end_at ns e.0 ≡ (span_of (tree_at ns e.0)).hi
  end-clean {ns} {k} {e} f h =
      ap (λ o. or_position o (span_of (tree_at ns e.0)).hi) (none-ends ns (suc e.0) e.0 (omega arith) f.within h)

  -- nodes keep where they begin and end
  pub start-later : {ns ms : Nodes F C K fg cg kg} {k : ℕ} {e : ExprId} → Grows ns ms → From k ns (expr_part e) →
      start_at ms e.0 ≡ start_at ns e.0
  start-later {e = e} g f = ap (λ s. or_position s.refused_start (span_of s.tree).lo) (seat-later e.0 g f.within)
