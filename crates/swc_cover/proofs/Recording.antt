-- What is recorded, one after another.
use Rattle.std.proofs.Common.{map, ◌≡◌, ℕ, ◌+◌, ◌<◌, ◌≤◌, inl, true, false, List, [], ◌∷◌, ◌++◌, drop, get_or, length, Option, Some, None, refl, sym, ap, subst, ◌∙◌, arith, append_assoc}
use Rattle.std.proofs.lemmas.List.{append-nil, drop_more, drop_all}
use Rattle.std.specs.Prelude.{eqb, is_some, if◌then◌else◌}
use Rattle.std.specs.{declared.alloc.Global.Global, declared.vec.Vec.Vec}
use Rattle.swc_context.specs.{declared.operator.AssignOp.AssignOp, declared.operator.AssignOp.AssignOp as op, declared.span.Span.Span}
use Rattle.swc_ast.specs.{Parts.or_hole, Parts.item_tree, Tree.Trees, Tree.trees, declared.expr.ExprOrSpread.ExprOrSpread, declared.spanned.Spanned.Ghosts}
use Rattle.swc_grammar.specs.Cover.{is_pattern}
use Rattle.swc_cover.specs.Below.{ElemStep, PropStep, PatElemStep, PatPropStep, ElemsBelow, PropsBelow, PatElemsBelow, PatPropsBelow}
use Rattle.swc_cover.specs.Faults.{Verdict, clean, recorded, goes_on, also, verdict, elem_verdict, elems_verdict, prop_verdict, props_verdict, param_verdict, params_verdict, left_faults, again, all_again, props_again, Recorded}
use Rattle.swc_cover.specs.{Fits.Way, Checking.plain_op, declared.faults.Fault.Fault}
use Rattle.swc_cover.proofs.Fitting.{Below, chain-in, in-flat, elems_of, props_of, pats_of, pat_props_of, elem-below, prop-in, pat-elem-below, pat-prop-below, nil-by, tree-is, left-shape, left-below}
use Rattle.swc_cover.proofs.Among.{in-right}
use Rattle.swc_nodes.specs.NodeTree.{marked_tree, prop_of}
use Rattle.swc_nodes.specs.NodeParts.{key_parts, expr_part, target_part, flat, item_parts, part_parts}
use Rattle.swc_nodes.specs.GrowingNodes.{count, tree_at, From, Stood, seat_at, Apart}
use Rattle.swc_nodes.specs.{declared.node.ExprId.ExprId, declared.node.PatElem.PatElem, declared.node.PatElem.PatElem as elem, declared.node.PatId.PatId, declared.node.Node.Node, declared.node.Node.Node as n, declared.node.PatPropNode.PatPropNode, declared.node.PatPropNode.PatPropNode as pat_prop, declared.node.PropNode.PropNode, declared.node.PropNode.PropNode as prop, declared.node.TargetNode.TargetNode, declared.node.TargetNode.TargetNode as target, declared.nodes.Nodes.Nodes}

pub recorded-as : {was now : List Fault} {u v : Verdict} {r : Option Span} → u ≡ v → Recorded was u now r →
    Recorded was v now r
recorded-as {was} {now} {r = r} e x = subst (λ w. Recorded was w now r) e x

-- ---- a list of verdicts

-- what is left of a whole
pub record Remains (was : List Fault) (whole : Verdict) (now : List Fault) (left : Verdict) : Type 0 where
  pub faults : was ++ whole.faults ≡ now ++ left.faults
  pub refused : whole.refused ≡ left.refused

also-on : (u v : Verdict) (r : Option Span) → r ≡ u.refused → is_some r ≡ false →
    also u v ≡ record { faults = u.faults ++ v.faults; refused = v.refused }
also-on u v None e h = ap (λ w. goes_on u.faults w v) (sym e)
also-on u v (Some s) e h = cc

also-ends : (u v : Verdict) (r : Option Span) → r ≡ u.refused → is_some r ≡ true →
    also u v ≡ record { faults = u.faults; refused = r }
also-ends u v None e h = cc
also-ends u v (Some s) e h = ap (λ w. goes_on u.faults w v) (sym e)

pub remains-more : {was now next : List Fault} {whole left : Verdict} {r : Option Span} (u v : Verdict) →
    left ≡ also u v → is_some r ≡ false → Recorded now u next r → Remains was whole now left → Remains was whole next v
remains-more {was} {now} {next} {whole} {left} {r} u v e h x m =
    let on = e ∙ also-on u v r x.refused h in
    record {
      faults = m.faults ∙ ap (λ w. now ++ w.faults) on ∙ sym (append_assoc now u.faults v.faults)
          ∙ ap (λ w. w ++ v.faults) (sym x.faults);
      refused = m.refused ∙ ap (λ w. w.refused) on;
    }

pub remains-ends : {was now next : List Fault} {whole left : Verdict} {r : Option Span} (u v : Verdict) →
    left ≡ also u v → is_some r ≡ true → Recorded now u next r → Remains was whole now left → Recorded was whole next r
remains-ends {was} {now} {next} {whole} {left} {r} u v e h x m =
    let on = e ∙ also-ends u v r x.refused h in
    record {
      faults = x.faults ∙ sym (m.faults ∙ ap (λ w. now ++ w.faults) on);
      refused = sym (m.refused ∙ ap (λ w. w.refused) on);
    }

pub remains-none : {was now : List Fault} {whole left : Verdict} → left ≡ clean → Remains was whole now left →
    Recorded was whole now None
remains-none {was} {now} {whole} {left} e m =
    record {
      faults = sym (m.faults ∙ ap (λ w. now ++ w.faults) e ∙ append-nil now);
      refused = sym (m.refused ∙ ap (λ w. w.refused) e);
    }

module _ {F C K : Type 0} {fg : Ghosts F} {cg : Ghosts C} {kg : Ghosts K} where
  -- ---- the elements of an array

  elem-by : {ns : Nodes F C K fg cg kg} {i j : ℕ} {x : Node F C K} (s : Span)
      (elems : Vec (Option (ExprOrSpread ExprId)) Global) (comma : Option Span) (o p : Option (ExprOrSpread ExprId)) →
      Stood ns i x → i < count ns → x ≡ n.Array s elems comma →
      j < length elems.items → o ≡ get_or elems.items j o → o ≡ p → ElemStep ns i p
  elem-by s elems comma o None t lt e h g q = record { less = omega arith; from = tt }
  elem-by s elems comma o (Some item) t lt e h g q =
      let b = elem-below s elems comma o item t lt e h g q in
      let a = b.less in
      record { less = omega arith; from = b.from }

  pub elem-step : {ns : Nodes F C K fg cg kg} {i j : ℕ} {x : Node F C K} (s : Span)
      (elems : Vec (Option (ExprOrSpread ExprId)) Global) (comma : Option Span) (o : Option (ExprOrSpread ExprId)) →
      Stood ns i x → i < count ns → x ≡ n.Array s elems comma →
      j < length elems.items → o ≡ get_or elems.items j o → ElemStep ns i o
  elem-step s elems comma o t lt e h g = elem-by s elems comma o o t lt e h g refl

  pub elems-below : {ns : Nodes F C K fg cg kg} {i : ℕ} {x : Node F C K} (s : Span)
      (elems : Vec (Option (ExprOrSpread ExprId)) Global) (comma : Option Span) → Stood ns i x → i < count ns →
      x ≡ n.Array s elems comma → ElemsBelow ns i elems.items
  elems-below s elems comma t lt e = record { each = λ j o h g. elem-step s elems comma o t lt e h g }

  pub elems-first : (ns : Nodes F C K fg cg kg) (w : Way) (xs : List (Option (ExprOrSpread ExprId)))
      (comma : Option Span) (i len : ℕ) (o : Option (ExprOrSpread ExprId)) → i < length xs → len ≡ length xs →
      o ≡ get_or xs i o →
      elems_verdict w comma (elems_of ns (drop i xs)) ≡ also (elem_verdict w (eqb (i + 1) len) comma
      (or_hole (item_tree (λ (e : ExprId). tree_at ns e.0)) o))
      (elems_verdict w comma (elems_of ns (drop (i + 1) xs)))
  elems-first ns w xs comma i len o h l e =
      ap (λ v. elems_verdict w comma (elems_of ns v)) (drop_more xs i o h ∙ ap (λ v. v ∷ drop (i + 1) xs) (sym e))
      ∙ ap (λ b. also (elem_verdict w b comma (or_hole (item_tree (λ (e : ExprId). tree_at ns e.0)) o))
      (elems_verdict w comma (elems_of ns (drop (i + 1) xs))))
      (sym (nil-by (or_hole (item_tree (λ (e : ExprId). tree_at ns e.0))) xs i len (eqb (i + 1) len) h l refl))

  pub elems-none : (ns : Nodes F C K fg cg kg) (w : Way) (xs : List (Option (ExprOrSpread ExprId)))
      (comma : Option Span) (i : ℕ) → length xs ≤ i → elems_verdict w comma (elems_of ns (drop i xs)) ≡ clean
  elems-none ns w xs comma i h = ap (λ v. elems_verdict w comma (elems_of ns v)) (drop_all i xs h)

  pub array-verdict : {ns : Nodes F C K fg cg kg} {i : ℕ} {x : Node F C K} (w : Way) (s : Span)
      (elems : Vec (Option (ExprOrSpread ExprId)) Global) (comma : Option Span) → Stood ns i x → i < count ns →
      x ≡ n.Array s elems comma → elems_verdict w comma (elems_of ns elems.items) ≡ verdict w (tree_at ns i)
  array-verdict {ns} w s elems comma t lt e = sym (ap (verdict w) (tree-is (n.Array s elems comma) t lt e))

  -- ---- the properties of an object

  prop-by : {ns : Nodes F C K fg cg kg} {i j : ℕ} {x : Node F C K} (s : Span) (props : Vec (PropNode K) Global)
      (comma : Option Span) (y z : PropNode K) → Stood ns i x → i < count ns → x ≡ n.Object s props comma →
      j < length props.items → y ≡ get_or props.items j y → y ≡ z → PropStep ns i z
  prop-by s props comma y (prop.KeyValue u k v) t lt e h g q =
      let b = prop-in s props comma y (prop.KeyValue u k v) (expr_part v) t lt e h g q
      (in-right (expr_part v) (key_parts k) (expr_part v ∷ []) (inl refl)) in
      let a = b.less in
      record { less = omega arith; from = b.from }
  prop-by s props comma y (prop.Spread u) t lt e h g q =
      let b = prop-in s props comma y (prop.Spread u) (expr_part u.expr) t lt e h g q (inl refl) in
      let a = b.less in
      record { less = omega arith; from = b.from }
  prop-by s props comma y z t lt e h g q = record { less = omega arith; from = tt }

  pub prop-step : {ns : Nodes F C K fg cg kg} {i j : ℕ} {x : Node F C K} (s : Span) (props : Vec (PropNode K) Global)
      (comma : Option Span) (y : PropNode K) → Stood ns i x → i < count ns → x ≡ n.Object s props comma →
      j < length props.items → y ≡ get_or props.items j y → PropStep ns i y
  prop-step s props comma y t lt e h g = prop-by s props comma y y t lt e h g refl

  pub props-below : {ns : Nodes F C K fg cg kg} {i : ℕ} {x : Node F C K} (s : Span) (props : Vec (PropNode K) Global)
      (comma : Option Span) → Stood ns i x → i < count ns → x ≡ n.Object s props comma → PropsBelow ns i props.items
  props-below s props comma t lt e = record { each = λ j y h g. prop-step s props comma y t lt e h g }

  pub props-first : (ns : Nodes F C K fg cg kg) (w : Way) (xs : List (PropNode K)) (comma : Option Span) (i len : ℕ)
      (y : PropNode K) → i < length xs → len ≡ length xs → y ≡ get_or xs i y →
      props_verdict w comma (props_of ns (drop i xs)) ≡ also (prop_verdict w (eqb (i + 1) len) comma
      (prop_of fg.place cg.place kg.place (tree_at ns) y)) (props_verdict w comma (props_of ns (drop (i + 1) xs)))
  props-first ns w xs comma i len y h l e =
      ap (λ v. props_verdict w comma (props_of ns v)) (drop_more xs i y h ∙ ap (λ v. v ∷ drop (i + 1) xs) (sym e))
      ∙ ap (λ b. also (prop_verdict w b comma (prop_of fg.place cg.place kg.place (tree_at ns) y))
      (props_verdict w comma (props_of ns (drop (i + 1) xs))))
      (sym (nil-by (prop_of fg.place cg.place kg.place (tree_at ns)) xs i len (eqb (i + 1) len) h l refl))

  pub props-none : (ns : Nodes F C K fg cg kg) (w : Way) (xs : List (PropNode K)) (comma : Option Span) (i : ℕ) →
      length xs ≤ i → props_verdict w comma (props_of ns (drop i xs)) ≡ clean
  props-none ns w xs comma i h = ap (λ v. props_verdict w comma (props_of ns v)) (drop_all i xs h)

  pub object-verdict : {ns : Nodes F C K fg cg kg} {i : ℕ} {x : Node F C K} (w : Way) (s : Span)
      (props : Vec (PropNode K) Global) (comma : Option Span) → Stood ns i x → i < count ns →
      x ≡ n.Object s props comma → props_verdict w comma (props_of ns props.items) ≡ verdict w (tree_at ns i)
  object-verdict {ns} w s props comma t lt e = sym (ap (verdict w) (tree-is (n.Object s props comma) t lt e))

  -- ---- an assignment

  simple-verdict : (ns : Nodes F C K fg cg kg) (w : Way) (s : Span) (o : AssignOp) (u r : ExprId) → plain_op o ≡ true →
      is_pattern (tree_at ns u.0) ≡ false → verdict w (marked_tree fg.place cg.place kg.place (tree_at ns)
      (n.Assign s o (target.Simple u) r)) ≡ verdict w (tree_at ns u.0)
  simple-verdict ns w s op.Assign u r h p = ap (λ b. if b then recorded (left_faults w (tree_at ns u.0)) else verdict w
      (tree_at ns u.0)) p
  simple-verdict ns w s o u r h p = cc

  pattern-verdict : (ns : Nodes F C K fg cg kg) (w : Way) (s : Span) (o : AssignOp) (u : PatId) (r : ExprId) →
      plain_op o ≡ true → is_pattern (tree_at ns u.0) ≡ true →
      verdict w (marked_tree fg.place cg.place kg.place (tree_at ns) (n.Assign s o (target.Pat u) r)) ≡ recorded
      (left_faults w (tree_at ns u.0))
  pattern-verdict ns w s op.Assign u r h p = ap (λ b. if b then recorded (left_faults w (tree_at ns u.0)) else verdict
      w (tree_at ns u.0)) p
  pattern-verdict ns w s o u r h p = cc

  pub assign-simple : {ns : Nodes F C K fg cg kg} {i : ℕ} {x : Node F C K} (w : Way) (s : Span) (o : AssignOp)
      (l : TargetNode) (r u : ExprId) → Stood ns i x → i < count ns → x ≡ n.Assign s o l r → plain_op o ≡ true →
      l ≡ target.Simple u → verdict w (tree_at ns u.0) ≡ verdict w (tree_at ns i)
  assign-simple {ns} {i} {x} w s o l r u t lt e h q =
      let b = subst (λ v. Below ns i (target_part v)) q (left-below s o l r t lt e) in
      sym (ap (verdict w) (tree-is (n.Assign s o l r) t lt e)
      ∙ ap (λ v. verdict w (marked_tree fg.place cg.place kg.place (tree_at ns) (n.Assign s o v r))) q
      ∙ simple-verdict ns w s o u r h (left-shape (target.Simple u) b.from))

  pub assign-pattern : {ns : Nodes F C K fg cg kg} {i : ℕ} {x : Node F C K} (w : Way) (s : Span) (o : AssignOp)
      (l : TargetNode) (r : ExprId) (u : PatId) → Stood ns i x → i < count ns → x ≡ n.Assign s o l r →
      plain_op o ≡ true → l ≡ target.Pat u →
      recorded (left_faults w (tree_at ns u.0)) ≡ verdict w (tree_at ns i)
  assign-pattern {ns} {i} {x} w s o l r u t lt e h q =
      let b = subst (λ v. Below ns i (target_part v)) q (left-below s o l r t lt e) in
      sym (ap (verdict w) (tree-is (n.Assign s o l r) t lt e)
      ∙ ap (λ v. verdict w (marked_tree fg.place cg.place kg.place (tree_at ns) (n.Assign s o v r))) q
      ∙ pattern-verdict ns w s o u r h (left-shape (target.Pat u) b.from))

  -- ---- patterns, once more

  pat-elem-by : {ns : Nodes F C K fg cg kg} {i j : ℕ} {x : Node F C K} (s : Span) (elems : Vec (Option PatElem) Global)
      (o p : Option PatElem) → Stood ns i x → i < count ns → x ≡ n.PatArray s elems →
      j < length elems.items → o ≡ get_or elems.items j o → o ≡ p → PatElemStep ns i p
  pat-elem-by s elems o None t lt e h g q = record { less = omega arith; from = tt }
  pat-elem-by s elems o (Some (elem.Item p)) t lt e h g q =
      let b = pat-elem-below s elems o (elem.Item p) p t lt e h g q refl in
      let a = b.less in
      record { less = omega arith; from = b.from }
  pat-elem-by s elems o (Some (elem.Rest u d p)) t lt e h g q =
      let b = pat-elem-below s elems o (elem.Rest u d p) p t lt e h g q refl in
      let a = b.less in
      record { less = omega arith; from = b.from }

  pub pat-elems-below : {ns : Nodes F C K fg cg kg} {i : ℕ} {x : Node F C K} (s : Span)
      (elems : Vec (Option PatElem) Global) → Stood ns i x → i < count ns → x ≡ n.PatArray s elems →
      PatElemsBelow ns i elems.items
  pat-elems-below s elems t lt e = record { each = λ j o h g. pat-elem-by s elems o o t lt e h g refl }

  pat-prop-by : {ns : Nodes F C K fg cg kg} {i j : ℕ} {x : Node F C K} (s : Span) (props : Vec PatPropNode Global)
      (y z : PatPropNode) → Stood ns i x → i < count ns → x ≡ n.PatObject s props →
      j < length props.items → y ≡ get_or props.items j y → y ≡ z → PatPropStep ns i z
  pat-prop-by s props y (pat_prop.KeyValue u k v) t lt e h g q =
      let b = pat-prop-below s props y (pat_prop.KeyValue u k v) v t lt e h g q
      (λ w own. in-right w (key_parts k) (part_parts v) own) in
      let a = b.less in
      record { less = omega arith; from = b.from }
  pat-prop-by s props y (pat_prop.Rest u d v) t lt e h g q =
      let b = pat-prop-below s props y (pat_prop.Rest u d v) v t lt e h g q (λ w own. own) in
      let a = b.less in
      record { less = omega arith; from = b.from }
  pat-prop-by s props y z t lt e h g q = record { less = omega arith; from = tt }

  pub pat-props-below : {ns : Nodes F C K fg cg kg} {i : ℕ} {x : Node F C K} (s : Span)
      (props : Vec PatPropNode Global) → Stood ns i x → i < count ns → x ≡ n.PatObject s props →
      PatPropsBelow ns i props.items
  pat-props-below s props t lt e = record { each = λ j y h g. pat-prop-by s props y y t lt e h g refl }

  pub pats-ended : (ns : Nodes F C K fg cg kg) (xs : List (Option PatElem)) (i : ℕ) (fs whole : List Fault) →
      length xs ≤ i → fs ++ all_again (pats_of ns (drop i xs)) ≡ whole → fs ≡ whole
  pats-ended ns xs i fs whole h w = sym (ap (λ v. fs ++ all_again (pats_of ns v)) (drop_all i xs h) ∙ append-nil fs) ∙ w

  pub pat-props-ended : (ns : Nodes F C K fg cg kg) (xs : List PatPropNode) (i : ℕ) (fs whole : List Fault) →
      length xs ≤ i → fs ++ props_again (pat_props_of ns (drop i xs)) ≡ whole → fs ≡ whole
  pat-props-ended ns xs i fs whole h w = sym (ap (λ v. fs ++ props_again (pat_props_of ns v)) (drop_all i xs h) ∙
      append-nil fs) ∙ w

  pub again-is : {ns : Nodes F C K fg cg kg} {i : ℕ} {x : Node F C K} (y : Node F C K) → Stood ns i x → i < count ns →
      x ≡ y → again (tree_at ns i) ≡ again (marked_tree fg.place cg.place kg.place (tree_at ns) y)
  again-is y t lt e = ap again (tree-is y t lt e)

  -- ---- items

  abbrev pub items_of : Nodes F C K fg cg kg → List (ExprOrSpread ExprId) → Trees F C K
  items_of ns xs = trees (map (item_tree (λ (e : ExprId). tree_at ns e.0)) xs)

  pub item-from : {ns : Nodes F C K fg cg kg} (xs : List (ExprOrSpread ExprId)) (i : ℕ) (x : ExprOrSpread ExprId) →
      Apart 0 ns (flat item_parts xs) → i < length xs → x ≡ get_or xs i x → From 0 ns (expr_part x.expr)
  item-from {ns} xs i x a h e =
      let c = chain-in (seat_at ns) 0 (count ns) (flat item_parts xs) (expr_part x.expr)
      (in-flat item_parts xs i x (expr_part x.expr) h e (inl refl)) a.chained in
      let w = c.0 in
      let f = c.1 in
      record { within = w; above = f.above; first = f.first; view = f.view }

  pub items-first : (ns : Nodes F C K fg cg kg) (xs : List (ExprOrSpread ExprId)) (comma : Option Span) (i len : ℕ)
      (x : ExprOrSpread ExprId) → i < length xs → len ≡ length xs → x ≡ get_or xs i x →
      params_verdict comma (items_of ns (drop i xs)) ≡ also (param_verdict (eqb (i + 1) len) comma
      (item_tree (λ (e : ExprId). tree_at ns e.0) x)) (params_verdict comma (items_of ns (drop (i + 1) xs)))
  items-first ns xs comma i len x h l e =
      ap (λ v. params_verdict comma (items_of ns v)) (drop_more xs i x h ∙ ap (λ v. v ∷ drop (i + 1) xs) (sym e))
      ∙ ap (λ b. also (param_verdict b comma (item_tree (λ (e : ExprId). tree_at ns e.0) x))
      (params_verdict comma (items_of ns (drop (i + 1) xs))))
      (sym (nil-by (item_tree (λ (e : ExprId). tree_at ns e.0)) xs i len (eqb (i + 1) len) h l refl))

  pub items-none : (ns : Nodes F C K fg cg kg) (xs : List (ExprOrSpread ExprId)) (comma : Option Span) (i : ℕ) →
      length xs ≤ i → params_verdict comma (items_of ns (drop i xs)) ≡ clean
  items-none ns xs comma i h = ap (λ v. params_verdict comma (items_of ns v)) (drop_all i xs h)
