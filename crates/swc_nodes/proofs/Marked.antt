-- What nodes stand for whose literals were marked with their commas.
use Rattle.std.proofs.Common.{◌≡◌, ℕ, suc, ◌<◌, ◌≤◌, true, List, [], ◌∷◌, ◌++◌, map, length, take, drop, Option, Some, None, refl, sym, ap, subst, ◌∙◌, arith, length-append, ⊎_elim}
use Rattle.std.proofs.lemmas.Bool.{cases_lt, le-leb}
use Rattle.std.proofs.lemmas.List.{append-nil, drop_all, get_or_append_left, get_or_at, get_or_past, length-map, length-take-le, take-append-drop, take-take, take_at}
use Rattle.std.specs.{Prelude.slice_index_or, declared.alloc.Global.Global, declared.vec.Vec.Vec}
use Rattle.swc_context.specs.declared.span.Span.{Span}
use Rattle.swc_ast.specs.Parts.{leaf, or_hole, ident_tree, prop_name_tree, member_prop_tree, super_part_tree, item_of, item_tree, item_trees, args_tree, base_tree, callee_tree, quasi_tree, tpl_tree, body_tree, param_tree, function_tree}
use Rattle.swc_ast.specs.Tree.{Tree, node, Trees, nil, cons, trees, span_of, no_span, item, spread, dots, args, args_with, array, array_with, object, object_with, unary, update, bin, assign, cond, seq, paren, member, super, super_prop, call, new, opt_chain, tpl, tagged, arrow, await, yield, computed, key_value, cover, method, function, getter, setter, block, binding_prop, rest, default, param, pat_expr}
use Rattle.swc_ast.specs.{Trees.unmarked, Trees.all_unmarked, declared.expr.BlockStmtOrExpr.BlockStmtOrExpr, declared.expr.BlockStmtOrExpr.BlockStmtOrExpr as body, declared.expr.Callee.Callee, declared.expr.Callee.Callee as callee, declared.expr.ExprOrSpread.ExprOrSpread, declared.expr.MemberProp.MemberProp, declared.expr.MemberProp.MemberProp as member_prop, declared.expr.OptChainBase.OptChainBase, declared.expr.OptChainBase.OptChainBase as base, declared.expr.SuperProp.SuperProp, declared.expr.SuperProp.SuperProp as super_part, declared.expr.Tpl.Tpl, declared.expr.TplElement.TplElement, declared.function.Function.Function, declared.function.Param.Param, declared.prop.PropName.PropName, declared.prop.PropName.PropName as prop_name, declared.spanned.Spanned.Ghosts}
use Rattle.swc_nodes.specs.Marking.{Marker, marked_by, all_marked_by, target_marked_by, pat_marked_by, pats_marked_by, marked_as, marked_node, marked_from, Marks}
use Rattle.swc_nodes.specs.NodeTree.{target_of, prop_of, pat_prop_of, marked_tree, part_tree, pat_elem_of}
use Rattle.swc_nodes.specs.NodeParts.{Part, View, expr, pat, simple, pattern, Form, target_expr, other_expr, target_pat, other_pat, slots, form, view_ok, flat, if_some, one_expr, one_pat, item_parts, args_parts, key_parts, member_parts, super_parts, callee_parts, base_parts, body_parts, param_parts, prop_parts, pat_prop_parts, target_part, part_parts, pat_elem_part}
use Rattle.swc_nodes.specs.NumberedTrees.{Seat, no_seat, found, floor, fits, chain, seat, seats_after, ordered}
use Rattle.swc_nodes.specs.GrowingNodes.{count, seat_at, tree_at, Apart, From}
use Rattle.swc_nodes.specs.{declared.node.ExprId.ExprId, declared.node.PatId.PatId, declared.node.Node.Node, declared.node.Node.Node as n, declared.node.PatPropNode.PatPropNode, declared.node.PatPropNode.PatPropNode as pat_prop, declared.node.PropNode.PropNode, declared.node.PropNode.PropNode as prop, declared.node.TargetNode.TargetNode, declared.node.TargetNode.TargetNode as target, declared.nodes.Nodes.Nodes, declared.node.PatElem.PatElem, declared.node.PatElem.PatElem as elem, declared.node.PatPart.PatPart, declared.node.PatPart.PatPart as of_pat}
use Rattle.swc_nodes.proofs.Chains.{both_true, true_both, fitting, fits-of, chain-bound, chain-cons}
use Rattle.swc_nodes.proofs.Lists.{same_first, same_rest}
use Rattle.swc_nodes.proofs.Standing.{after_append, after_length, ordered_front, ordered_back, ordered_both}

both_same : {X : Type 0} {a b : X} {xs ys : List X} → a ≡ b → xs ≡ ys → (a ∷ xs) ≡ (b ∷ ys)
both_same h k = cc

-- ---- the trees of parts

module _ {F C K : Type 0} (m : Marker) (at by : ℕ → Tree F C K) where
  -- what is given for parts are their marked trees
  abbrev pub AreMarked : List Part → Type 0
  AreMarked ps = map (λ p. by p.at) ps ≡ map (λ p. marked_as m p.view (at p.at)) ps

  front : (ps qs : List Part) → AreMarked (ps ++ qs) → AreMarked ps
  front [] qs h = refl
  front (p ∷ ps) qs h = both_same (same_first h) (front ps qs (same_rest h))

  back : (ps qs : List Part) → AreMarked (ps ++ qs) → AreMarked qs
  back [] qs h = h
  back (p ∷ ps) qs h = back ps qs (same_rest h)

  -- a list of things that hold expressions, and of things in patterns
  listed : {X : Type 0} (parts : X → List Part) (f g : X → Tree F C K) → ((x : X) → AreMarked (parts x)
      → f x ≡ marked_by m (g x))
      → (xs : List X) → AreMarked (flat parts xs) → trees (map f xs) ≡ all_marked_by m (trees (map g xs))
  listed parts f g same [] h = refl
  listed parts f g same (x ∷ xs) h =
      ap (λ t. cons t (trees (map f xs))) (same x (front (parts x) (flat parts xs) h))
      ∙ ap (cons (marked_by m (g x))) (listed parts f g same xs (back (parts x) (flat parts xs) h))

  listed-pats : {X : Type 0} (parts : X → List Part) (f g : X → Tree F C K) → ((x : X) → AreMarked (parts x)
      → f x ≡ pat_marked_by m (g x))
      → (xs : List X) → AreMarked (flat parts xs) → trees (map f xs) ≡ pats_marked_by m (trees (map g xs))
  listed-pats parts f g same [] h = refl
  listed-pats parts f g same (x ∷ xs) h =
      ap (λ t. cons t (trees (map f xs))) (same x (front (parts x) (flat parts xs) h))
      ∙ ap (cons (pat_marked_by m (g x))) (listed-pats parts f g same xs (back (parts x) (flat parts xs) h))

  if_there : {X : Type 0} (parts : X → List Part) (f g : X → Tree F C K) → ((x : X) → AreMarked (parts x)
      → f x ≡ marked_by m (g x))
      → (o : Option X) → AreMarked (if_some parts o) → or_hole f o ≡ marked_by m (or_hole g o)
  if_there parts f g same None h = refl
  if_there parts f g same (Some x) h = same x h

  pat_if_there : {X : Type 0} (parts : X → List Part) (f g : X → Tree F C K) → ((x : X) → AreMarked (parts x)
      → f x ≡ pat_marked_by m (g x))
      → (o : Option X) → AreMarked (if_some parts o) → or_hole f o ≡ pat_marked_by m (or_hole g o)
  pat_if_there parts f g same None h = refl
  pat_if_there parts f g same (Some x) h = same x h

  abbrev expr_at : ExprId → Tree F C K
  expr_at e = at e.0

  abbrev expr_by : ExprId → Tree F C K
  expr_by e = by e.0

  abbrev pat_at : PatId → Tree F C K
  pat_at p = at p.0

  abbrev pat_by : PatId → Tree F C K
  pat_by p = by p.0

  one : (e : ExprId) → AreMarked (one_expr e) → expr_by e ≡ marked_by m (expr_at e)
  one e h = same_first h

  one_of : (p : PatId) → AreMarked (one_pat p) → pat_by p ≡ pat_marked_by m (pat_at p)
  one_of p h = same_first h

  item_as : (o : Option Span) (t u : Tree F C K) → t ≡ marked_by m u → item_of o t ≡ marked_by m (item_of o u)
  item_as None t u h = ap (λ v. node item no_span (cons v nil)) h
  item_as (Some s) t u h = ap (λ v. node spread no_span (cons (leaf dots s) (cons v nil))) h

  pub an_item : (x : ExprOrSpread ExprId) → AreMarked (item_parts x)
      → item_tree expr_by x ≡ marked_by m (item_tree expr_at x)
  an_item x h = item_as x.spread (expr_by x.expr) (expr_at x.expr) (same_first h)

  pub items : (xs : List (ExprOrSpread ExprId)) → AreMarked (flat item_parts xs)
      → item_trees expr_by xs ≡ all_marked_by m (item_trees expr_at xs)
  items xs h = listed item_parts (item_tree expr_by) (item_tree expr_at) an_item xs h

  args_if : (o : Option (Vec (ExprOrSpread ExprId) Global)) → AreMarked (if_some args_parts o)
      → or_hole (args_tree expr_by) o ≡ marked_by m (or_hole (args_tree expr_at) o)
  args_if None h = refl
  args_if (Some xs) h = ap (node args no_span) (items xs.items h)

  key : (k : PropName ExprId) → AreMarked (key_parts k)
      → prop_name_tree expr_by k ≡ marked_by m (prop_name_tree expr_at k)
  key (prop_name.Computed c) h = ap (λ v. node computed c.span (cons v nil)) (same_first h)
  key (prop_name.Ident i) h = refl
  key (prop_name.Str s) h = refl
  key (prop_name.Num v) h = refl
  key (prop_name.BigInt v) h = refl

  member_key : (p : MemberProp ExprId) → AreMarked (member_parts p)
      → member_prop_tree expr_by p ≡ marked_by m (member_prop_tree expr_at p)
  member_key (member_prop.Computed c) h = ap (λ v. node computed c.span (cons v nil)) (same_first h)
  member_key (member_prop.Ident i) h = refl
  member_key (member_prop.PrivateName i) h = refl

  super_key : (p : SuperProp ExprId) → AreMarked (super_parts p)
      → super_part_tree expr_by p ≡ marked_by m (super_part_tree expr_at p)
  super_key (super_part.Computed c) h = ap (λ v. node computed c.span (cons v nil)) (same_first h)
  super_key (super_part.Ident i) h = refl

  a_callee : (c : Callee ExprId) → AreMarked (callee_parts c)
      → callee_tree expr_by c ≡ marked_by m (callee_tree expr_at c)
  a_callee (callee.Expr e) h = same_first h
  a_callee (callee.Super s) h = refl
  a_callee (callee.Import i) h = refl

  a_base : (b : OptChainBase ExprId) → AreMarked (base_parts b)
      → base_tree expr_by b ≡ marked_by m (base_tree expr_at b)
  a_base (base.Member x) h =
      ap (λ t. node member x.span (cons t (cons (member_prop_tree expr_by x.prop) nil))) (same_first h)
      ∙ ap (λ t. node member x.span (cons (marked_by m (expr_at x.obj)) (cons t nil))) (member_key x.prop (same_rest h))
  a_base (base.Call c) h =
      ap (λ t. node call c.span (cons t (item_trees expr_by c.args.items))) (same_first h)
      ∙ ap (λ ts. node call c.span (cons (marked_by m (expr_at c.callee)) ts)) (items c.args.items (same_rest h))

  texts : (qs : List TplElement) (es : List ExprId) → AreMarked (flat one_expr es)
      → trees (map quasi_tree qs ++ map expr_by es) ≡ all_marked_by m (trees (map quasi_tree qs ++ map expr_at es))
  texts [] es h = listed one_expr expr_by expr_at one es h
  texts (q ∷ qs) es h = ap (cons (quasi_tree q)) (texts qs es h)

  a_tpl : (t : Tpl ExprId) → AreMarked (flat one_expr t.exprs.items)
      → tpl_tree expr_by t ≡ marked_by m (tpl_tree expr_at t)
  a_tpl t h = ap (node tpl t.span) (texts t.quasis.items t.exprs.items h)

  a_body : (block_at : K → Span) (b : BlockStmtOrExpr ExprId K) → AreMarked (body_parts b)
      → body_tree block_at expr_by b ≡ marked_by m (body_tree block_at expr_at b)
  a_body block_at (body.BlockStmt k) h = refl
  a_body block_at (body.Expr e) h = same_first h

  a_param : (p : Param PatId) → AreMarked (param_parts p) → param_tree pat_by p ≡ marked_by m (param_tree pat_at p)
  a_param p h = ap (λ v. node param p.span (cons v nil)) (same_first h)

  a_function : (block_at : K → Span) (f : Function PatId K) → AreMarked (flat param_parts f.params.items)
      → function_tree block_at pat_by f ≡ marked_by m (function_tree block_at pat_at f)
  a_function block_at f h =
      ap (λ ts. node (function f.is_async f.is_generator) f.span (cons (leaf (block f.body) (block_at f.body)) ts))
      (listed param_parts (param_tree pat_by) (param_tree pat_at) a_param f.params.items h)

marked-place : {F C K : Type 0} (m : Marker) (t : Tree F C K) → span_of (marked_by m t) ≡ span_of t
marked-place m (node (assign op) s nil) = refl
marked-place m (node (assign op) s (cons l ts)) = refl
marked-place m (node (arrow a) s nil) = refl
marked-place m (node (arrow a) s (cons b ts)) = refl
marked-place m (node setter s nil) = refl
marked-place m (node setter s (cons k nil)) = refl
marked-place m (node setter s (cons k (cons p ts))) = refl
marked-place m (node k s ts) = refl

-- ---- the tree of a node

module _ {F C K : Type 0} (fun_at : F → Span) (class_at : C → Span) (block_at : K → Span) (m : Marker) (at by : ℕ
    → Tree F C K) where
  abbrev Marked : List Part → Type 0
  Marked ps = AreMarked m at by ps

  abbrev key_at : PropName ExprId → Tree F C K
  key_at k = prop_name_tree (λ e. at e.0) k

  abbrev key_by : PropName ExprId → Tree F C K
  key_by k = prop_name_tree (λ e. by e.0) k

  a_target : (t : TargetNode) → Marked (target_part t ∷ [])
      → target_of fun_at class_at block_at by t ≡ target_marked_by m (target_of fun_at class_at block_at at t)
  a_target (target.Simple e) h = same_first h
  a_target (target.Pat p) h = same_first h

  a_prop : (p : PropNode K) → Marked (prop_parts p)
      → prop_of fun_at class_at block_at by p ≡ marked_by m (prop_of fun_at class_at block_at at p)
  a_prop (prop.Spread s) h = ap (λ t. node spread s.span (cons (leaf dots s.dot3_token) (cons t nil))) (same_first h)
  a_prop (prop.Shorthand i) h = refl
  a_prop (prop.KeyValue s k v) h =
      ap (λ t. node key_value s (cons t (cons (by v.0) nil))) (key m at by k (front m at by (key_parts k)
      (one_expr v) h))
      ∙ ap (λ t. node key_value s (cons (marked_by m (key_at k)) (cons t nil))) (same_first (back m at by
      (key_parts k) (one_expr v) h))
  a_prop (prop.Assign p) h = ap (λ t. node cover p.span (cons (ident_tree p.key) (cons t nil))) (same_first h)
  a_prop (prop.Method k f) h =
      let params = flat param_parts f.params.items in
      ap (λ t. node method f.span (cons t (cons (function_tree block_at (λ p. by p.0) f) nil))) (key m at by k
      (front m at by (key_parts k) params h))
      ∙ ap (λ t. node method f.span (cons (marked_by m (key_at k)) (cons t nil))) (a_function m at by block_at f
      (back m at by (key_parts k) params h))
  a_prop (prop.Getter s k b) h = ap (λ t. node getter s (cons t (cons (leaf (block b) (block_at b)) nil)))
      (key m at by k h)
  a_prop (prop.Setter s k p b) h =
      let own = cons (leaf (block b) (block_at b)) nil in
      ap (λ t. node setter s (cons t (cons (by p.0) own))) (key m at by k (front m at by (key_parts k) (one_pat p) h))
      ∙ ap (λ t. node setter s (cons (marked_by m (key_at k)) (cons t own))) (same_first (back m at by (key_parts k)
      (one_pat p) h))

  a_part : (p : PatPart) → Marked (part_parts p) → part_tree by p ≡ pat_marked_by m (part_tree at p)
  a_part (of_pat.Pat p) h = same_first h
  a_part (of_pat.Expr e) h =
      ap (λ t. node pat_expr (span_of t) (cons t nil)) (same_first h)
      ∙ ap (λ s. node pat_expr s (cons (marked_by m (at e.0)) nil)) (marked-place m (at e.0))

  an_elem : (p : PatElem) → Marked (pat_elem_part p) → pat_elem_of by p ≡ pat_marked_by m (pat_elem_of at p)
  an_elem (elem.Item p) h = a_part p h
  an_elem (elem.Rest s d p) h = ap (λ t. node rest s (cons (leaf dots d) (cons t nil))) (a_part p h)

  a_pat_prop : (p : PatPropNode) → Marked (pat_prop_parts p)
      → pat_prop_of fun_at class_at block_at by p ≡ pat_marked_by m (pat_prop_of fun_at class_at block_at at p)
  a_pat_prop (pat_prop.KeyValue s k v) h =
      ap (λ t. node key_value s (cons t (cons (part_tree by v) nil))) (key m at by k (front m at by (key_parts k)
      (part_parts v) h))
      ∙ ap (λ t. node key_value s (cons (marked_by m (key_at k)) (cons t nil))) (a_part v (back m at by
      (key_parts k) (part_parts v) h))
  a_pat_prop (pat_prop.Assign s k v) h =
      ap (λ t. node binding_prop s (cons (ident_tree k.id) (cons t nil)))
      (if_there m at by one_expr (λ (e : ExprId). by e.0) (λ (e : ExprId). at e.0) (one m at by) v h)
  a_pat_prop (pat_prop.Rest s d p) h = ap (λ t. node rest s (cons (leaf dots d) (cons t nil))) (a_part p h)

  abbrev now : Node F C K → Tree F C K
  now x = marked_tree fun_at class_at block_at by (marked_node m x)

  abbrev was : Node F C K → Tree F C K
  was x = marked_tree fun_at class_at block_at at x

  an_expr : (x : Node F C K) → Marked (slots x) → view_ok expr (form x) ≡ true → now x ≡ marked_by m (was x)
  an_expr (n.Array s elems comma) h e =
      ap (node (array_with (m s.lo.0)) s) (listed m at by (if_some item_parts) _ _
      (if_there m at by item_parts (item_tree (λ e. by e.0)) (item_tree (λ e. at e.0)) (an_item m at by)) elems.items h)
  an_expr (n.Object s props comma) h e = ap (node (object_with (m s.lo.0)) s)
      (listed m at by prop_parts _ _ a_prop props.items h)
  an_expr (n.Unary s op a) h e = ap (λ t. node (unary op) s (cons t nil)) (same_first h)
  an_expr (n.Update s op prefix a) h e = ap (λ t. node (update op prefix) s (cons t nil)) (same_first h)
  an_expr (n.Bin s op l r) h e =
      ap (λ t. node (bin op) s (cons t (cons (by r.0) nil))) (same_first h)
      ∙ ap (λ t. node (bin op) s (cons (marked_by m (at l.0)) (cons t nil))) (same_first (same_rest h))
  an_expr (n.Assign s op l r) h e =
      ap (λ t. node (assign op) s (cons t (cons (by r.0) nil))) (a_target l (front m at by (target_part l ∷ [])
      (one_expr r) h))
      ∙ ap (λ t. node (assign op) s (cons (target_marked_by m (target_of fun_at class_at block_at at l))
      (cons t nil))) (same_first (same_rest h))
  an_expr (n.Cond s t c a) h e =
      ap (λ v. node cond s (cons v (cons (by c.0) (cons (by a.0) nil)))) (same_first h)
      ∙ ap (λ v. node cond s (cons (marked_by m (at t.0)) (cons v (cons (by a.0) nil)))) (same_first (same_rest h))
      ∙ ap (λ v. node cond s (cons (marked_by m (at t.0)) (cons (marked_by m (at c.0)) (cons v nil)))) (same_first
      (same_rest (same_rest h)))
  an_expr (n.Seq s es) h e = ap (node seq s) (listed m at by one_expr (λ e. by e.0) (λ e. at e.0)
      (one m at by) es.items h)
  an_expr (n.Paren p) h e = ap (λ t. node paren p.span (cons t nil)) (same_first h)
  an_expr (n.Member x) h e =
      ap (λ t. node member x.span (cons t (cons (member_prop_tree (λ e. by e.0) x.prop) nil))) (same_first h)
      ∙ ap (λ t. node member x.span (cons (marked_by m (at x.obj.0)) (cons t nil))) (member_key m at by x.prop
      (same_rest h))
  an_expr (n.SuperProp p) h e = ap (λ t. node super_prop p.span (cons (leaf super p.obj.span) (cons t nil)))
      (super_key m at by p.prop h)
  an_expr (n.Call s c xs) h e =
      ap (λ t. node call s (cons t (item_trees (λ e. by e.0) xs.items))) (a_callee m at by c (front m at by
      (callee_parts c) (args_parts xs) h))
      ∙ ap (λ ts. node call s (cons (marked_by m (callee_tree (λ e. at e.0) c)) ts)) (items m at by xs.items
      (back m at by (callee_parts c) (args_parts xs) h))
  an_expr (n.New s c xs) h e =
      ap (λ t. node new s (cons t (cons (or_hole (args_tree (λ (e : ExprId). by e.0)) xs) nil))) (same_first h)
      ∙ ap (λ t. node new s (cons (marked_by m (at c.0)) (cons t nil))) (args_if m at by xs (same_rest h))
  an_expr (n.OptChain c) h e = ap (λ t. node (opt_chain c.optional) c.span (cons t nil)) (a_base m at by c.base.value h)
  an_expr (n.Tpl t) h e = a_tpl m at by t.value h
  an_expr (n.TaggedTpl s t q) h e =
      ap (λ v. node tagged s (cons v (cons (tpl_tree (λ e. by e.0) q.value) nil))) (same_first h)
      ∙ ap (λ v. node tagged s (cons (marked_by m (at t.0)) (cons v nil))) (a_tpl m at by q.value (same_rest h))
  an_expr (n.Arrow s ps b a) h e =
      ap (λ t. node (arrow a) s (cons t (trees (map (λ (p : PatId). by p.0) ps.items))))
      (a_body m at by block_at b.value (back m at by (flat one_pat ps.items) (body_parts b.value) h))
      ∙ ap (λ ts. node (arrow a) s (cons (marked_by m (body_tree block_at (λ e. at e.0) b.value)) ts))
      (listed-pats m at by one_pat (λ p. by p.0) (λ p. at p.0) (one_of m at by) ps.items (front m at by
      (flat one_pat ps.items) (body_parts b.value) h))
  an_expr (n.Await s a) h e = ap (λ t. node await s (cons t nil)) (same_first h)
  an_expr (n.Yield s a d) h e =
      ap (λ t. node (yield d) s (cons t nil)) (if_there m at by one_expr (λ (e : ExprId). by e.0) (λ
      (e : ExprId). at e.0) (one m at by) a h)
  an_expr (n.PatIdent b) h e = absurd cc
  an_expr (n.PatArray s elems) h e = absurd cc
  an_expr (n.PatObject s props) h e = absurd cc
  an_expr (n.PatRest s d p) h e = absurd cc
  an_expr (n.PatAssign s l r) h e = absurd cc
  an_expr (n.PatExpr i) h e = absurd cc
  an_expr (n.PatInvalid i) h e = absurd cc
  an_expr x h e = refl

  a_pat : (x : Node F C K) → Marked (slots x) → view_ok pat (form x) ≡ true → now x ≡ pat_marked_by m (was x)
  a_pat (n.PatIdent b) h e = refl
  a_pat (n.PatArray s elems) h e = ap (node array s) (listed-pats m at by (if_some pat_elem_part) _ _
      (pat_if_there m at by pat_elem_part (pat_elem_of by) (pat_elem_of at) an_elem) elems.items h)
  a_pat (n.PatObject s props) h e = ap (node object s) (listed-pats m at by pat_prop_parts _ _ a_pat_prop props.items h)
  a_pat (n.PatRest s d p) h e = ap (λ t. node rest s (cons (leaf dots d) (cons t nil))) (same_first h)
  a_pat (n.PatAssign s l r) h e =
      ap (λ t. node default s (cons t (cons (by r.0) nil))) (a_part l (front m at by (part_parts l) (one_expr r) h))
      ∙ ap (λ t. node default s (cons (pat_marked_by m (part_tree at l)) (cons t nil)))
      (same_first (back m at by (part_parts l) (one_expr r) h))
  a_pat (n.PatExpr i) h e =
      ap (λ t. node pat_expr (span_of t) (cons t nil)) (same_first h)
      ∙ ap (λ s. node pat_expr s (cons (marked_by m (at i.0)) nil)) (marked-place m (at i.0))
  a_pat (n.PatInvalid i) h e = refl
  a_pat x h e = absurd cc

  simple-same : (x : Node F C K) → view_ok simple (form x) ≡ true → marked_by m (was x) ≡ target_marked_by m (was x)
  simple-same (n.Ident i) e = refl
  simple-same (n.Member x) e = refl
  simple-same (n.SuperProp p) e = refl
  simple-same (n.Paren p) e = refl
  simple-same (n.OptChain c) e = refl
  simple-same x e = absurd cc

  pattern-same : (x : Node F C K) → view_ok pattern (form x) ≡ true
      → pat_marked_by m (was x) ≡ target_marked_by m (was x)
  pattern-same (n.PatArray s elems) e = refl
  pattern-same (n.PatObject s props) e = refl
  pattern-same x e = absurd cc

  simple-expr : (f : Form) → view_ok simple f ≡ true → view_ok expr f ≡ true
  simple-expr target_expr e = refl
  simple-expr other_expr e = absurd cc
  simple-expr target_pat e = absurd cc
  simple-expr other_pat e = absurd cc

  pattern-pat : (f : Form) → view_ok pattern f ≡ true → view_ok pat f ≡ true
  pattern-pat target_pat e = refl
  pattern-pat other_pat e = absurd cc
  pattern-pat target_expr e = absurd cc
  pattern-pat other_expr e = absurd cc

  pub marked-node : (v : View) (x : Node F C K) → Marked (slots x) → view_ok v (form x) ≡ true
      → now x ≡ marked_as m v (was x)
  marked-node expr x h e = an_expr x h e
  marked-node pat x h e = a_pat x h e
  marked-node simple x h e = an_expr x h (simple-expr (form x) e) ∙ simple-same x e
  marked-node pattern x h e = a_pat x h (pattern-pat (form x) e) ∙ pattern-same x e

slots-same : {F C K : Type 0} (m : Marker) (x : Node F C K) → slots (marked_node m x) ≡ slots x
slots-same m (n.Array s elems comma) = refl
slots-same m (n.Object s props comma) = refl
slots-same m x = refl

form-same : {F C K : Type 0} (m : Marker) (x : Node F C K) → form (marked_node m x) ≡ form x
form-same m (n.Array s elems comma) = refl
form-same m (n.Object s props comma) = refl
form-same m x = refl

-- ---- seats of nodes, and of the nodes with marks

-- what holds of the items of two lists at each place, where one more was appended to both
pub more : {X : Type 0} (P : ℕ → X → X → Type 0) (xs ys : List X) (x y d : X) → length ys ≡ length xs
    → ((i : ℕ) → i < length xs → P i (slice_index_or xs i d) (slice_index_or ys i d)) → P (length xs) x y
    → ((i : ℕ) → length xs < i → P i d d)
    → (i : ℕ) → P i (slice_index_or (xs ++ x ∷ []) i d) (slice_index_or (ys ++ y ∷ []) i d)
more P xs ys x y d l below here past i = ⊎_elim
    (λ lt.
    subst (λ v. P i v (slice_index_or (ys ++ y ∷ []) i d)) (sym (get_or_append_left xs (x ∷ []) d i lt))
    (subst (λ v. P i (slice_index_or xs i d) v) (sym (get_or_append_left ys (y ∷ []) d i (omega arith))) (below i lt)))
    (λ ge. ⊎_elim
    (λ lt.
    let k = length-append xs (x ∷ []) in let j = length-append ys (y ∷ []) in
    subst (λ v. P i v (slice_index_or (ys ++ y ∷ []) i d)) (sym (get_or_past (xs ++ x ∷ []) i d (omega arith)))
    (subst (λ v. P i d v) (sym (get_or_past (ys ++ y ∷ []) i d (omega arith))) (past i lt)))
    (λ le.
    let e : length xs ≡ i = omega arith in
    let f : length ys ≡ i = omega arith in
    subst (λ v. P i v (slice_index_or (ys ++ y ∷ []) i d)) (sym (get_or_at xs x [] d i e))
    (subst (λ v. P i x v) (sym (get_or_at ys y [] d i f)) (subst (λ v. P v x y) e here)))
    (cases_lt (length xs) i))
    (cases_lt i (length xs))

module _ {F C K : Type 0} (fun_at : F → Span) (class_at : C → Span) (block_at : K → Span) (m : Marker) (k : ℕ) where
  abbrev after : List (Seat F C K) → List (Node F C K) → List (Seat F C K)
  after = seats_after fun_at class_at block_at

  abbrev seat_of : List (Seat F C K) → Node F C K → Seat F C K
  seat_of ss x = seat fun_at class_at block_at (found ss) (length ss) x

  -- the same is reached, by nodes of the same form, and what is reached from k on is marked
  record Twin (i size : ℕ) (s t : Seat F C K) : Type 0 where
    pub first : t.first ≡ s.first
    pub form : t.form ≡ s.form
    pub tree : (v : View) → k ≤ s.first → s.first ≤ i → i < size → view_ok v s.form ≡ true
        → t.tree ≡ marked_as m v s.tree

  record Twins (ss tt : List (Seat F C K)) : Type 0 where
    pub same : length tt ≡ length ss
    pub each : (i : ℕ) → Twin i (length ss) (found ss i) (found tt i)

  twin-fits : (ss tt : List (Seat F C K)) → Twins ss tt → (lo : ℕ) (p : Part) → fits (found ss) lo p ≡ true
      → fits (found tt) lo p ≡ true
  twin-fits ss tt w lo p h =
      let f = fitting (found ss) lo p h in
      let e = (w.each p.at).first in
      let a = f.above in let b = f.first in
      fits-of (found tt) lo p (record {
        above = omega arith;
        first = omega arith;
        view = ap (view_ok p.view) (w.each p.at).form ∙ f.view;
      })

  twin-chain : (ss tt : List (Seat F C K)) → Twins ss tt → (lo : ℕ) (ps : List Part) (hi : ℕ)
      → chain (found ss) lo ps hi ≡ true → chain (found tt) lo ps hi ≡ true
  twin-chain ss tt w lo [] hi h = h
  twin-chain ss tt w lo (p ∷ ps) hi h =
      let b = both_true h in true_both (twin-fits ss tt w lo p b.0) (twin-chain ss tt w (suc p.at) ps hi b.1)

  twin-floor : (ss tt : List (Seat F C K)) → Twins ss tt → (hi : ℕ) (ps : List Part)
      → floor (found tt) hi ps ≡ floor (found ss) hi ps
  twin-floor ss tt w hi [] = refl
  twin-floor ss tt w hi (p ∷ ps) = (w.each p.at).first

  -- parts that lie apart from k on are marked
  parts-marked : (ss tt : List (Seat F C K)) → Twins ss tt → (lo : ℕ) (ps : List Part) (hi : ℕ) → k ≤ lo
      → hi ≤ length ss
      → chain (found ss) lo ps hi ≡ true → AreMarked m (λ i. (found ss i).tree) (λ i. (found tt i).tree) ps
  parts-marked ss tt w lo [] hi a l h = refl
  parts-marked ss tt w lo (p ∷ ps) hi a l h =
      let b = both_true h in
      let f = fitting (found ss) lo p b.0 in
      let u = f.above in let v = f.first in
      let z = chain-bound (found ss) (suc p.at) ps hi b.1 in
      both_same ((w.each p.at).tree p.view (omega arith) f.first (omega arith) f.view)
      (parts-marked ss tt w (suc p.at) ps hi (omega arith) l b.1)

  from-floor : (at : ℕ → Seat F C K) (ps : List Part) (hi : ℕ) → chain at 0 ps hi ≡ true → k ≤ floor at hi ps
      → chain at k ps hi ≡ true
  from-floor at [] hi h a = le-leb k hi a
  from-floor at (p ∷ ps) hi h a =
      let b = both_true h in
      let f = fitting at 0 p b.0 in
      chain-cons at k p ps hi (record { above = a; first = f.first; view = f.view }) b.1

  new-twin : (ss tt : List (Seat F C K)) → Twins ss tt → (x : Node F C K)
      → chain (found ss) 0 (slots x) (length ss) ≡ true → (size : ℕ)
      → Twin (length ss) size (seat_of ss x) (seat_of tt (marked_node m x))
  new-twin ss tt w x h size = record {
    first =
        ap (floor (found tt) (length tt)) (slots-same m x) ∙ ap (λ v. floor (found tt) v (slots x)) w.same
        ∙ twin-floor ss tt w (length ss) (slots x);
    form = form-same m x;
    tree = λ v above first within ok.
        marked-node fun_at class_at block_at m (λ i. (found ss i).tree) (λ i. (found tt i).tree) v x
        (parts-marked ss tt w k (slots x) (length ss) (let le : k ≤ k = omega arith in
        le) (let le : length ss ≤ length ss = omega arith in le)
        (from-floor (found ss) (slots x) (length ss) h above)) ok;
  }

  wider : {i size : ℕ} {s t : Seat F C K} → i < size → (more : ℕ) → Twin i size s t → Twin i more s t
  wider lt more w = record {
    first = w.first;
    form = w.form;
    tree = λ v above first within ok. w.tree v above first lt ok;
  }

  twins-more : (ss tt : List (Seat F C K)) → Twins ss tt → (x : Node F C K)
      → chain (found ss) 0 (slots x) (length ss) ≡ true
      → Twins (ss ++ seat_of ss x ∷ []) (tt ++ seat_of tt (marked_node m x) ∷ [])
  twins-more ss tt w x h =
      let a = length-append ss (seat_of ss x ∷ []) in
      let b = length-append tt (seat_of tt (marked_node m x) ∷ []) in
      let same = w.same in
      let size = length (ss ++ seat_of ss x ∷ []) in
      record {
        same = omega arith;
        each = more (λ i s t. Twin i size s t) ss tt (seat_of ss x) (seat_of tt (marked_node m x)) no_seat w.same
            (λ i lt. wider lt size (w.each i)) (new-twin ss tt w x h size)
            (λ i lt. record {
              first = refl;
              form = refl;
              tree = λ v above first within ok. let z = lt in
                  absurd (omega arith);
            });
      }

  twins-after : (ss tt : List (Seat F C K)) (xs : List (Node F C K)) → Twins ss tt
      → ordered fun_at class_at block_at ss xs ≡ true → Twins (after ss xs) (after tt (map (marked_node m) xs))
      × (ordered fun_at class_at block_at tt (map (marked_node m) xs) ≡ true)
  twins-after ss tt [] w o = (w, refl)
  twins-after ss tt (x ∷ xs) w o =
      let b = both_true o in
      let next = twins-after (ss ++ seat_of ss x ∷ []) (tt ++ seat_of tt (marked_node m x) ∷ []) xs
      (twins-more ss tt w x b.0) b.1 in
      let parts : chain (found tt) 0 (slots (marked_node m x)) (length tt) ≡ true =
      ap (λ v. chain (found tt) 0 v (length tt)) (slots-same m x) ∙ ap (chain (found tt) 0 (slots x)) w.same
      ∙ twin-chain ss tt w 0 (slots x) (length ss) b.0 in
      (next.0, true_both parts next.1)

  -- nothing is marked below k
  twins-start : (ss : List (Seat F C K)) → length ss ≤ k → Twins ss ss
  twins-start ss l = record {
    same = refl;
    each = λ i. record {
      first = refl;
      form = refl;
      tree = λ v above first within ok. let z = l in
          absurd (omega arith);
    };
  }

  front-few : (xs : List (Node F C K)) → length (take k xs) ≤ k
  front-few xs = ⊎_elim
      (λ lt. let a = ap length (take-append-drop k xs) in let b = length-append (take k xs) (drop k xs) in omega arith)
      (λ le. let a = length-take-le k xs le in omega arith)
      (cases_lt (length xs) k)

  split-twins : (xs ys : List (Node F C K)) → ys ≡ marked_from m k xs → ordered fun_at class_at block_at [] xs ≡ true
      → Twins (after [] xs) (after [] ys) × (ordered fun_at class_at block_at [] ys ≡ true)
  split-twins xs ys e o =
      let whole = take-append-drop k xs in
      let front = after [] (take k xs) in
      let back = map (marked_node m) (drop k xs) in
      let few = front-few xs in
      let l = after_length fun_at class_at block_at [] (take k xs) in
      let o1 : ordered fun_at class_at block_at [] (take k xs ++ drop k xs)
      ≡ true = ap (ordered fun_at class_at block_at []) whole ∙ o in
      let w = twins-after front front (drop k xs) (twins-start front (omega arith))
      (ordered_back fun_at class_at block_at [] (take k xs) (drop k xs) o1) in
      let old : after [] xs ≡ after front (drop k xs) = ap (after []) (sym whole)
      ∙ after_append fun_at class_at block_at [] (take k xs) (drop k xs) in
      let new : after [] ys ≡ after front back = ap (after []) e
      ∙ after_append fun_at class_at block_at [] (take k xs) back in (
        subst (λ v. Twins v (after [] ys)) (sym old) (subst (λ v. Twins (after front (drop k xs)) v) (sym new) w.0),
        ap (ordered fun_at class_at block_at []) e
            ∙ ordered_both fun_at class_at block_at [] (take k xs) back (ordered_front fun_at class_at block_at []
            (take k xs) (drop k xs) o1) w.1,
      )

  -- what is reached from each number is what it was
  pub marked_firsts : (xs ys : List (Node F C K)) → ys ≡ marked_from m k xs →
      ordered fun_at class_at block_at [] xs ≡ true → (i : ℕ) →
      (found (seats_after fun_at class_at block_at [] ys) i).first
      ≡ (found (seats_after fun_at class_at block_at [] xs) i).first
  marked_firsts xs ys e o i = ((split-twins xs ys e o).0.each i).first

kept-front : {X : Type 0} (f : X → X) (k : ℕ) (xs : List X) → take k (take k xs ++ map f (drop k xs)) ≡ take k xs
kept-front f k xs = ⊎_elim
    (λ lt.
    ap (λ v. take k (take k xs ++ map f v)) (drop_all k xs (omega arith)) ∙ ap (take k) (append-nil (take k xs))
    ∙ take-take k k xs (let le : k ≤ k = omega arith in le))
    (λ le. take_at (take k xs) (map f (drop k xs)) k (length-take-le k xs le))
    (cases_lt (length xs) k)

pub same-length : {X : Type 0} (f : X → X) (k : ℕ) (xs : List X) → length (take k xs ++ map f (drop k xs)) ≡ length xs
same-length f k xs =
    let a = length-append (take k xs) (map f (drop k xs)) in
    let b = length-map (drop k xs) f in
    let c = length-append (take k xs) (drop k xs) in
    let d = ap length (take-append-drop k xs) in
    omega arith

module _ {F C K : Type 0} {fg : Ghosts F} {cg : Ghosts C} {kg : Ghosts K} (m : Marker) (k : ℕ) where
  pub marked_ordered : (ns : Nodes F C K fg cg kg) (ys : List (Node F C K)) → ys ≡ marked_from m k ns.nodes.items
      → ordered fg.place cg.place kg.place [] ys ≡ true
  marked_ordered ns ys e = (split-twins fg.place cg.place kg.place m k ns.nodes.items ys e ns.in_order).1

  pub marks : (ns ms : Nodes F C K fg cg kg) → ms.nodes.items ≡ marked_from m k ns.nodes.items → Marks m k ns ms
  unfolding seat_at
  marks ns ms e =
      let w = (split-twins fg.place cg.place kg.place m k ns.nodes.items ms.nodes.items e ns.in_order).0 in
      let l = after_length fg.place cg.place kg.place [] ns.nodes.items in
      record {
        kept = ap (take k) e ∙ kept-front (marked_node m) k ns.nodes.items;
        counted = ap length e ∙ same-length (marked_node m) k ns.nodes.items;
        firsts = λ i. (w.each i).first;
        forms = λ i. (w.each i).form;
        stands = λ p f. let lt = f.within in (w.each p.at).tree p.view f.above f.first (omega arith) f.view;
      }

-- ---- the loop

-- marking what is left gives all that is to be marked
pub record Marking {F C K : Type 0} (m : Marker) (from i : ℕ) (old now : List (Node F C K)) : Type 0 where
  pub left : marked_from m i now ≡ marked_from m from old
  pub counted : length now ≡ length old

-- ---- parts of nodes that were marked

module _ {F C K : Type 0} {fg : Ghosts F} {cg : Ghosts C} {kg : Ghosts K} {m : Marker} {k : ℕ}
    {ns ms : Nodes F C K fg cg kg} (w : Marks m k ns ms) where
  pub marks-from : {j : ℕ} {p : Part} → From j ns p → From j ms p
  marks-from {j} {p} f =
      let a = f.within in let b = f.above in let c = f.first in
      let d = w.counted in let e = w.firsts p.at in
      record {
        within = omega arith;
        above = omega arith;
        first = omega arith;
        view = ap (view_ok p.view) (w.forms p.at) ∙ f.view;
      }

  marks-chain : (lo : ℕ) (ps : List Part) (hi : ℕ) → chain (seat_at ns) lo ps hi ≡ true
      → chain (seat_at ms) lo ps hi ≡ true
  marks-chain lo [] hi h = h
  marks-chain lo (p ∷ ps) hi h =
      let b = both_true h in
      let f = fitting (seat_at ns) lo p b.0 in
      let a = f.above in let c = f.first in let e = w.firsts p.at in
      chain-cons (seat_at ms) lo p ps hi
      (record { above = omega arith; first = omega arith; view = ap (view_ok p.view) (w.forms p.at) ∙ f.view })
      (marks-chain (suc p.at) ps hi b.1)

  pub marks-apart : {j : ℕ} {ps : List Part} → Apart j ns ps → Apart j ms ps
  marks-apart {j} {ps} a = record {
    chained = ap (chain (seat_at ms) j ps) w.counted ∙ marks-chain j ps (count ns) a.chained;
  }

  chain-marked : (lo : ℕ) (ps : List Part) → k ≤ lo → chain (seat_at ns) lo ps (count ns) ≡ true
      → AreMarked m (tree_at ns) (tree_at ms) ps
  chain-marked lo [] le h = refl
  chain-marked lo (p ∷ ps) le h =
      let b = both_true h in
      let f = fitting (seat_at ns) lo p b.0 in
      let u = f.above in let v = f.first in
      let z = chain-bound (seat_at ns) (suc p.at) ps (count ns) b.1 in
      both_same (w.stands p (record { within = omega arith; above = omega arith; first = f.first; view = f.view }))
      (chain-marked (suc p.at) ps (omega arith) b.1)

  pub apart-marked : {ps : List Part} → Apart k ns ps → AreMarked m (tree_at ns) (tree_at ms) ps
  apart-marked {ps} a = chain-marked k ps (let le : k ≤ k = omega arith in le) a.chained

-- ---- a tree without its marks, whatever these are

module _ {F C K : Type 0} (m : Marker) where
  mutual
    pub unmarked-marked : (t : Tree F C K) → unmarked (marked_by m t) ≡ unmarked t
    unmarked-marked (node (args_with c) s ts) = ap (node args s) (all-unmarked-marked ts)
    unmarked-marked (node (array_with c) s ts) = ap (node array s) (all-unmarked-marked ts)
    unmarked-marked (node (object_with c) s ts) = ap (node object s) (all-unmarked-marked ts)
    unmarked-marked (node (assign op) s (cons l ts)) =
        ap (λ t. node (assign op) s (cons t (all_unmarked (all_marked_by m ts)))) (unmarked-target l)
        ∙ ap (λ us. node (assign op) s (cons (unmarked l) us)) (all-unmarked-marked ts)
    unmarked-marked (node (arrow a) s (cons b ts)) =
        ap (λ t. node (arrow a) s (cons t (all_unmarked (pats_marked_by m ts)))) (unmarked-marked b)
        ∙ ap (λ us. node (arrow a) s (cons (unmarked b) us)) (unmarked-pats ts)
    unmarked-marked (node param s ts) = ap (node param s) (unmarked-pats ts)
    unmarked-marked (node setter s (cons k (cons p ts))) =
        ap (λ t. node setter s (cons t (cons (unmarked (pat_marked_by m p)) (all_unmarked (all_marked_by m ts)))))
        (unmarked-marked k)
        ∙ ap (λ t. node setter s (cons (unmarked k) (cons t (all_unmarked (all_marked_by m ts))))) (unmarked-pat p)
        ∙ ap (λ us. node setter s (cons (unmarked k) (cons (unmarked p) us))) (all-unmarked-marked ts)
    unmarked-marked (node k s ts) = ap (node k s) (all-unmarked-marked ts)

    pub all-unmarked-marked : (ts : Trees F C K) → all_unmarked (all_marked_by m ts) ≡ all_unmarked ts
    all-unmarked-marked nil = refl
    all-unmarked-marked (cons t ts) =
        ap (λ v. cons v (all_unmarked (all_marked_by m ts))) (unmarked-marked t)
        ∙ ap (cons (unmarked t)) (all-unmarked-marked ts)

    unmarked-target : (t : Tree F C K) → unmarked (target_marked_by m t) ≡ unmarked t
    unmarked-target (node (args_with c) s ts) = ap (node args s) (all-unmarked-marked ts)
    unmarked-target (node (array_with c) s ts) = ap (node array s) (unmarked-pats ts)
    unmarked-target (node (object_with c) s ts) = ap (node object s) (unmarked-pats ts)
    unmarked-target (node k s ts) = ap (node k s) (all-unmarked-marked ts)

    unmarked-pat : (t : Tree F C K) → unmarked (pat_marked_by m t) ≡ unmarked t
    unmarked-pat (node (args_with c) s ts) = ap (node args s) (unmarked-pats ts)
    unmarked-pat (node (array_with c) s ts) = ap (node array s) (unmarked-pats ts)
    unmarked-pat (node (object_with c) s ts) = ap (node object s) (unmarked-pats ts)
    unmarked-pat (node pat_expr s ts) = ap (node pat_expr s) (all-unmarked-marked ts)
    unmarked-pat (node default s (cons l ts)) =
        ap (λ t. node default s (cons t (all_unmarked (all_marked_by m ts)))) (unmarked-pat l)
        ∙ ap (λ us. node default s (cons (unmarked l) us)) (all-unmarked-marked ts)
    unmarked-pat (node key_value s (cons k ts)) =
        ap (λ t. node key_value s (cons t (all_unmarked (pats_marked_by m ts)))) (unmarked-marked k)
        ∙ ap (λ us. node key_value s (cons (unmarked k) us)) (unmarked-pats ts)
    unmarked-pat (node binding_prop s ts) = ap (node binding_prop s) (all-unmarked-marked ts)
    unmarked-pat (node k s ts) = ap (node k s) (unmarked-pats ts)

    unmarked-pats : (ts : Trees F C K) → all_unmarked (pats_marked_by m ts) ≡ all_unmarked ts
    unmarked-pats nil = refl
    unmarked-pats (cons t ts) =
        ap (λ v. cons v (all_unmarked (pats_marked_by m ts))) (unmarked-pat t)
        ∙ ap (cons (unmarked t)) (unmarked-pats ts)
