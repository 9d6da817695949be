-- The tree of a node depends only on what its parts stand for.
use Rattle.std.proofs.Common.{◌≡◌, ℕ, List, [], ◌∷◌, ◌++◌, map, Option, Some, None, refl, ap, ◌∙◌}
use Rattle.std.specs.{declared.alloc.Global.Global, declared.vec.Vec.Vec}
use Rattle.swc_context.specs.declared.span.Span.{Span}
use Rattle.swc_ast.specs.Parts.{or_hole, item_of, item_tree, args_tree, prop_name_tree, member_prop_tree, super_part_tree, base_tree, callee_tree, tpl_tree, body_tree, param_tree, function_tree, leaf}
use Rattle.swc_ast.specs.Tree.{Tree, node, nil, cons, trees, no_span, args, array, array_with, object, object_with, seq, param, computed, pat_expr, rest, dots, span_of}
use Rattle.swc_ast.specs.{declared.expr.BlockStmtOrExpr.BlockStmtOrExpr, declared.expr.BlockStmtOrExpr.BlockStmtOrExpr as body, declared.expr.Callee.Callee, declared.expr.Callee.Callee as callee, declared.expr.ExprOrSpread.ExprOrSpread, declared.expr.MemberProp.MemberProp, declared.expr.MemberProp.MemberProp as member_prop, declared.expr.OptChainBase.OptChainBase, declared.expr.OptChainBase.OptChainBase as base, declared.expr.SuperProp.SuperProp, declared.expr.SuperProp.SuperProp as super_part, declared.expr.Tpl.Tpl, declared.function.Function.Function, declared.function.Param.Param, declared.prop.PropName.PropName, declared.prop.PropName.PropName as prop_name}
use Rattle.swc_nodes.specs.NodeTree.{target_of, prop_of, pat_prop_of, marked_tree, part_tree, pat_elem_of}
use Rattle.swc_nodes.specs.NodeParts.{Part, flat, if_some, one_expr, one_pat, target_part, item_parts, args_parts, key_parts, member_parts, super_parts, callee_parts, base_parts, body_parts, param_parts, prop_parts, pat_prop_parts, slots, part_parts, pat_elem_part}
use Rattle.swc_nodes.specs.{declared.node.ExprId.ExprId, declared.node.PatId.PatId, declared.node.Node.Node, declared.node.Node.Node as n, declared.node.PatPropNode.PatPropNode, declared.node.PatPropNode.PatPropNode as pat_prop, declared.node.PropNode.PropNode, declared.node.PropNode.PropNode as prop, declared.node.TargetNode.TargetNode, declared.node.TargetNode.TargetNode as target, declared.node.PatElem.PatElem, declared.node.PatElem.PatElem as elem, declared.node.PatPart.PatPart, declared.node.PatPart.PatPart as of_pat}

-- what is given for each part is the same
abbrev pub Same : {F C K : Type 0} → (ℕ → Tree F C K) → (ℕ → Tree F C K) → List Part → Type 0
Same at by [] = Unit {0}
Same at by (p ∷ ps) = (at p.at ≡ by p.at) × Same at by ps

module _ {F C K : Type 0} where
  pub same-first : (at by : ℕ → Tree F C K) (ps qs : List Part) → Same at by (ps ++ qs) → Same at by ps
  same-first at by [] qs h = tt
  same-first at by (p ∷ ps) qs h = (h.0, same-first at by ps qs h.1)

  pub same-second : (at by : ℕ → Tree F C K) (ps qs : List Part) → Same at by (ps ++ qs) → Same at by qs
  same-second at by [] qs h = h
  same-second at by (p ∷ ps) qs h = same-second at by ps qs h.1

  two : {s t u v : Tree F C K} → s ≡ u → t ≡ v → cons s (cons t nil) ≡ cons u (cons v nil)
  two {t = t} {u = u} e f = ap (λ w. cons w (cons t nil)) e ∙ ap (λ w. cons u (cons w nil)) f

  headed : {s t : Tree F C K} {us vs : List (Tree F C K)} → s ≡ t → us ≡ vs → cons s (trees us) ≡ cons t (trees vs)
  headed {t = t} {us = us} e f = ap (λ w. cons w (trees us)) e ∙ ap (λ w. cons t (trees w)) f

  module _ (at by : ℕ → Tree F C K) where
    -- lists
    pub list-along : {X : Type 0} (parts : X → List Part) (f g : X → Tree F C K) →
        ((x : X) → Same at by (parts x) → f x ≡ g x) → (xs : List X) → Same at by (flat parts xs) → map f xs ≡ map g xs
    list-along parts f g same [] h = refl
    list-along parts f g same (x ∷ xs) h =
        ap (λ v. v ∷ map f xs) (same x (same-first at by (parts x) (flat parts xs) h))
        ∙ ap (λ v. g x ∷ v) (list-along parts f g same xs (same-second at by (parts x) (flat parts xs) h))

    pub if-along : {X : Type 0} (parts : X → List Part) (f g : X → Tree F C K) →
        ((x : X) → Same at by (parts x) → f x ≡ g x) → (o : Option X) → Same at by (if_some parts o) →
        or_hole f o ≡ or_hole g o
    if-along parts f g same None h = refl
    if-along parts f g same (Some x) h = same x h

    abbrev ats : ExprId → Tree F C K
    ats e = at e.0

    abbrev bys : ExprId → Tree F C K
    bys e = by e.0

    abbrev at_pat : PatId → Tree F C K
    at_pat e = at e.0

    abbrev by_pat : PatId → Tree F C K
    by_pat e = by e.0

    expr-along : (e : ExprId) → Same at by (one_expr e) → ats e ≡ bys e
    expr-along e h = h.0

    pat-along : (e : PatId) → Same at by (one_pat e) → at_pat e ≡ by_pat e
    pat-along e h = h.0

    part-along : (p : PatPart) → Same at by (part_parts p) → part_tree at p ≡ part_tree by p
    part-along (of_pat.Pat p) h = h.0
    part-along (of_pat.Expr e) h = ap (λ t. node pat_expr (span_of t) (cons t nil)) h.0

    elem-along : (p : PatElem) → Same at by (pat_elem_part p) → pat_elem_of at p ≡ pat_elem_of by p
    elem-along (elem.Item p) h = part-along p h
    elem-along (elem.Rest s d p) h = ap (λ t. node rest s (cons (leaf dots d) (cons t nil))) (part-along p h)

    item-of-along : (o : Option Span) (s t : Tree F C K) → s ≡ t → item_of o s ≡ item_of o t
    item-of-along None s t e = ap (item_of None) e
    item-of-along (Some d) s t e = ap (item_of (Some d)) e

    pub item-along : (x : ExprOrSpread ExprId) → Same at by (item_parts x) → item_tree ats x ≡ item_tree bys x
    item-along x h = item-of-along x.spread (ats x.expr) (bys x.expr) h.0

    items-along : (xs : List (ExprOrSpread ExprId)) → Same at by (flat item_parts xs) →
        map (item_tree ats) xs ≡ map (item_tree bys) xs
    items-along xs h = list-along item_parts (item_tree ats) (item_tree bys) item-along xs h

    args-along : (xs : Vec (ExprOrSpread ExprId) Global) → Same at by (args_parts xs) →
        args_tree ats xs ≡ args_tree bys xs
    args-along xs h = ap (λ v. node args no_span (trees v)) (items-along xs.items h)

    pub key-along : (k : PropName ExprId) → Same at by (key_parts k) → prop_name_tree ats k ≡ prop_name_tree bys k
    key-along (prop_name.Computed c) h = ap (λ v. node computed c.span (cons v nil)) h.0
    key-along k h = refl

    member-along : (p : MemberProp ExprId) → Same at by (member_parts p) →
        member_prop_tree ats p ≡ member_prop_tree bys p
    member-along (member_prop.Computed c) h = ap (λ v. node computed c.span (cons v nil)) h.0
    member-along p h = refl

    super-along : (p : SuperProp ExprId) → Same at by (super_parts p) → super_part_tree ats p ≡ super_part_tree bys p
    super-along (super_part.Computed c) h = ap (λ v. node computed c.span (cons v nil)) h.0
    super-along p h = refl

    base-along : (b : OptChainBase ExprId) → Same at by (base_parts b) → base_tree ats b ≡ base_tree bys b
    base-along (base.Member m) h = rw (h.0, member-along m.prop h.1) refl
    base-along (base.Call c) h = rw (h.0, items-along c.args.items h.1) refl

    callee-along : (c : Callee ExprId) → Same at by (callee_parts c) → callee_tree ats c ≡ callee_tree bys c
    callee-along (callee.Expr e) h = h.0
    callee-along c h = refl

    exprs-along : (es : List ExprId) → Same at by (flat one_expr es) → map ats es ≡ map bys es
    exprs-along es h = list-along one_expr ats bys expr-along es h

    tpl-along : (t : Tpl ExprId) → Same at by (flat one_expr t.exprs.items) → tpl_tree ats t ≡ tpl_tree bys t
    tpl-along t h = rw (exprs-along t.exprs.items h) refl

    body-along : (block_at : K → Span) (b : BlockStmtOrExpr ExprId K) → Same at by (body_parts b) →
        body_tree block_at ats b ≡ body_tree block_at bys b
    body-along block_at (body.BlockStmt k) h = refl
    body-along block_at (body.Expr e) h = h.0

    pats-along : (ps : List PatId) → Same at by (flat one_pat ps) → map at_pat ps ≡ map by_pat ps
    pats-along ps h = list-along one_pat at_pat by_pat pat-along ps h

    param-along : (p : Param PatId) → Same at by (param_parts p) → param_tree at_pat p ≡ param_tree by_pat p
    param-along p h = ap (λ v. node param p.span (cons v nil)) h.0

    params-along : (ps : List (Param PatId)) → Same at by (flat param_parts ps) →
        map (param_tree at_pat) ps ≡ map (param_tree by_pat) ps
    params-along ps h = list-along param_parts (param_tree at_pat) (param_tree by_pat) param-along ps h

    function-along : (block_at : K → Span) (x : Function PatId K) → Same at by (flat param_parts x.params.items) →
        function_tree block_at at_pat x ≡ function_tree block_at by_pat x
    function-along block_at x h = rw (params-along x.params.items h) refl

    module _ (fun_at : F → Span) (class_at : C → Span) (block_at : K → Span) where
      target-along : (t : TargetNode) → at (target_part t).at ≡ by (target_part t).at →
          target_of fun_at class_at block_at at t ≡ target_of fun_at class_at block_at by t
      target-along (target.Simple e) h = h
      target-along (target.Pat p) h = h

      prop-along : (p : PropNode K) → Same at by (prop_parts p) →
          prop_of fun_at class_at block_at at p ≡ prop_of fun_at class_at block_at by p
      prop-along (prop.Spread s) h = rw h.0 refl
      prop-along (prop.Shorthand i) h = refl
      prop-along (prop.KeyValue s k v) h =
          let e = same-second at by (key_parts k) (one_expr v) h in
          rw (key-along k (same-first at by (key_parts k) (one_expr v) h), e.0) refl
      prop-along (prop.Assign p) h = rw h.0 refl
      prop-along (prop.Method k f) h =
          rw (
            key-along k (same-first at by (key_parts k) (flat param_parts f.params.items) h),
            function-along block_at f (same-second at by (key_parts k) (flat param_parts f.params.items) h),
          ) refl
      prop-along (prop.Getter s k b) h = rw (key-along k h) refl
      prop-along (prop.Setter s k p b) h =
          let e = same-second at by (key_parts k) (one_pat p) h in
          rw (key-along k (same-first at by (key_parts k) (one_pat p) h), e.0) refl

      pat-prop-along : (p : PatPropNode) → Same at by (pat_prop_parts p) →
          pat_prop_of fun_at class_at block_at at p ≡ pat_prop_of fun_at class_at block_at by p
      pat-prop-along (pat_prop.KeyValue s k v) h =
          rw (
            key-along k (same-first at by (key_parts k) (part_parts v) h),
            part-along v (same-second at by (key_parts k) (part_parts v) h),
          ) refl
      pat-prop-along (pat_prop.Assign s k v) h = rw (if-along one_expr ats bys expr-along v h) refl
      pat-prop-along (pat_prop.Rest s d p) h = rw (part-along p h) refl

      pub node-along : (x : Node F C K) → Same at by (slots x) →
          marked_tree fun_at class_at block_at at x ≡ marked_tree fun_at class_at block_at by x
      node-along (n.Array s elems comma) h =
          ap (λ v. node (array_with comma) s (trees v)) (list-along (if_some item_parts) (or_hole (item_tree ats))
          (or_hole (item_tree bys)) (if-along item_parts (item_tree ats) (item_tree bys) item-along) elems.items h)
      node-along (n.Object s props comma) h = ap (λ v. node (object_with comma) s (trees v))
          (list-along prop_parts _ _ prop-along props.items h)
      node-along (n.Unary s op a) h = rw h.0 refl
      node-along (n.Update s op prefix a) h = rw h.0 refl
      node-along (n.Bin s op l r) h = rw (h.0, h.1.0) refl
      node-along (n.Assign s op l r) h = rw (target-along l h.0, h.1.0) refl
      node-along (n.Cond s t c a) h = rw (h.0, h.1.0, h.1.1.0) refl
      node-along (n.Seq s es) h = ap (λ v. node seq s (trees v)) (exprs-along es.items h)
      node-along (n.Paren p) h = rw h.0 refl
      node-along (n.Member m) h = rw (h.0, member-along m.prop h.1) refl
      node-along (n.SuperProp p) h = rw (super-along p.prop h) refl
      node-along (n.Call s c xs) h =
          rw (
            callee-along c (same-first at by (callee_parts c) (args_parts xs) h),
            items-along xs.items (same-second at by (callee_parts c) (args_parts xs) h),
          ) refl
      node-along (n.New s c xs) h = rw (h.0, if-along args_parts (args_tree ats) (args_tree bys) args-along xs h.1) refl
      node-along (n.OptChain c) h = rw (base-along c.base.value h) refl
      node-along (n.Tpl t) h = tpl-along t.value h
      node-along (n.TaggedTpl s t q) h = rw (h.0, tpl-along q.value h.1) refl
      node-along (n.Arrow s ps b a) h =
          rw (
            body-along block_at b.value (same-second at by (flat one_pat ps.items) (body_parts b.value) h),
            pats-along ps.items (same-first at by (flat one_pat ps.items) (body_parts b.value) h),
          ) refl
      node-along (n.Await s a) h = rw h.0 refl
      node-along (n.Yield s a d) h = rw (if-along one_expr ats bys expr-along a h) refl
      node-along (n.PatArray s elems) h =
          ap (λ v. node array s (trees v)) (list-along (if_some pat_elem_part) (or_hole (pat_elem_of at))
          (or_hole (pat_elem_of by)) (if-along pat_elem_part (pat_elem_of at) (pat_elem_of by) elem-along)
          elems.items h)
      node-along (n.PatObject s props) h = ap (λ v. node object s (trees v))
          (list-along pat_prop_parts _ _ pat-prop-along props.items h)
      node-along (n.PatRest s d p) h = rw h.0 refl
      node-along (n.PatAssign s l r) h =
          let e = same-second at by (part_parts l) (one_expr r) h in
          rw (part-along l (same-first at by (part_parts l) (one_expr r) h), e.0) refl
      node-along (n.PatExpr e) h = rw h.0 refl
      node-along x h = refl
