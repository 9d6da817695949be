-- The trees of a node's parts weigh less than its own.
use Rattle.std.proofs.Common.{◌≡◌, ℕ, ◌+◌, ◌<◌, ◌≤◌, List, [], ◌∷◌, ◌++◌, map, Option, Some, None, arith}
use Rattle.std.specs.{declared.alloc.Global.Global, declared.vec.Vec.Vec}
use Rattle.swc_context.specs.declared.span.Span.{Span}
use Rattle.swc_ast.specs.Parts.{or_hole, prop_name_tree, item_tree, item_trees, args_tree, member_prop_tree, super_part_tree, base_tree, callee_tree, quasi_tree, tpl_tree, body_tree, param_tree, function_tree}
use Rattle.swc_ast.specs.{declared.expr.BlockStmtOrExpr.BlockStmtOrExpr, declared.expr.BlockStmtOrExpr.BlockStmtOrExpr as body, declared.expr.Callee.Callee, declared.expr.Callee.Callee as callee, declared.expr.ExprOrSpread.ExprOrSpread, declared.expr.MemberProp.MemberProp, declared.expr.MemberProp.MemberProp as member_prop, declared.expr.OptChainBase.OptChainBase, declared.expr.OptChainBase.OptChainBase as base, declared.expr.SuperProp.SuperProp, declared.expr.SuperProp.SuperProp as super_part, declared.expr.Tpl.Tpl, declared.function.Function.Function, declared.function.Param.Param, declared.prop.PropName.PropName, declared.prop.PropName.PropName as prop_name, Tree.Tree}
use Rattle.swc_nodes.specs.NodeTree.{expr_of, pat_of, target_of, prop_of, pat_prop_of, marked_tree, part_tree, pat_elem_of}
use Rattle.swc_nodes.specs.NodeParts.{Part, flat, one_expr, one_pat, target_part, if_some, item_parts, args_parts, key_parts, member_parts, super_parts, callee_parts, base_parts, body_parts, param_parts, prop_parts, pat_prop_parts, slots, part_parts, pat_elem_part}
use Rattle.swc_nodes.specs.{declared.node.ExprId.ExprId, declared.node.PatId.PatId, declared.node.Node.Node, declared.node.Node.Node as n, declared.node.PatPropNode.PatPropNode, declared.node.PatPropNode.PatPropNode as pat_prop, declared.node.PropNode.PropNode, declared.node.PropNode.PropNode as prop, declared.node.TargetNode.TargetNode, declared.node.TargetNode.TargetNode as target, declared.node.PatElem.PatElem, declared.node.PatElem.PatElem as elem, declared.node.PatPart.PatPart, declared.node.PatPart.PatPart as of_pat}
use Rattle.swc_trees.proofs.Weights.{weight, weight_all, weight_of, weight-item-of, weight-behind}

-- what the trees given for parts weigh together
abbrev pub weights : {F C K : Type 0} → (ℕ → Tree F C K) → List Part → ℕ
weights at [] = 0
weights at (p ∷ ps) = weight (at p.at) + weights at ps

pub weights-append : {F C K : Type 0} (at : ℕ → Tree F C K) (ps qs : List Part)
    → weights at (ps ++ qs) ≡ weights at ps + weights at qs
weights-append at [] qs = omega arith
weights-append at (p ∷ ps) qs = let w = weights-append at ps qs in omega arith

-- lists, and what may be there, where it holds of each that is
weights-flat : {F C K X : Type 0} (at : ℕ → Tree F C K) (parts : X → List Part) (tree : X → Tree F C K)
    → ((x : X) → weights at (parts x) ≤ weight (tree x)) → (xs : List X)
    → weights at (flat parts xs) ≤ weight_of tree xs
weights-flat at parts tree h [] = omega arith
weights-flat at parts tree h (x ∷ xs) =
    let a = weights-append at (parts x) (flat parts xs) in
    let b = h x in
    let c = weights-flat at parts tree h xs in
    omega arith

weights-some : {F C K X : Type 0} (at : ℕ → Tree F C K) (parts : X → List Part) (tree : X → Tree F C K)
    → ((x : X) → weights at (parts x) ≤ weight (tree x)) → (o : Option X)
    → weights at (if_some parts o) ≤ weight (or_hole tree o)
weights-some at parts tree h None = omega arith
weights-some at parts tree h (Some x) = h x

module _ {F C K : Type 0} (fun_at : F → Span) (class_at : C → Span) (block_at : K → Span) (at : ℕ → Tree F C K) where
  -- ---- the pieces

  expr-lighter : (e : ExprId) → weights at (one_expr e) ≤ weight (expr_of fun_at class_at block_at at e)
  expr-lighter e = omega arith

  pat-lighter : (p : PatId) → weights at (one_pat p) ≤ weight (pat_of fun_at class_at block_at at p)
  pat-lighter p = omega arith

  target-lighter : (t : TargetNode) → weights at (target_part t ∷ []) ≤ weight (target_of fun_at class_at block_at at t)
  target-lighter (target.Simple e) = omega arith
  target-lighter (target.Pat p) = omega arith

  item-lighter : (x : ExprOrSpread ExprId) → weights at (item_parts x) ≤ weight
      (item_tree (expr_of fun_at class_at block_at at) x)
  item-lighter x = let w = weight-item-of x.spread (at x.expr.0) in omega arith

  items-lighter : (xs : List (ExprOrSpread ExprId)) → weights at (flat item_parts xs) ≤ weight_all
      (item_trees (expr_of fun_at class_at block_at at) xs)
  items-lighter xs = weights-flat at item_parts (item_tree (expr_of fun_at class_at block_at at)) item-lighter xs

  args-lighter : (xs : Vec (ExprOrSpread ExprId) Global)
      → weights at (args_parts xs) ≤ weight (args_tree (expr_of fun_at class_at block_at at) xs)
  args-lighter xs = let w = items-lighter xs.items in omega arith

  key-lighter : (k : PropName ExprId) → weights at (key_parts k) ≤ weight
      (prop_name_tree (expr_of fun_at class_at block_at at) k)
  key-lighter (prop_name.Ident i) = omega arith
  key-lighter (prop_name.Str s) = omega arith
  key-lighter (prop_name.Num m) = omega arith
  key-lighter (prop_name.BigInt m) = omega arith
  key-lighter (prop_name.Computed c) = omega arith

  member-lighter : (p : MemberProp ExprId) → weights at (member_parts p) ≤ weight
      (member_prop_tree (expr_of fun_at class_at block_at at) p)
  member-lighter (member_prop.Ident i) = omega arith
  member-lighter (member_prop.PrivateName p) = omega arith
  member-lighter (member_prop.Computed c) = omega arith

  super-lighter : (p : SuperProp ExprId) → weights at (super_parts p) ≤ weight
      (super_part_tree (expr_of fun_at class_at block_at at) p)
  super-lighter (super_part.Ident i) = omega arith
  super-lighter (super_part.Computed c) = omega arith

  callee-lighter : (c : Callee ExprId) → weights at (callee_parts c) ≤ weight
      (callee_tree (expr_of fun_at class_at block_at at) c)
  callee-lighter (callee.Super s) = omega arith
  callee-lighter (callee.Import i) = omega arith
  callee-lighter (callee.Expr e) = omega arith

  base-lighter : (b : OptChainBase ExprId) → weights at (base_parts b) ≤ weight
      (base_tree (expr_of fun_at class_at block_at at) b)
  base-lighter (base.Member m) = let w = member-lighter m.prop in omega arith
  base-lighter (base.Call c) = let w = items-lighter c.args.items in omega arith

  body-lighter : (b : BlockStmtOrExpr ExprId K) → weights at (body_parts b) ≤ weight
      (body_tree block_at (expr_of fun_at class_at block_at at) b)
  body-lighter (body.BlockStmt k) = omega arith
  body-lighter (body.Expr e) = omega arith

  exprs-lighter : (es : List ExprId) → weights at (flat one_expr es) ≤ weight_of
      (expr_of fun_at class_at block_at at) es
  exprs-lighter es = weights-flat at one_expr (expr_of fun_at class_at block_at at) expr-lighter es

  pats-lighter : (ps : List PatId) → weights at (flat one_pat ps) ≤ weight_of (pat_of fun_at class_at block_at at) ps
  pats-lighter ps = weights-flat at one_pat (pat_of fun_at class_at block_at at) pat-lighter ps

  tpl-lighter : (t : Tpl ExprId) → weights at (flat one_expr t.exprs.items) < weight
      (tpl_tree (expr_of fun_at class_at block_at at) t)
  tpl-lighter t =
      let a = exprs-lighter t.exprs.items in
      let b = weight-behind (map quasi_tree t.quasis.items) (map (expr_of fun_at class_at block_at at) t.exprs.items) in
      omega arith

  param-lighter : (p : Param PatId) → weights at (param_parts p) ≤ weight
      (param_tree (pat_of fun_at class_at block_at at) p)
  param-lighter p = omega arith

  function-lighter : (f : Function PatId K) → weights at (flat param_parts f.params.items) < weight
      (function_tree block_at (pat_of fun_at class_at block_at at) f)
  function-lighter f = let w = weights-flat at param_parts
      (param_tree (pat_of fun_at class_at block_at at)) param-lighter f.params.items in omega arith

  prop-lighter : (p : PropNode K) → weights at (prop_parts p) ≤ weight (prop_of fun_at class_at block_at at p)
  prop-lighter (prop.Spread s) = omega arith
  prop-lighter (prop.Shorthand i) = omega arith
  prop-lighter (prop.KeyValue s k v) = let a = weights-append at (key_parts k) (one_expr v) in let b = key-lighter k in
      omega arith
  prop-lighter (prop.Assign p) = omega arith
  prop-lighter (prop.Method k f) =
      let a = weights-append at (key_parts k) (flat param_parts f.params.items) in
      let b = key-lighter k in
      let c = function-lighter f in
      omega arith
  prop-lighter (prop.Getter s k b) = let w = key-lighter k in omega arith
  prop-lighter (prop.Setter s k p b) = let u = weights-append at (key_parts k) (one_pat p) in let w = key-lighter k in
      omega arith

  part-lighter : (p : PatPart) → weights at (part_parts p) ≤ weight (part_tree at p)
  part-lighter (of_pat.Pat p) = omega arith
  part-lighter (of_pat.Expr e) = omega arith

  elem-lighter : (p : PatElem) → weights at (pat_elem_part p) ≤ weight (pat_elem_of at p)
  elem-lighter (elem.Item p) = part-lighter p
  elem-lighter (elem.Rest s d p) = let w = part-lighter p in omega arith

  pat-prop-lighter : (p : PatPropNode) → weights at (pat_prop_parts p) ≤ weight
      (pat_prop_of fun_at class_at block_at at p)
  pat-prop-lighter (pat_prop.KeyValue s k v) = let a = weights-append at (key_parts k) (part_parts v) in
      let b = key-lighter k in let c = part-lighter v in omega arith
  pat-prop-lighter (pat_prop.Assign s k v) = let w = weights-some at one_expr
      (expr_of fun_at class_at block_at at) expr-lighter v in omega arith
  pat-prop-lighter (pat_prop.Rest s d p) = let w = part-lighter p in omega arith

  -- ---- the nodes

  -- the trees of a node's parts weigh less than its own
  pub parts-lighter : (x : Node F C K) → weights at (slots x) < weight (marked_tree fun_at class_at block_at at x)
  parts-lighter (n.This e) = omega arith
  parts-lighter (n.Array s elems comma) = let w = weights-flat at (if_some item_parts)
      (or_hole (item_tree (expr_of fun_at class_at block_at at)))
      (weights-some at item_parts (item_tree (expr_of fun_at class_at block_at at)) item-lighter) elems.items in
      omega arith
  parts-lighter (n.Object s props comma) = let w = weights-flat at prop_parts
      (prop_of fun_at class_at block_at at) prop-lighter props.items in omega arith
  parts-lighter (n.Fn f) = omega arith
  parts-lighter (n.Class c) = omega arith
  parts-lighter (n.Unary s op a) = omega arith
  parts-lighter (n.Update s op prefix a) = omega arith
  parts-lighter (n.Bin s op l r) = omega arith
  parts-lighter (n.Assign s op l r) = let w = target-lighter l in omega arith
  parts-lighter (n.Cond s t c a) = omega arith
  parts-lighter (n.Seq s es) = let w = exprs-lighter es.items in omega arith
  parts-lighter (n.Paren p) = omega arith
  parts-lighter (n.Member m) = let w = member-lighter m.prop in omega arith
  parts-lighter (n.SuperProp p) = let w = super-lighter p.prop in omega arith
  parts-lighter (n.Call s c xs) =
      let u = weights-append at (callee_parts c) (args_parts xs) in
      let v = callee-lighter c in
      let w = items-lighter xs.items in
      omega arith
  parts-lighter (n.New s c xs) = let w = weights-some at args_parts
      (args_tree (expr_of fun_at class_at block_at at)) args-lighter xs in omega arith
  parts-lighter (n.OptChain c) = let w = base-lighter c.base.value in omega arith
  parts-lighter (n.Tpl t) = tpl-lighter t.value
  parts-lighter (n.TaggedTpl s t q) = let w = tpl-lighter q.value in omega arith
  parts-lighter (n.Arrow s ps b a) =
      let u = weights-append at (flat one_pat ps.items) (body_parts b.value) in
      let v = pats-lighter ps.items in
      let w = body-lighter b.value in
      omega arith
  parts-lighter (n.Await s a) = omega arith
  parts-lighter (n.Yield s a d) = let w = weights-some at one_expr
      (expr_of fun_at class_at block_at at) expr-lighter a in omega arith
  parts-lighter (n.MetaProp m) = omega arith
  parts-lighter (n.PrivateName p) = omega arith
  parts-lighter (n.Ident i) = omega arith
  parts-lighter (n.Str s) = omega arith
  parts-lighter (n.Bool b) = omega arith
  parts-lighter (n.Null l) = omega arith
  parts-lighter (n.Num l) = omega arith
  parts-lighter (n.BigInt l) = omega arith
  parts-lighter (n.Regex r) = omega arith
  parts-lighter (n.Invalid i) = omega arith
  parts-lighter (n.PatIdent b) = omega arith
  parts-lighter (n.PatArray s elems) = let w = weights-flat at (if_some pat_elem_part) (or_hole (pat_elem_of at))
      (weights-some at pat_elem_part (pat_elem_of at) elem-lighter) elems.items in omega arith
  parts-lighter (n.PatObject s props) = let w = weights-flat at pat_prop_parts
      (pat_prop_of fun_at class_at block_at at) pat-prop-lighter props.items in omega arith
  parts-lighter (n.PatRest s d p) = omega arith
  parts-lighter (n.PatAssign s l r) = let a = weights-append at (part_parts l) (one_expr r) in let w = part-lighter l in
      omega arith
  parts-lighter (n.PatExpr e) = omega arith
  parts-lighter (n.PatInvalid i) = omega arith
