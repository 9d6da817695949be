-- The marks of commas taken away, a node stands for the tree that its parts make without theirs.
use Rattle.std.proofs.Common.{◌≡◌, ℕ, List, [], ◌∷◌, ◌++◌, Option, Some, None, map, refl, ap, ◌∙◌}
use Rattle.std.specs.{declared.alloc.Global.Global, declared.vec.Vec.Vec}
use Rattle.swc_context.specs.declared.span.Span.{Span}
use Rattle.swc_ast.specs.Tree.{Tree, node, nil, cons, trees, no_span, span_of, args, array, object, computed, param, seq, tpl}
use Rattle.swc_ast.specs.Parts.{or_hole, prop_name_tree, member_prop_tree, super_part_tree, item_of, item_tree, item_trees, args_tree, base_tree, callee_tree, quasi_tree, tpl_tree, body_tree, param_tree, function_tree}
use Rattle.swc_ast.specs.{Trees.unmarked, Trees.all_unmarked, declared.expr.BlockStmtOrExpr.BlockStmtOrExpr, declared.expr.BlockStmtOrExpr.BlockStmtOrExpr as body, declared.expr.Callee.Callee, declared.expr.Callee.Callee as callee, declared.expr.ExprOrSpread.ExprOrSpread, declared.expr.MemberProp.MemberProp, declared.expr.MemberProp.MemberProp as member_prop, declared.expr.OptChainBase.OptChainBase, declared.expr.OptChainBase.OptChainBase as base, declared.expr.SuperProp.SuperProp, declared.expr.SuperProp.SuperProp as super_part, declared.expr.Tpl.Tpl, declared.expr.TplElement.TplElement, declared.function.Function.Function, declared.prop.PropName.PropName, declared.prop.PropName.PropName as prop_name}
use Rattle.swc_nodes.specs.NodeTree.{expr_of, pat_of, target_of, prop_of, pat_prop_of, node_tree, marked_tree, part_tree, pat_elem_of}
use Rattle.swc_nodes.specs.{declared.node.ExprId.ExprId, declared.node.PatId.PatId, declared.node.Node.Node, declared.node.Node.Node as n, declared.node.PatPropNode.PatPropNode, declared.node.PatPropNode.PatPropNode as pat_prop, declared.node.PropNode.PropNode, declared.node.PropNode.PropNode as prop, declared.node.TargetNode.TargetNode, declared.node.TargetNode.TargetNode as target, declared.node.PatElem.PatElem, declared.node.PatElem.PatElem as elem, declared.node.PatPart.PatPart, declared.node.PatPart.PatPart as of_pat}

module _ {F C K : Type 0} where
  unmarked-place : (t : Tree F C K) → span_of (unmarked t) ≡ span_of t
  unmarked-place (node k s ts) = refl

  -- lists of parts
  unmarked-list : {X : Type 0} (f g : X → Tree F C K) → ((x : X) → unmarked (f x) ≡ g x) → (xs : List X)
      → all_unmarked (trees (map f xs)) ≡ trees (map g xs)
  unmarked-list f g same [] = refl
  unmarked-list f g same (x ∷ xs) =
      ap (λ v. cons v (all_unmarked (trees (map f xs)))) (same x) ∙ ap (cons (g x)) (unmarked-list f g same xs)

  unmarked-texts : {X : Type 0} (f g : X → Tree F C K) → ((x : X) → unmarked (f x) ≡ g x)
      → (qs : List TplElement) (xs : List X)
      → all_unmarked (trees (map quasi_tree qs ++ map f xs)) ≡ trees (map quasi_tree qs ++ map g xs)
  unmarked-texts f g same [] xs = unmarked-list f g same xs
  unmarked-texts f g same (q ∷ qs) xs = ap (cons (quasi_tree q)) (unmarked-texts f g same qs xs)

  module _ {X : Type 0} (f g : X → Tree F C K) (same : (x : X) → unmarked (f x) ≡ g x) where
    unmarked-if : (o : Option X) → unmarked (or_hole f o) ≡ or_hole g o
    unmarked-if None = refl
    unmarked-if (Some x) = same x

    unmarked-item-of : (o : Option Span) (x : X) → unmarked (item_of o (f x)) ≡ item_of o (g x)
    unmarked-item-of None x = ap (item_of None) (same x)
    unmarked-item-of (Some s) x = ap (item_of (Some s)) (same x)

    unmarked-item : (x : ExprOrSpread X) → unmarked (item_tree f x) ≡ item_tree g x
    unmarked-item x = unmarked-item-of x.spread x.expr

    unmarked-items : (xs : List (ExprOrSpread X)) → all_unmarked (item_trees f xs) ≡ item_trees g xs
    unmarked-items = unmarked-list (item_tree f) (item_tree g) unmarked-item

    unmarked-args : (o : Option (Vec (ExprOrSpread X) Global))
        → unmarked (or_hole (args_tree f) o) ≡ or_hole (args_tree g) o
    unmarked-args None = refl
    unmarked-args (Some xs) = ap (node args no_span) (unmarked-items xs.items)

    pub unmarked-key : (k : PropName X) → unmarked (prop_name_tree f k) ≡ prop_name_tree g k
    unmarked-key (prop_name.Computed c) = ap (λ v. node computed c.span (cons v nil)) (same c.expr)
    unmarked-key k = refl

    unmarked-member : (p : MemberProp X) → unmarked (member_prop_tree f p) ≡ member_prop_tree g p
    unmarked-member (member_prop.Computed c) = ap (λ v. node computed c.span (cons v nil)) (same c.expr)
    unmarked-member p = refl

    unmarked-super : (p : SuperProp X) → unmarked (super_part_tree f p) ≡ super_part_tree g p
    unmarked-super (super_part.Computed c) = ap (λ v. node computed c.span (cons v nil)) (same c.expr)
    unmarked-super p = refl

    unmarked-base : (b : OptChainBase X) → unmarked (base_tree f b) ≡ base_tree g b
    unmarked-base (base.Member m) = rw (same m.obj, unmarked-member m.prop) refl
    unmarked-base (base.Call c) = rw (same c.callee, unmarked-items c.args.items) refl

    unmarked-callee : (c : Callee X) → unmarked (callee_tree f c) ≡ callee_tree g c
    unmarked-callee (callee.Expr e) = same e
    unmarked-callee c = refl

    pub unmarked-tpl : (t : Tpl X) → unmarked (tpl_tree f t) ≡ tpl_tree g t
    unmarked-tpl t = ap (node tpl t.span) (unmarked-texts f g same t.quasis.items t.exprs.items)

    unmarked-body : (block_at : K → Span) (b : BlockStmtOrExpr X K)
        → unmarked (body_tree block_at f b) ≡ body_tree block_at g b
    unmarked-body block_at (body.BlockStmt k) = refl
    unmarked-body block_at (body.Expr e) = same e

    unmarked-function : (block_at : K → Span) (x : Function X K)
        → unmarked (function_tree block_at f x) ≡ function_tree block_at g x
    unmarked-function block_at x =
        rw (unmarked-list (param_tree f) (param_tree g)
        (λ p. ap (λ v. node param p.span (cons v nil)) (same p.pat)) x.params.items) refl

module _ {F C K : Type 0} (fun_at : F → Span) (class_at : C → Span) (block_at : K → Span) (at : ℕ → Tree F C K) where
  -- the trees given for numbers, without their marks
  abbrev bare : ℕ → Tree F C K
  bare i = unmarked (at i)

  abbrev expr_now : ExprId → Tree F C K
  expr_now = expr_of fun_at class_at block_at at

  abbrev expr_bare : ExprId → Tree F C K
  expr_bare = expr_of fun_at class_at block_at bare

  abbrev pat_now : PatId → Tree F C K
  pat_now = pat_of fun_at class_at block_at at

  abbrev pat_bare : PatId → Tree F C K
  pat_bare = pat_of fun_at class_at block_at bare

  expr-same : (e : ExprId) → unmarked (expr_now e) ≡ expr_bare e
  expr-same e = refl

  pat-same : (p : PatId) → unmarked (pat_now p) ≡ pat_bare p
  pat-same p = refl

  unmarked-target : (t : TargetNode) → unmarked (target_of fun_at class_at block_at at t) ≡ target_of fun_at class_at
      block_at bare t
  unmarked-target (target.Simple e) = refl
  unmarked-target (target.Pat p) = refl

  pub unmarked-prop : (p : PropNode K) → unmarked (prop_of fun_at class_at block_at at p) ≡ prop_of fun_at class_at
      block_at bare p
  unmarked-prop (prop.Spread s) = refl
  unmarked-prop (prop.Shorthand i) = refl
  unmarked-prop (prop.KeyValue s k v) = rw (unmarked-key expr_now expr_bare expr-same k) refl
  unmarked-prop (prop.Assign p) = refl
  unmarked-prop (prop.Method k f) =
      rw (unmarked-key expr_now expr_bare expr-same k, unmarked-function pat_now pat_bare pat-same block_at f) refl
  unmarked-prop (prop.Getter s k b) = rw (unmarked-key expr_now expr_bare expr-same k) refl
  unmarked-prop (prop.Setter s k p b) = rw (unmarked-key expr_now expr_bare expr-same k) refl

  pub unmarked-part : (p : PatPart) → unmarked (part_tree at p) ≡ part_tree bare p
  unmarked-part (of_pat.Pat p) = refl
  unmarked-part (of_pat.Expr e) = rw (unmarked-place (at e.0)) refl

  pub unmarked-elem : (p : PatElem) → unmarked (pat_elem_of at p) ≡ pat_elem_of bare p
  unmarked-elem (elem.Item p) = unmarked-part p
  unmarked-elem (elem.Rest s d p) = rw (unmarked-part p) refl

  pub unmarked-pat-prop : (p : PatPropNode) → unmarked
      (pat_prop_of fun_at class_at block_at at p) ≡ pat_prop_of fun_at class_at block_at bare p
  unmarked-pat-prop (pat_prop.KeyValue s k v) = rw (unmarked-key expr_now expr_bare expr-same k, unmarked-part v) refl
  unmarked-pat-prop (pat_prop.Assign s k v) = rw (unmarked-if expr_now expr_bare expr-same v) refl
  unmarked-pat-prop (pat_prop.Rest s d p) = rw (unmarked-part p) refl

  pub unmarked-node : (x : Node F C K) → unmarked (marked_tree fun_at class_at block_at at x) ≡ node_tree fun_at
      class_at block_at bare x
  unmarked-node (n.Array s elems comma) =
      ap (node array s) (unmarked-list (or_hole (item_tree expr_now)) (or_hole (item_tree expr_bare))
      (unmarked-if (item_tree expr_now) (item_tree expr_bare) (unmarked-item expr_now expr_bare expr-same)) elems.items)
  unmarked-node (n.Object s props comma) = ap (node object s) (unmarked-list _ _ unmarked-prop props.items)
  unmarked-node (n.Assign s op l r) = rw (unmarked-target l) refl
  unmarked-node (n.Seq s es) = ap (node seq s) (unmarked-list expr_now expr_bare expr-same es.items)
  unmarked-node (n.Member m) = rw (unmarked-member expr_now expr_bare expr-same m.prop) refl
  unmarked-node (n.SuperProp p) = rw (unmarked-super expr_now expr_bare expr-same p.prop) refl
  unmarked-node (n.Call s c xs) =
      rw (unmarked-callee expr_now expr_bare expr-same c, unmarked-items expr_now expr_bare expr-same xs.items) refl
  unmarked-node (n.New s c xs) = rw (unmarked-args expr_now expr_bare expr-same xs) refl
  unmarked-node (n.OptChain c) = rw (unmarked-base expr_now expr_bare expr-same c.base.value) refl
  unmarked-node (n.Tpl t) = unmarked-tpl expr_now expr_bare expr-same t.value
  unmarked-node (n.TaggedTpl s t q) = rw (unmarked-tpl expr_now expr_bare expr-same q.value) refl
  unmarked-node (n.Arrow s ps b a) =
      rw (
        unmarked-body expr_now expr_bare expr-same block_at b.value,
        unmarked-list pat_now pat_bare pat-same ps.items,
      ) refl
  unmarked-node (n.Yield s a d) = rw (unmarked-if expr_now expr_bare expr-same a) refl
  unmarked-node (n.PatArray s elems) =
      ap (node array s) (unmarked-list (or_hole (pat_elem_of at)) (or_hole (pat_elem_of bare))
      (unmarked-if (pat_elem_of at) (pat_elem_of bare) unmarked-elem) elems.items)
  unmarked-node (n.PatObject s props) = ap (node object s) (unmarked-list _ _ unmarked-pat-prop props.items)
  unmarked-node (n.PatAssign s l r) = rw (unmarked-part l) refl
  unmarked-node (n.PatExpr e) = rw (unmarked-place (at e.0)) refl
  unmarked-node x = refl
