-- Trees in boxes have no marks of commas.
use Rattle.std.proofs.Common.{◌≡◌, Bool, List, [], ◌∷◌, ◌++◌, Option, Some, None, map, refl, sym, ap, subst, ◌∙◌}
use Rattle.std.specs.{declared.alloc.Global.Global, declared.boxed.Box.Box, declared.vec.Vec.Vec}
use Rattle.swc_context.specs.declared.span.Span.{Span}
use Rattle.swc_ast.specs.Parts.{or_hole, item_of, item_tree, quasi_tree, lit_tree, param_tree}
use Rattle.swc_ast.specs.Tree.{Kind, Tree, Trees, node, nil, cons, trees, param}
use Rattle.swc_ast.specs.TreeOf.{expr_tree, target_tree, pat_prop_tree, pat_tree, prop_tree, prop_or_spread_tree, boxed_tree}
use Rattle.swc_ast.specs.Trees.{unmarked, unmarked_kind, all_unmarked}
use Rattle.swc_ast.specs.declared.expr.AssignTarget.{AssignTarget, AssignTarget-F, map-AssignTarget, roll-AssignTarget}
use Rattle.swc_ast.specs.declared.expr.Expr.{Expr, Expr-F, map-Expr, roll-Expr}
use Rattle.swc_ast.specs.declared.pat.ObjectPatProp.{ObjectPatProp, ObjectPatProp-F, map-ObjectPatProp, roll-ObjectPatProp}
use Rattle.swc_ast.specs.declared.pat.Pat.{Pat, Pat-F, map-Pat, roll-Pat}
use Rattle.swc_ast.specs.declared.prop.Prop.{Prop, Prop-F, map-Prop, roll-Prop}
use Rattle.swc_ast.specs.declared.prop.PropOrSpread.{PropOrSpread, PropOrSpread-F, map-PropOrSpread, roll-PropOrSpread}
use Rattle.swc_ast.specs.{declared.expr.AssignTarget.TheFolds.ind-Expr, declared.expr.BlockStmtOrExpr.BlockStmtOrExpr, declared.expr.BlockStmtOrExpr.BlockStmtOrExpr as body, declared.expr.Callee.Callee as callee, declared.expr.ExprOrSpread.ExprOrSpread, declared.expr.MemberExpr.MemberExpr, declared.expr.MemberProp.MemberProp, declared.expr.MemberProp.MemberProp as member_prop, declared.expr.OptChainBase.OptChainBase, declared.expr.OptChainBase.OptChainBase as base, declared.expr.OptChainExpr.OptChainExpr, declared.expr.SimpleAssignTarget.SimpleAssignTarget as simple, declared.expr.SuperProp.SuperProp, declared.expr.SuperProp.SuperProp as super_part, declared.expr.SuperPropExpr.SuperPropExpr, declared.expr.TplElement.TplElement, declared.function.Param.Param, declared.lit.Lit.Lit, declared.lit.Lit.Lit as lit, declared.prop.PropName.PropName as prop_name}
use Rattle.swc_ast.specs.declared.expr.AssignTarget.TheOpen as o
use Rattle.swc_ast.specs.declared.expr.AssignTarget.TheVariants as target
use Rattle.swc_ast.specs.declared.expr.Expr.TheVariants as expr
use Rattle.swc_ast.specs.declared.pat.ObjectPatProp.TheVariants as pat_prop
use Rattle.swc_ast.specs.declared.pat.Pat.TheVariants as pat
use Rattle.swc_ast.specs.declared.prop.Prop.TheVariants as prop
use Rattle.swc_ast.specs.declared.prop.PropOrSpread.TheVariants as either
use Rattle.swc_ast.proofs.Equations as eq
use Rattle.swc_trees.proofs.Leaves as leaf_eq

module _ {F C K : Type 0} where
  abbrev Bare : Tree F C K → Type 0
  Bare t = unmarked t ≡ t

  abbrev AllBare : Trees F C K → Type 0
  AllBare ts = all_unmarked ts ≡ ts

  bare-node : {k : Kind F C K} {s : Span} {ts : Trees F C K} → unmarked_kind k ≡ k → AllBare ts → Bare (node k s ts)
  bare-node {k} {s} {ts} is all = ap (λ v. node v s (all_unmarked ts)) is ∙ ap (node k s) all

  bare-cons : {t : Tree F C K} {ts : Trees F C K} → Bare t → AllBare ts → AllBare (cons t ts)
  bare-cons {t} {ts} b all = ap (λ v. cons v (all_unmarked ts)) b ∙ ap (cons t) all

  -- what is rolled up is the variant, whose tree is known; and the other way
  bare-by : {X : Type 0} (tree : X → Tree F C K) (r v : X) (t : Tree F C K) → r ≡ v → tree v ≡ t → Bare t
      → Bare (tree r)
  bare-by tree r v t is same b = subst Bare (sym (ap tree is ∙ same)) b

  bare-back : {X : Type 0} (tree : X → Tree F C K) (r v : X) (t : Tree F C K) → r ≡ v → tree v ≡ t → Bare (tree r)
      → Bare t
  bare-back tree r v t is same b = subst Bare (ap tree is ∙ same) b

  bare-list : {A X : Type 0} (f : A → Tree F C K) (h : X → A) → ((x : X) → Bare (f (h x))) → (xs : List X)
      → AllBare (trees (map f (map h xs)))
  bare-list f h each [] = refl
  bare-list f h each (x ∷ xs) = bare-cons (each x) (bare-list f h each xs)

  bare-texts : {A X : Type 0} (f : A → Tree F C K) (h : X → A) → ((x : X) → Bare (f (h x)))
      → (qs : List TplElement) (xs : List X)
      → AllBare (trees (map quasi_tree qs ++ map f (map h xs)))
  bare-texts f h each [] xs = bare-list f h each xs
  bare-texts f h each (q ∷ qs) xs = ap (cons (quasi_tree q)) (bare-texts f h each qs xs)

  bare-if : {A X : Type 0} (f : A → Tree F C K) (h : Option X → Option A) → h None ≡ None
      → ((x : X) → (a : A) × (h (Some x) ≡ Some a) × Bare (f a)) → (o : Option X) → Bare (or_hole f (h o))
  bare-if f h none some None = rw none refl
  bare-if f h none some (Some x) = rw ((some x).1) (some x).2

  bare-item : (s : Option Span) (t : Tree F C K) → Bare t → Bare (item_of s t)
  bare-item None t b = bare-node refl (bare-cons b refl)
  bare-item (Some s) t b = bare-node refl (bare-cons refl (bare-cons b refl))

  bare-lit : (l : Lit) → Bare (lit_tree l)
  bare-lit (lit.Str s) = refl
  bare-lit (lit.Bool b) = refl
  bare-lit (lit.Null n) = refl
  bare-lit (lit.Num n) = refl
  bare-lit (lit.BigInt n) = refl
  bare-lit (lit.Regex r) = refl

module _ {F C K : Type 0} (fun_at : F → Span) (class_at : C → Span) (block_at : K → Span) where
  abbrev targets : AssignTarget F C K → Tree F C K
  targets = target_tree F C K fun_at class_at block_at

  abbrev boxed : Box (Expr F C K) Global → Tree F C K
  boxed = boxed_tree F C K fun_at class_at block_at

  abbrev exprs : Expr F C K → Tree F C K
  exprs = expr_tree F C K fun_at class_at block_at

  abbrev pat_props : ObjectPatProp F C K → Tree F C K
  pat_props = pat_prop_tree F C K fun_at class_at block_at

  abbrev pats : Pat F C K → Tree F C K
  pats = pat_tree F C K fun_at class_at block_at

  abbrev props : Prop F C K → Tree F C K
  props = prop_tree F C K fun_at class_at block_at

  abbrev items : PropOrSpread F C K → Tree F C K
  items = prop_or_spread_tree F C K fun_at class_at block_at

  module _ {X1 X2 X3 X4 X5 X6 : Type 0} (h1 : X1 → AssignTarget F C K) (h2 : X2 → Expr F C K)
      (h3 : X3 → ObjectPatProp F C K)
      (h4 : X4 → Pat F C K) (h5 : X5 → Prop F C K) (h6 : X6 → PropOrSpread F C K)
      (b1 : (x : X1) → Bare (targets (h1 x))) (b2 : (x : X2) → Bare (exprs (h2 x)))
      (b3 : (x : X3) → Bare (pat_props (h3 x)))
      (b4 : (x : X4) → Bare (pats (h4 x))) (b5 : (x : X5) → Bare (props (h5 x)))
      (b6 : (x : X6) → Bare (items (h6 x))) where
    abbrev target_by : AssignTarget-F F C K X1 X2 X3 X4 X5 X6 → AssignTarget F C K
    target_by y =
        roll-AssignTarget F C K (map-AssignTarget F C K X1 X2 X3 X4 X5 X6 (AssignTarget F C K) (Expr F C K)
        (ObjectPatProp F C K)
        (Pat F C K) (Prop F C K) (PropOrSpread F C K) h1 h2 h3 h4 h5 h6 y)

    abbrev target_at : AssignTarget-F F C K X1 X2 X3 X4 X5 X6 → Tree F C K
    target_at y = targets (target_by y)

    abbrev expr_by : Expr-F F C K X1 X2 X3 X4 X5 X6 → Expr F C K
    expr_by y =
        roll-Expr F C K (map-Expr F C K X1 X2 X3 X4 X5 X6 (AssignTarget F C K) (Expr F C K) (ObjectPatProp F C K)
        (Pat F C K) (Prop F C K) (PropOrSpread F C K) h1 h2 h3 h4 h5 h6 y)

    abbrev expr_at : Expr-F F C K X1 X2 X3 X4 X5 X6 → Tree F C K
    expr_at y = exprs (expr_by y)

    abbrev pat_prop_by : ObjectPatProp-F F C K X1 X2 X3 X4 X5 X6 → ObjectPatProp F C K
    pat_prop_by y =
        roll-ObjectPatProp F C K (map-ObjectPatProp F C K X1 X2 X3 X4 X5 X6 (AssignTarget F C K) (Expr F C K)
        (ObjectPatProp F C K)
        (Pat F C K) (Prop F C K) (PropOrSpread F C K) h1 h2 h3 h4 h5 h6 y)

    abbrev pat_prop_at : ObjectPatProp-F F C K X1 X2 X3 X4 X5 X6 → Tree F C K
    pat_prop_at y = pat_props (pat_prop_by y)

    abbrev pat_by : Pat-F F C K X1 X2 X3 X4 X5 X6 → Pat F C K
    pat_by y =
        roll-Pat F C K (map-Pat F C K X1 X2 X3 X4 X5 X6 (AssignTarget F C K) (Expr F C K) (ObjectPatProp F C K)
        (Pat F C K) (Prop F C K) (PropOrSpread F C K) h1 h2 h3 h4 h5 h6 y)

    abbrev pat_at : Pat-F F C K X1 X2 X3 X4 X5 X6 → Tree F C K
    pat_at y = pats (pat_by y)

    abbrev prop_by : Prop-F F C K X1 X2 X3 X4 X5 X6 → Prop F C K
    prop_by y =
        roll-Prop F C K (map-Prop F C K X1 X2 X3 X4 X5 X6 (AssignTarget F C K) (Expr F C K) (ObjectPatProp F C K)
        (Pat F C K) (Prop F C K) (PropOrSpread F C K) h1 h2 h3 h4 h5 h6 y)

    abbrev prop_at : Prop-F F C K X1 X2 X3 X4 X5 X6 → Tree F C K
    prop_at y = props (prop_by y)

    abbrev entry_by : PropOrSpread-F F C K X1 X2 X3 X4 X5 X6 → PropOrSpread F C K
    entry_by y =
        roll-PropOrSpread F C K (map-PropOrSpread F C K X1 X2 X3 X4 X5 X6 (AssignTarget F C K) (Expr F C K)
        (ObjectPatProp F C K)
        (Pat F C K) (Prop F C K) (PropOrSpread F C K) h1 h2 h3 h4 h5 h6 y)

    abbrev entry_at : PropOrSpread-F F C K X1 X2 X3 X4 X5 X6 → Tree F C K
    entry_at y = items (entry_by y)

    bare-an-item : (x : ExprOrSpread (Box X2 Global)) → Bare (item_of x.spread (exprs (h2 x.expr.value)))
    bare-an-item x = bare-item x.spread _ (b2 x.expr.value)

    bare-a-param : (p : Param X4) → Bare (node param p.span (cons (pats (h4 p.pat)) nil))
    bare-a-param p = bare-node refl (bare-cons (b4 p.pat) refl)

    bare-member : (m : MemberExpr (Box X2 Global)) (p : MemberProp (Box X2 Global)) → m.prop ≡ p
        → Bare (expr_at (o.Member m))
    bare-member m (member_prop.Ident i) e =
        bare-by exprs _ _ _ (expr.rolls-Member _) (eq.member_expr_tree F C K fun_at class_at block_at _)
        (rw e (bare-node refl (bare-cons (b2 m.obj.value) (bare-cons refl refl))))
    bare-member m (member_prop.PrivateName i) e =
        bare-by exprs _ _ _ (expr.rolls-Member _) (eq.member_expr_tree F C K fun_at class_at block_at _)
        (rw e (bare-node refl (bare-cons (b2 m.obj.value) (bare-cons refl refl))))
    bare-member m (member_prop.Computed w) e =
        bare-by exprs _ _ _ (expr.rolls-Member _) (eq.member_expr_tree F C K fun_at class_at block_at _)
        (rw e (bare-node refl (bare-cons (b2 m.obj.value)
        (bare-cons (bare-node refl (bare-cons (b2 w.expr.value) refl)) refl))))

    bare-super : (m : SuperPropExpr (Box X2 Global)) (p : SuperProp (Box X2 Global)) → m.prop ≡ p
        → Bare (expr_at (o.SuperProp m))
    bare-super m (super_part.Ident i) e =
        bare-by exprs _ _ _ (expr.rolls-SuperProp _) (eq.super_prop_expr_tree F C K fun_at class_at block_at _)
        (rw e (bare-node refl (bare-cons refl (bare-cons refl refl))))
    bare-super m (super_part.Computed c) e =
        bare-by exprs _ _ _ (expr.rolls-SuperProp _) (eq.super_prop_expr_tree F C K fun_at class_at block_at _)
        (rw e (bare-node refl (bare-cons refl (bare-cons (bare-node refl (bare-cons (b2 c.expr.value) refl)) refl))))

    bare-link : (c : OptChainExpr (Box X2 Global)) (m : MemberExpr (Box X2 Global)) (p : MemberProp (Box X2 Global))
        → c.base.value ≡ base.Member m → m.prop ≡ p
        → Bare (expr_at (o.OptChain c))
    bare-link c m (member_prop.Ident i) d e =
        bare-by exprs _ _ _ (expr.rolls-OptChain _) (eq.opt_chain_tree F C K fun_at class_at block_at _)
        (rw (d, e) (bare-node refl (bare-cons (bare-node refl (bare-cons (b2 m.obj.value) (bare-cons refl refl)))
        refl)))
    bare-link c m (member_prop.PrivateName i) d e =
        bare-by exprs _ _ _ (expr.rolls-OptChain _) (eq.opt_chain_tree F C K fun_at class_at block_at _)
        (rw (d, e) (bare-node refl (bare-cons (bare-node refl (bare-cons (b2 m.obj.value) (bare-cons refl refl)))
        refl)))
    bare-link c m (member_prop.Computed w) d e =
        bare-by exprs _ _ _ (expr.rolls-OptChain _) (eq.opt_chain_tree F C K fun_at class_at block_at _)
        (rw (d, e) (bare-node refl (bare-cons (bare-node refl
        (bare-cons (b2 m.obj.value) (bare-cons (bare-node refl (bare-cons (b2 w.expr.value) refl)) refl))) refl)))

    bare-chain : (c : OptChainExpr (Box X2 Global)) (b : OptChainBase (Box X2 Global)) → c.base.value ≡ b
        → Bare (expr_at (o.OptChain c))
    bare-chain c (base.Member m) e = bare-link c m m.prop e refl
    bare-chain c (base.Call k) e =
        bare-by exprs _ _ _ (expr.rolls-OptChain _) (eq.opt_chain_tree F C K fun_at class_at block_at _)
        (rw e (bare-node refl (bare-cons (bare-node refl
        (bare-cons (b2 k.callee.value) (bare-list (item_tree boxed) _ bare-an-item k.args.items))) refl)))

    bare-arrow : (s : Span) (ps : Vec X4 Global) (b : Box (BlockStmtOrExpr (Box X2 Global) K) Global) (a : Bool)
        (w : BlockStmtOrExpr (Box X2 Global) K) → b.value ≡ w
        → Bare (expr_at (o.Arrow s ps b a))
    bare-arrow s ps b a (body.BlockStmt k) e =
        bare-by exprs _ _ _ (expr.rolls-Arrow _ _ _ _) (eq.arrow_tree F C K fun_at class_at block_at _ _ _ _)
        (rw e (bare-node refl (bare-cons refl (bare-list pats _ b4 ps.items))))
    bare-arrow s ps b a (body.Expr x) e =
        bare-by exprs _ _ _ (expr.rolls-Arrow _ _ _ _) (eq.arrow_tree F C K fun_at class_at block_at _ _ _ _)
        (rw e (bare-node refl (bare-cons (b2 x.value) (bare-list pats _ b4 ps.items))))

    bare-expr : (y : Expr-F F C K X1 X2 X3 X4 X5 X6) → Bare (expr_at y)
    bare-expr (o.This e) =
        bare-by exprs (expr_by (o.This e)) _ _ (expr.rolls-This _) (leaf_eq.this_tree F C K fun_at class_at block_at _)
        (refl)
    bare-expr (o.Expr::Array s elems) =
        bare-by exprs (expr_by (o.Expr::Array s elems)) _ _ (expr.rolls-Array _ _)
        (eq.array_tree F C K fun_at class_at block_at _ _)
        (bare-node refl (bare-list (or_hole (item_tree boxed)) _
        (bare-if (item_tree boxed) _ refl (λ x. (_, refl, bare-an-item x))) elems.items))
    bare-expr (o.Expr::Object s ps) =
        bare-by exprs (expr_by (o.Expr::Object s ps)) _ _ (expr.rolls-Object _ _)
        (eq.object_tree F C K fun_at class_at block_at _ _)
        (bare-node refl (bare-list items _ b6 ps.items))
    bare-expr (o.Fn f) =
        bare-by exprs (expr_by (o.Fn f)) _ _ (expr.rolls-Fn _) (leaf_eq.fn_tree F C K fun_at class_at block_at _)
        (refl)
    bare-expr (o.Class c) =
        bare-by exprs (expr_by (o.Class c)) _ _ (expr.rolls-Class _)
        (leaf_eq.class_tree F C K fun_at class_at block_at _)
        (refl)
    bare-expr (o.Unary s op a) =
        bare-by exprs (expr_by (o.Unary s op a)) _ _ (expr.rolls-Unary _ _ _)
        (leaf_eq.unary_tree F C K fun_at class_at block_at _ _ _)
        (bare-node refl (bare-cons (b2 a.value) refl))
    bare-expr (o.Update s op p a) =
        bare-by exprs (expr_by (o.Update s op p a)) _ _ (expr.rolls-Update _ _ _ _)
        (leaf_eq.update_tree F C K fun_at class_at block_at _ _ _ _)
        (bare-node refl (bare-cons (b2 a.value) refl))
    bare-expr (o.Bin s op l r) =
        bare-by exprs (expr_by (o.Bin s op l r)) _ _ (expr.rolls-Bin _ _ _ _)
        (leaf_eq.bin_tree F C K fun_at class_at block_at _ _ _ _)
        (bare-node refl (bare-cons (b2 l.value) (bare-cons (b2 r.value) refl)))
    bare-expr (o.Expr::Assign s op l r) =
        bare-by exprs (expr_by (o.Expr::Assign s op l r)) _ _ (expr.rolls-Assign _ _ _ _)
        (leaf_eq.assign_tree F C K fun_at class_at block_at _ _ _ _)
        (bare-node refl (bare-cons (b1 l) (bare-cons (b2 r.value) refl)))
    bare-expr (o.Cond s t c a) =
        bare-by exprs (expr_by (o.Cond s t c a)) _ _ (expr.rolls-Cond _ _ _ _)
        (leaf_eq.cond_tree F C K fun_at class_at block_at _ _ _ _)
        (bare-node refl (bare-cons (b2 t.value) (bare-cons (b2 c.value) (bare-cons (b2 a.value) refl))))
    bare-expr (o.Seq s es) =
        bare-by exprs (expr_by (o.Seq s es)) _ _ (expr.rolls-Seq _ _) (eq.seq_tree F C K fun_at class_at block_at _ _)
        (bare-node refl (bare-list boxed _ (λ b. b2 b.value) es.items))
    bare-expr (o.Paren p) =
        bare-by exprs (expr_by (o.Paren p)) _ _ (expr.rolls-Paren _)
        (leaf_eq.paren_expr_tree F C K fun_at class_at block_at _)
        (bare-node refl (bare-cons (b2 p.expr.value) refl))
    bare-expr (o.Member m) = bare-member m m.prop refl
    bare-expr (o.SuperProp p) = bare-super p p.prop refl
    bare-expr (o.Call s (callee.Super u) xs) =
        bare-by exprs (expr_by (o.Call s (callee.Super u) xs)) _ _ (expr.rolls-Call _ (callee.Super _) _)
        (eq.call_expr_tree F C K fun_at class_at block_at _ (callee.Super _) _)
        (bare-node refl (bare-cons refl (bare-list (item_tree boxed) _ bare-an-item xs.items)))
    bare-expr (o.Call s (callee.Import u) xs) =
        bare-by exprs (expr_by (o.Call s (callee.Import u) xs)) _ _ (expr.rolls-Call _ (callee.Import _) _)
        (eq.call_expr_tree F C K fun_at class_at block_at _ (callee.Import _) _)
        (bare-node refl (bare-cons refl (bare-list (item_tree boxed) _ bare-an-item xs.items)))
    bare-expr (o.Call s (callee.Expr e) xs) =
        bare-by exprs (expr_by (o.Call s (callee.Expr e) xs)) _ _ (expr.rolls-Call _ (callee.Expr _) _)
        (eq.call_expr_tree F C K fun_at class_at block_at _ (callee.Expr _) _)
        (bare-node refl (bare-cons (b2 e.value) (bare-list (item_tree boxed) _ bare-an-item xs.items)))
    bare-expr (o.New s c None) =
        bare-by exprs (expr_by (o.New s c None)) _ _ (expr.rolls-New _ _ None)
        (eq.new_tree F C K fun_at class_at block_at _ _ None)
        (bare-node refl (bare-cons (b2 c.value) (bare-cons refl refl)))
    bare-expr (o.New s c (Some xs)) =
        bare-by exprs (expr_by (o.New s c (Some xs))) _ _ (expr.rolls-New _ _ (Some _))
        (eq.new_tree F C K fun_at class_at block_at _ _ (Some _))
        (bare-node refl (bare-cons (b2 c.value) (bare-cons
        (bare-node refl (bare-list (item_tree boxed) _ bare-an-item xs.items)) refl)))
    bare-expr (o.OptChain c) = bare-chain c c.base.value refl
    bare-expr (o.Tpl t) =
        bare-by exprs (expr_by (o.Tpl t)) _ _ (expr.rolls-Tpl _) (eq.tpl_expr_tree F C K fun_at class_at block_at _)
        (bare-node refl (bare-texts boxed _ (λ b. b2 b.value) t.quasis.items t.exprs.items))
    bare-expr (o.TaggedTpl s t q) =
        bare-by exprs (expr_by (o.TaggedTpl s t q)) _ _ (expr.rolls-TaggedTpl _ _ _)
        (eq.tagged_tree F C K fun_at class_at block_at _ _ _)
        (bare-node refl (bare-cons (b2 t.value) (bare-cons
        (bare-node refl (bare-texts boxed _ (λ b. b2 b.value) q.value.quasis.items q.value.exprs.items)) refl)))
    bare-expr (o.Arrow s ps b a) = bare-arrow s ps b a b.value refl
    bare-expr (o.Await s a) =
        bare-by exprs (expr_by (o.Await s a)) _ _ (expr.rolls-Await _ _)
        (leaf_eq.await_tree F C K fun_at class_at block_at _ _)
        (bare-node refl (bare-cons (b2 a.value) refl))
    bare-expr (o.Yield s None d) =
        bare-by exprs (expr_by (o.Yield s None d)) _ _ (expr.rolls-Yield _ None _)
        (leaf_eq.yield_tree F C K fun_at class_at block_at _ None _)
        (refl)
    bare-expr (o.Yield s (Some a) d) =
        bare-by exprs (expr_by (o.Yield s (Some a) d)) _ _ (expr.rolls-Yield _ (Some _) _)
        (leaf_eq.yield_tree F C K fun_at class_at block_at _ (Some _) _)
        (bare-node refl (bare-cons (b2 a.value) refl))
    bare-expr (o.MetaProp m) =
        bare-by exprs (expr_by (o.MetaProp m)) _ _ (expr.rolls-MetaProp _)
        (leaf_eq.meta_tree F C K fun_at class_at block_at _)
        (refl)
    bare-expr (o.PrivateName p) =
        bare-by exprs (expr_by (o.PrivateName p)) _ _ (expr.rolls-PrivateName _)
        (leaf_eq.private_expr_tree F C K fun_at class_at block_at _)
        (refl)
    bare-expr (o.Expr::Ident i) =
        bare-by exprs (expr_by (o.Expr::Ident i)) _ _ (expr.rolls-Ident _)
        (leaf_eq.ident_expr_tree F C K fun_at class_at block_at _)
        (refl)
    bare-expr (o.Lit l) =
        bare-by exprs (expr_by (o.Lit l)) _ _ (expr.rolls-Lit _)
        (leaf_eq.lit_expr_tree F C K fun_at class_at block_at _)
        (bare-lit l)
    bare-expr (o.Expr::Invalid i) =
        bare-by exprs (expr_by (o.Expr::Invalid i)) _ _ (expr.rolls-Invalid _)
        (leaf_eq.invalid_tree F C K fun_at class_at block_at _)
        (refl)

    bare-target : (y : AssignTarget-F F C K X1 X2 X3 X4 X5 X6) → Bare (target_at y)
    bare-target (o.Simple (simple.Ident b)) =
        bare-by targets (target_by (o.Simple (simple.Ident b))) _ _ (target.rolls-Simple (simple.Ident _))
        (eq.simple_target_tree F C K fun_at class_at block_at (simple.Ident _))
        (refl)
    bare-target (o.Simple (simple.Member m)) =
        bare-by targets (target_by (o.Simple (simple.Member m))) _ _ (target.rolls-Simple (simple.Member _))
        (eq.simple_target_tree F C K fun_at class_at block_at (simple.Member _))
        (bare-back exprs _ _ _ (expr.rolls-Member _) (eq.member_expr_tree F C K fun_at class_at block_at _)
        (bare-member m m.prop refl))
    bare-target (o.Simple (simple.SuperProp p)) =
        bare-by targets (target_by (o.Simple (simple.SuperProp p))) _ _ (target.rolls-Simple (simple.SuperProp _))
        (eq.simple_target_tree F C K fun_at class_at block_at (simple.SuperProp _))
        (bare-back exprs _ _ _ (expr.rolls-SuperProp _) (eq.super_prop_expr_tree F C K fun_at class_at block_at _)
        (bare-super p p.prop refl))
    bare-target (o.Simple (simple.Paren p)) =
        bare-by targets (target_by (o.Simple (simple.Paren p))) _ _ (target.rolls-Simple (simple.Paren _))
        (eq.simple_target_tree F C K fun_at class_at block_at (simple.Paren _))
        (bare-node refl (bare-cons (b2 p.expr.value) refl))
    bare-target (o.Simple (simple.OptChain c)) =
        bare-by targets (target_by (o.Simple (simple.OptChain c))) _ _ (target.rolls-Simple (simple.OptChain _))
        (eq.simple_target_tree F C K fun_at class_at block_at (simple.OptChain _))
        (bare-back exprs _ _ _ (expr.rolls-OptChain _) (eq.opt_chain_tree F C K fun_at class_at block_at _)
        (bare-chain c c.base.value refl))
    bare-target (o.AssignTarget::Array s elems) =
        bare-by targets (target_by (o.AssignTarget::Array s elems)) _ _ (target.rolls-Array _ _)
        (eq.array_target_tree F C K fun_at class_at block_at _ _)
        (bare-node refl (bare-list (or_hole pats) _ (bare-if pats _ refl (λ x. (_, refl, b4 x))) elems.items))
    bare-target (o.AssignTarget::Object s ps) =
        bare-by targets (target_by (o.AssignTarget::Object s ps)) _ _ (target.rolls-Object _ _)
        (eq.object_target_tree F C K fun_at class_at block_at _ _)
        (bare-node refl (bare-list pat_props _ b3 ps.items))

    bare-pat_prop : (y : ObjectPatProp-F F C K X1 X2 X3 X4 X5 X6) → Bare (pat_prop_at y)
    bare-pat_prop (o.ObjectPatProp::KeyValue s (prop_name.Ident i) v) =
        bare-by pat_props (pat_prop_by (o.ObjectPatProp::KeyValue s (prop_name.Ident i) v)) _ _
        (pat_prop.rolls-KeyValue _ (prop_name.Ident _) _)
        (eq.pat_key_value_tree F C K fun_at class_at block_at _ (prop_name.Ident _) _)
        (bare-node refl (bare-cons refl (bare-cons (b4 v.value) refl)))
    bare-pat_prop (o.ObjectPatProp::KeyValue s (prop_name.Str t) v) =
        bare-by pat_props (pat_prop_by (o.ObjectPatProp::KeyValue s (prop_name.Str t) v)) _ _
        (pat_prop.rolls-KeyValue _ (prop_name.Str _) _)
        (eq.pat_key_value_tree F C K fun_at class_at block_at _ (prop_name.Str _) _)
        (bare-node refl (bare-cons refl (bare-cons (b4 v.value) refl)))
    bare-pat_prop (o.ObjectPatProp::KeyValue s (prop_name.Num n) v) =
        bare-by pat_props (pat_prop_by (o.ObjectPatProp::KeyValue s (prop_name.Num n) v)) _ _
        (pat_prop.rolls-KeyValue _ (prop_name.Num _) _)
        (eq.pat_key_value_tree F C K fun_at class_at block_at _ (prop_name.Num _) _)
        (bare-node refl (bare-cons refl (bare-cons (b4 v.value) refl)))
    bare-pat_prop (o.ObjectPatProp::KeyValue s (prop_name.BigInt n) v) =
        bare-by pat_props (pat_prop_by (o.ObjectPatProp::KeyValue s (prop_name.BigInt n) v)) _ _
        (pat_prop.rolls-KeyValue _ (prop_name.BigInt _) _)
        (eq.pat_key_value_tree F C K fun_at class_at block_at _ (prop_name.BigInt _) _)
        (bare-node refl (bare-cons refl (bare-cons (b4 v.value) refl)))
    bare-pat_prop (o.ObjectPatProp::KeyValue s (prop_name.Computed c) v) =
        bare-by pat_props (pat_prop_by (o.ObjectPatProp::KeyValue s (prop_name.Computed c) v)) _ _
        (pat_prop.rolls-KeyValue _ (prop_name.Computed _) _)
        (eq.pat_key_value_tree F C K fun_at class_at block_at _ (prop_name.Computed _) _)
        (bare-node refl (bare-cons (bare-node refl (bare-cons (b2 c.expr.value) refl)) (bare-cons (b4 v.value) refl)))
    bare-pat_prop (o.ObjectPatProp::Assign s k None) =
        bare-by pat_props (pat_prop_by (o.ObjectPatProp::Assign s k None)) _ _ (pat_prop.rolls-Assign _ _ None)
        (leaf_eq.binding_prop_tree F C K fun_at class_at block_at _ _ None)
        (refl)
    bare-pat_prop (o.ObjectPatProp::Assign s k (Some v)) =
        bare-by pat_props (pat_prop_by (o.ObjectPatProp::Assign s k (Some v))) _ _ (pat_prop.rolls-Assign _ _ (Some _))
        (leaf_eq.binding_prop_tree F C K fun_at class_at block_at _ _ (Some _))
        (bare-node refl (bare-cons refl (bare-cons (b2 v.value) refl)))
    bare-pat_prop (o.ObjectPatProp::Rest r) =
        bare-by pat_props (pat_prop_by (o.ObjectPatProp::Rest r)) _ _ (pat_prop.rolls-Rest _)
        (leaf_eq.rest_prop_tree F C K fun_at class_at block_at _)
        (bare-node refl (bare-cons refl (bare-cons (b4 r.arg.value) refl)))

    bare-pat : (y : Pat-F F C K X1 X2 X3 X4 X5 X6) → Bare (pat_at y)
    bare-pat (o.Pat::Ident b) =
        bare-by pats (pat_by (o.Pat::Ident b)) _ _ (pat.rolls-Ident _)
        (leaf_eq.ident_pat_tree F C K fun_at class_at block_at _)
        (refl)
    bare-pat (o.Pat::Array s elems) =
        bare-by pats (pat_by (o.Pat::Array s elems)) _ _ (pat.rolls-Array _ _)
        (eq.array_pat_tree F C K fun_at class_at block_at _ _)
        (bare-node refl (bare-list (or_hole pats) _ (bare-if pats _ refl (λ x. (_, refl, b4 x))) elems.items))
    bare-pat (o.Pat::Object s ps) =
        bare-by pats (pat_by (o.Pat::Object s ps)) _ _ (pat.rolls-Object _ _)
        (eq.object_pat_tree F C K fun_at class_at block_at _ _)
        (bare-node refl (bare-list pat_props _ b3 ps.items))
    bare-pat (o.Pat::Rest r) =
        bare-by pats (pat_by (o.Pat::Rest r)) _ _ (pat.rolls-Rest _)
        (leaf_eq.rest_pat_tree F C K fun_at class_at block_at _)
        (bare-node refl (bare-cons refl (bare-cons (b4 r.arg.value) refl)))
    bare-pat (o.Pat::Assign s l r) =
        bare-by pats (pat_by (o.Pat::Assign s l r)) _ _ (pat.rolls-Assign _ _ _)
        (leaf_eq.default_tree F C K fun_at class_at block_at _ _ _)
        (bare-node refl (bare-cons (b4 l.value) (bare-cons (b2 r.value) refl)))
    bare-pat (o.Expr e) =
        bare-by pats (pat_by (o.Expr e)) _ _ (pat.rolls-Expr _) (leaf_eq.expr_pat_tree F C K fun_at class_at block_at _)
        (bare-node refl (bare-cons (b2 e.value) refl))
    bare-pat (o.Pat::Invalid i) =
        bare-by pats (pat_by (o.Pat::Invalid i)) _ _ (pat.rolls-Invalid _)
        (leaf_eq.invalid_pat_tree F C K fun_at class_at block_at _)
        (refl)

    bare-prop : (y : Prop-F F C K X1 X2 X3 X4 X5 X6) → Bare (prop_at y)
    bare-prop (o.Shorthand i) =
        bare-by props (prop_by (o.Shorthand i)) _ _ (prop.rolls-Shorthand _)
        (leaf_eq.shorthand_tree F C K fun_at class_at block_at _)
        (refl)
    bare-prop (o.Prop::KeyValue s (prop_name.Ident i) v) =
        bare-by props (prop_by (o.Prop::KeyValue s (prop_name.Ident i) v)) _ _
        (prop.rolls-KeyValue _ (prop_name.Ident _) _)
        (eq.key_value_tree F C K fun_at class_at block_at _ (prop_name.Ident _) _)
        (bare-node refl (bare-cons refl (bare-cons (b2 v.value) refl)))
    bare-prop (o.Prop::KeyValue s (prop_name.Str t) v) =
        bare-by props (prop_by (o.Prop::KeyValue s (prop_name.Str t) v)) _ _ (prop.rolls-KeyValue _ (prop_name.Str _) _)
        (eq.key_value_tree F C K fun_at class_at block_at _ (prop_name.Str _) _)
        (bare-node refl (bare-cons refl (bare-cons (b2 v.value) refl)))
    bare-prop (o.Prop::KeyValue s (prop_name.Num n) v) =
        bare-by props (prop_by (o.Prop::KeyValue s (prop_name.Num n) v)) _ _ (prop.rolls-KeyValue _ (prop_name.Num _) _)
        (eq.key_value_tree F C K fun_at class_at block_at _ (prop_name.Num _) _)
        (bare-node refl (bare-cons refl (bare-cons (b2 v.value) refl)))
    bare-prop (o.Prop::KeyValue s (prop_name.BigInt n) v) =
        bare-by props (prop_by (o.Prop::KeyValue s (prop_name.BigInt n) v)) _ _
        (prop.rolls-KeyValue _ (prop_name.BigInt _) _)
        (eq.key_value_tree F C K fun_at class_at block_at _ (prop_name.BigInt _) _)
        (bare-node refl (bare-cons refl (bare-cons (b2 v.value) refl)))
    bare-prop (o.Prop::KeyValue s (prop_name.Computed c) v) =
        bare-by props (prop_by (o.Prop::KeyValue s (prop_name.Computed c) v)) _ _
        (prop.rolls-KeyValue _ (prop_name.Computed _) _)
        (eq.key_value_tree F C K fun_at class_at block_at _ (prop_name.Computed _) _)
        (bare-node refl (bare-cons (bare-node refl (bare-cons (b2 c.expr.value) refl)) (bare-cons (b2 v.value) refl)))
    bare-prop (o.Prop::Assign p) =
        bare-by props (prop_by (o.Prop::Assign p)) _ _ (prop.rolls-Assign _)
        (leaf_eq.cover_prop_tree F C K fun_at class_at block_at _)
        (bare-node refl (bare-cons refl (bare-cons (b2 p.value.value) refl)))
    bare-prop (o.Method (prop_name.Ident i) f) =
        bare-by props (prop_by (o.Method (prop_name.Ident i) f)) _ _ (prop.rolls-Method (prop_name.Ident _) _)
        (eq.method_tree F C K fun_at class_at block_at (prop_name.Ident _) _)
        (bare-node refl (bare-cons refl
        (bare-cons (bare-node refl (bare-cons refl
        (bare-list (param_tree pats) _ bare-a-param f.value.params.items))) refl)))
    bare-prop (o.Method (prop_name.Str t) f) =
        bare-by props (prop_by (o.Method (prop_name.Str t) f)) _ _ (prop.rolls-Method (prop_name.Str _) _)
        (eq.method_tree F C K fun_at class_at block_at (prop_name.Str _) _)
        (bare-node refl (bare-cons refl
        (bare-cons (bare-node refl (bare-cons refl
        (bare-list (param_tree pats) _ bare-a-param f.value.params.items))) refl)))
    bare-prop (o.Method (prop_name.Num n) f) =
        bare-by props (prop_by (o.Method (prop_name.Num n) f)) _ _ (prop.rolls-Method (prop_name.Num _) _)
        (eq.method_tree F C K fun_at class_at block_at (prop_name.Num _) _)
        (bare-node refl (bare-cons refl
        (bare-cons (bare-node refl (bare-cons refl
        (bare-list (param_tree pats) _ bare-a-param f.value.params.items))) refl)))
    bare-prop (o.Method (prop_name.BigInt n) f) =
        bare-by props (prop_by (o.Method (prop_name.BigInt n) f)) _ _ (prop.rolls-Method (prop_name.BigInt _) _)
        (eq.method_tree F C K fun_at class_at block_at (prop_name.BigInt _) _)
        (bare-node refl (bare-cons refl
        (bare-cons (bare-node refl (bare-cons refl
        (bare-list (param_tree pats) _ bare-a-param f.value.params.items))) refl)))
    bare-prop (o.Method (prop_name.Computed c) f) =
        bare-by props (prop_by (o.Method (prop_name.Computed c) f)) _ _ (prop.rolls-Method (prop_name.Computed _) _)
        (eq.method_tree F C K fun_at class_at block_at (prop_name.Computed _) _)
        (bare-node refl (bare-cons (bare-node refl (bare-cons (b2 c.expr.value) refl))
        (bare-cons (bare-node refl (bare-cons refl
        (bare-list (param_tree pats) _ bare-a-param f.value.params.items))) refl)))
    bare-prop (o.Getter s (prop_name.Ident i) b) =
        bare-by props (prop_by (o.Getter s (prop_name.Ident i) b)) _ _ (prop.rolls-Getter _ (prop_name.Ident _) _)
        (eq.getter_tree F C K fun_at class_at block_at _ (prop_name.Ident _) _)
        (bare-node refl (bare-cons refl (bare-cons refl refl)))
    bare-prop (o.Getter s (prop_name.Str t) b) =
        bare-by props (prop_by (o.Getter s (prop_name.Str t) b)) _ _ (prop.rolls-Getter _ (prop_name.Str _) _)
        (eq.getter_tree F C K fun_at class_at block_at _ (prop_name.Str _) _)
        (bare-node refl (bare-cons refl (bare-cons refl refl)))
    bare-prop (o.Getter s (prop_name.Num n) b) =
        bare-by props (prop_by (o.Getter s (prop_name.Num n) b)) _ _ (prop.rolls-Getter _ (prop_name.Num _) _)
        (eq.getter_tree F C K fun_at class_at block_at _ (prop_name.Num _) _)
        (bare-node refl (bare-cons refl (bare-cons refl refl)))
    bare-prop (o.Getter s (prop_name.BigInt n) b) =
        bare-by props (prop_by (o.Getter s (prop_name.BigInt n) b)) _ _ (prop.rolls-Getter _ (prop_name.BigInt _) _)
        (eq.getter_tree F C K fun_at class_at block_at _ (prop_name.BigInt _) _)
        (bare-node refl (bare-cons refl (bare-cons refl refl)))
    bare-prop (o.Getter s (prop_name.Computed c) b) =
        bare-by props (prop_by (o.Getter s (prop_name.Computed c) b)) _ _ (prop.rolls-Getter _ (prop_name.Computed _) _)
        (eq.getter_tree F C K fun_at class_at block_at _ (prop_name.Computed _) _)
        (bare-node refl (bare-cons (bare-node refl (bare-cons (b2 c.expr.value) refl)) (bare-cons refl refl)))
    bare-prop (o.Setter s (prop_name.Ident i) p b) =
        bare-by props (prop_by (o.Setter s (prop_name.Ident i) p b)) _ _ (prop.rolls-Setter _ (prop_name.Ident _) _ _)
        (eq.setter_tree F C K fun_at class_at block_at _ (prop_name.Ident _) _ _)
        (bare-node refl (bare-cons refl (bare-cons (b4 p.value) (bare-cons refl refl))))
    bare-prop (o.Setter s (prop_name.Str t) p b) =
        bare-by props (prop_by (o.Setter s (prop_name.Str t) p b)) _ _ (prop.rolls-Setter _ (prop_name.Str _) _ _)
        (eq.setter_tree F C K fun_at class_at block_at _ (prop_name.Str _) _ _)
        (bare-node refl (bare-cons refl (bare-cons (b4 p.value) (bare-cons refl refl))))
    bare-prop (o.Setter s (prop_name.Num n) p b) =
        bare-by props (prop_by (o.Setter s (prop_name.Num n) p b)) _ _ (prop.rolls-Setter _ (prop_name.Num _) _ _)
        (eq.setter_tree F C K fun_at class_at block_at _ (prop_name.Num _) _ _)
        (bare-node refl (bare-cons refl (bare-cons (b4 p.value) (bare-cons refl refl))))
    bare-prop (o.Setter s (prop_name.BigInt n) p b) =
        bare-by props (prop_by (o.Setter s (prop_name.BigInt n) p b)) _ _ (prop.rolls-Setter _ (prop_name.BigInt _) _ _)
        (eq.setter_tree F C K fun_at class_at block_at _ (prop_name.BigInt _) _ _)
        (bare-node refl (bare-cons refl (bare-cons (b4 p.value) (bare-cons refl refl))))
    bare-prop (o.Setter s (prop_name.Computed c) p b) =
        bare-by props (prop_by (o.Setter s (prop_name.Computed c) p b)) _ _
        (prop.rolls-Setter _ (prop_name.Computed _) _ _)
        (eq.setter_tree F C K fun_at class_at block_at _ (prop_name.Computed _) _ _)
        (bare-node refl (bare-cons (bare-node refl (bare-cons (b2 c.expr.value) refl))
        (bare-cons (b4 p.value) (bare-cons refl refl))))

    bare-entry : (y : PropOrSpread-F F C K X1 X2 X3 X4 X5 X6) → Bare (entry_at y)
    bare-entry (o.Spread p) =
        bare-by items (entry_by (o.Spread p)) _ _ (either.rolls-Spread _)
        (leaf_eq.spread_item_tree F C K fun_at class_at block_at _)
        (bare-node refl (bare-cons refl (bare-cons (b2 p.expr.value) refl)))
    bare-entry (o.Prop p) =
        bare-by items (entry_by (o.Prop p)) _ _ (either.rolls-Prop _)
        (leaf_eq.prop_item_tree F C K fun_at class_at block_at _)
        (b5 p.value)

  pub bare-boxed : (e : Box (Expr F C K) Global) → unmarked
      (boxed_tree F C K fun_at class_at block_at e) ≡ boxed_tree F C K fun_at class_at block_at e
  bare-boxed e = ind-Expr F C K (λ x. Bare (targets x)) (λ x. Bare (exprs x)) (λ x. Bare (pat_props x))
      (λ x. Bare (pats x))
      (λ x. Bare (props x)) (λ x. Bare (items x))
      (λ x y is. subst (λ v. Bare (targets (roll-AssignTarget F C K v))) is (bare-target
      (λ e. e.0) (λ e. e.0) (λ e. e.0) (λ e. e.0) (λ e. e.0) (λ e. e.0) (λ e. e.1) (λ e. e.1) (λ e. e.1) (λ e. e.1)
      (λ e. e.1) (λ e. e.1) y))
      (λ x y is. subst (λ v. Bare (exprs (roll-Expr F C K v))) is (bare-expr
      (λ e. e.0) (λ e. e.0) (λ e. e.0) (λ e. e.0) (λ e. e.0) (λ e. e.0) (λ e. e.1) (λ e. e.1) (λ e. e.1) (λ e. e.1)
      (λ e. e.1) (λ e. e.1) y))
      (λ x y is. subst (λ v. Bare (pat_props (roll-ObjectPatProp F C K v))) is (bare-pat_prop
      (λ e. e.0) (λ e. e.0) (λ e. e.0) (λ e. e.0) (λ e. e.0) (λ e. e.0) (λ e. e.1) (λ e. e.1) (λ e. e.1) (λ e. e.1)
      (λ e. e.1) (λ e. e.1) y))
      (λ x y is. subst (λ v. Bare (pats (roll-Pat F C K v))) is (bare-pat
      (λ e. e.0) (λ e. e.0) (λ e. e.0) (λ e. e.0) (λ e. e.0) (λ e. e.0) (λ e. e.1) (λ e. e.1) (λ e. e.1) (λ e. e.1)
      (λ e. e.1) (λ e. e.1) y))
      (λ x y is. subst (λ v. Bare (props (roll-Prop F C K v))) is (bare-prop
      (λ e. e.0) (λ e. e.0) (λ e. e.0) (λ e. e.0) (λ e. e.0) (λ e. e.0) (λ e. e.1) (λ e. e.1) (λ e. e.1) (λ e. e.1)
      (λ e. e.1) (λ e. e.1) y))
      (λ x y is. subst (λ v. Bare (items (roll-PropOrSpread F C K v))) is (bare-entry
      (λ e. e.0) (λ e. e.0) (λ e. e.0) (λ e. e.0) (λ e. e.0) (λ e. e.0) (λ e. e.1) (λ e. e.1) (λ e. e.1) (λ e. e.1)
      (λ e. e.1) (λ e. e.1) y))
      e.value
