-- The trees of the other values: those that hold no list.
use Rattle.std.proofs.Common.{◌≡◌, Bool, Option, rules}
use Rattle.std.specs.{declared.alloc.Global.Global, declared.boxed.Box.Box}
use Rattle.swc_context.specs.{declared.operator.AssignOp.AssignOp, declared.operator.BinaryOp.BinaryOp, declared.operator.UnaryOp.UnaryOp, declared.operator.UpdateOp.UpdateOp, declared.span.Span.Span}
use Rattle.swc_ast.proofs.Equations.{map_map}
use Rattle.swc_ast.specs.Parts.{leaf, or_hole, ident_tree, binding_tree, private_tree, lit_tree, paren_tree, rest_tree, cover_tree, spread_tree}
use Rattle.swc_ast.specs.Tree.{Tree, this, fun, class, meta, invalid, unary, update, bin, assign, cond, await, yield, default, pat_expr, binding_prop, shorthand, node, nil, cons, span_of}
use Rattle.swc_ast.specs.TreeOf.{expr_tree, pat_tree, pat_prop_tree, prop_tree, prop_or_spread_tree, target_tree, boxed_tree}
use Rattle.swc_ast.specs.{declared.expr.AssignTarget.AssignTarget, declared.expr.AssignTarget.TheFolds.the_lemmas, declared.expr.Expr.Expr, declared.expr.Invalid.Invalid, declared.expr.MetaPropExpr.MetaPropExpr, declared.expr.ParenExpr.ParenExpr, declared.expr.ThisExpr.ThisExpr, declared.ident.BindingIdent.BindingIdent, declared.ident.Ident.Ident, declared.ident.PrivateName.PrivateName, declared.lit.Lit.Lit, declared.pat.Pat.Pat, declared.pat.RestPat.RestPat, declared.prop.AssignProp.AssignProp, declared.prop.Prop.Prop, declared.prop.SpreadElement.SpreadElement}
use Rattle.swc_ast.specs.declared.expr.Expr.TheVariants as expr
use Rattle.swc_ast.specs.declared.pat.ObjectPatProp.TheVariants as pat_prop
use Rattle.swc_ast.specs.declared.pat.Pat.TheVariants as pat
use Rattle.swc_ast.specs.declared.prop.Prop.TheVariants as prop
use Rattle.swc_ast.specs.declared.prop.PropOrSpread.TheVariants as item

module _ (F C K : Type 0) (fun_at : F → Span) (class_at : C → Span) (block_at : K → Span) where
  abbrev E : Type 0
  E = Box (Expr F C K) Global

  abbrev P : Type 0
  P = Pat F C K

  abbrev boxed : E → Tree F C K
  boxed = boxed_tree F C K fun_at class_at block_at

  pub this_tree : (e : ThisExpr) → expr_tree F C K fun_at class_at block_at (expr.This e) ≡ leaf this e.span
  this_tree e = search (rules, the_lemmas)

  pub fn_tree : (f : F) → expr_tree F C K fun_at class_at block_at (expr.Fn f) ≡ leaf (fun f) (fun_at f)
  fn_tree f = search (rules, the_lemmas)

  pub class_tree : (f : C) → expr_tree F C K fun_at class_at block_at (expr.Class f) ≡ leaf (class f) (class_at f)
  class_tree f = search (rules, the_lemmas)

  pub meta_tree : (m : MetaPropExpr) → expr_tree F C K fun_at class_at block_at (expr.MetaProp m) ≡ leaf
      (meta m.kind) m.span
  meta_tree m = search (rules, the_lemmas)

  pub private_expr_tree : (p : PrivateName) → expr_tree F C K fun_at class_at block_at
      (expr.PrivateName p) ≡ private_tree p
  private_expr_tree p = search (rules, the_lemmas)

  pub ident_expr_tree : (i : Ident) → expr_tree F C K fun_at class_at block_at (expr.Ident i) ≡ ident_tree i
  ident_expr_tree i = search (rules, the_lemmas)

  pub lit_expr_tree : (l : Lit) → expr_tree F C K fun_at class_at block_at (expr.Lit l) ≡ lit_tree l
  lit_expr_tree l = search (rules, the_lemmas)

  pub invalid_tree : (i : Invalid) → expr_tree F C K fun_at class_at block_at (expr.Invalid i) ≡ leaf invalid i.span
  invalid_tree i = search (rules, the_lemmas)

  pub unary_tree : (s : Span) (op : UnaryOp) (a : E) → expr_tree F C K fun_at class_at block_at
      (expr.Unary s op a) ≡ node (unary op) s (cons (boxed a) nil)
  unary_tree s op a = search (rules, the_lemmas)

  pub update_tree : (s : Span) (op : UpdateOp) (p : Bool) (a : E)
      → expr_tree F C K fun_at class_at block_at (expr.Update s op p a) ≡ node (update op p) s (cons (boxed a) nil)
  update_tree s op p a = search (rules, the_lemmas)

  pub bin_tree : (s : Span) (op : BinaryOp) (l : E) (r : E)
      → expr_tree F C K fun_at class_at block_at (expr.Bin s op l r) ≡ node (bin op) s
      (cons (boxed l) (cons (boxed r) nil))
  bin_tree s op l r = search (rules, the_lemmas)

  pub assign_tree : (s : Span) (op : AssignOp) (l : AssignTarget F C K) (r : E)
      → expr_tree F C K fun_at class_at block_at (expr.Assign s op l r) ≡ node (assign op) s
      (cons (target_tree F C K fun_at class_at block_at l) (cons (boxed r) nil))
  assign_tree s op l r = search (rules, the_lemmas)

  pub cond_tree : (s : Span) (t : E) (c : E) (a : E) → expr_tree F C K fun_at class_at block_at
      (expr.Cond s t c a) ≡ node cond s (cons (boxed t) (cons (boxed c) (cons (boxed a) nil)))
  cond_tree s t c a = search (rules, the_lemmas)

  pub paren_expr_tree : (p : ParenExpr E) → expr_tree F C K fun_at class_at block_at (expr.Paren p) ≡ paren_tree boxed p
  paren_expr_tree p = search (rules, the_lemmas)

  pub await_tree : (s : Span) (a : E) → expr_tree F C K fun_at class_at block_at (expr.Await s a) ≡ node await s
      (cons (boxed a) nil)
  await_tree s a = search (rules, the_lemmas)

  pub yield_tree : (s : Span) (a : Option E) (d : Bool)
      → expr_tree F C K fun_at class_at block_at (expr.Yield s a d) ≡ node (yield d) s (cons (or_hole boxed a) nil)
  yield_tree s a d = search (rules, the_lemmas, map_map)

  pub ident_pat_tree : (b : BindingIdent) → pat_tree F C K fun_at class_at block_at (pat.Ident b) ≡ binding_tree b
  ident_pat_tree b = search (rules, the_lemmas)

  pub invalid_pat_tree : (i : Invalid) → pat_tree F C K fun_at class_at block_at (pat.Invalid i) ≡ leaf invalid i.span
  invalid_pat_tree i = search (rules, the_lemmas)

  pub rest_pat_tree : (r : RestPat P) → pat_tree F C K fun_at class_at block_at (pat.Rest r) ≡ rest_tree
      (pat_tree F C K fun_at class_at block_at) r
  rest_pat_tree r = search (rules, the_lemmas)

  pub default_tree : (s : Span) (l : Box P Global) (r : E)
      → pat_tree F C K fun_at class_at block_at (pat.Assign s l r) ≡ node default s
      (cons (pat_tree F C K fun_at class_at block_at l.value) (cons (boxed r) nil))
  default_tree s l r = search (rules, the_lemmas)

  pub expr_pat_tree : (e : E) → pat_tree F C K fun_at class_at block_at (pat.Expr e) ≡ node pat_expr (span_of (boxed e))
      (cons (boxed e) nil)
  expr_pat_tree e = search (rules, the_lemmas)

  pub binding_prop_tree : (s : Span) (k : BindingIdent) (v : Option E)
      → pat_prop_tree F C K fun_at class_at block_at (pat_prop.Assign s k v) ≡ node binding_prop s
      (cons (binding_tree k) (cons (or_hole boxed v) nil))
  binding_prop_tree s k v = search (rules, the_lemmas, map_map)

  pub rest_prop_tree : (r : RestPat P) → pat_prop_tree F C K fun_at class_at block_at (pat_prop.Rest r) ≡ rest_tree
      (pat_tree F C K fun_at class_at block_at) r
  rest_prop_tree r = search (rules, the_lemmas)

  pub shorthand_tree : (i : Ident) → prop_tree F C K fun_at class_at block_at (prop.Shorthand i) ≡ node shorthand i.span
      (cons (ident_tree i) nil)
  shorthand_tree i = search (rules, the_lemmas)

  pub cover_prop_tree : (p : AssignProp E) → prop_tree F C K fun_at class_at block_at
      (prop.Assign p) ≡ cover_tree boxed p
  cover_prop_tree p = search (rules, the_lemmas)

  pub spread_item_tree : (p : SpreadElement E) → prop_or_spread_tree F C K fun_at class_at block_at
      (item.Spread p) ≡ spread_tree boxed p
  spread_item_tree p = search (rules, the_lemmas)

  pub prop_item_tree : (p : Box (Prop F C K) Global) → prop_or_spread_tree F C K fun_at class_at block_at
      (item.Prop p) ≡ prop_tree F C K fun_at class_at block_at p.value
  prop_item_tree p = search (rules, the_lemmas)
