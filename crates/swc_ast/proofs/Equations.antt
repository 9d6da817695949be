-- The trees of values that hold lists, or parts of several forms.
use Rattle.std.proofs.Common.{◌≡◌, Bool, List, [], ◌∷◌, map, Option, refl, ap, rules}
use Rattle.std.specs.{declared.alloc.Global.Global, declared.boxed.Box.Box, declared.vec.Vec.Vec}
use Rattle.swc_context.specs.declared.span.Span.{Span}
use Rattle.swc_ast.specs.Parts.{leaf, or_hole, item_tree, item_trees, args_tree, callee_tree, member_tree, super_prop_tree, chain_tree, tpl_tree, body_tree, simple_tree, prop_name_tree, function_tree}
use Rattle.swc_ast.specs.Tree.{Tree, array, object, block, seq, call, new, tagged, arrow, key_value, method, getter, setter, node, trees, nil, cons}
use Rattle.swc_ast.specs.TreeOf.{expr_tree, pat_tree, pat_prop_tree, prop_tree, prop_or_spread_tree, target_tree, boxed_tree}
use Rattle.swc_ast.specs.{declared.expr.AssignTarget.TheFolds.the_lemmas, declared.expr.BlockStmtOrExpr.BlockStmtOrExpr, declared.expr.Callee.Callee, declared.expr.Expr.Expr, declared.expr.ExprOrSpread.ExprOrSpread, declared.expr.MemberExpr.MemberExpr, declared.expr.OptChainExpr.OptChainExpr, declared.expr.SimpleAssignTarget.SimpleAssignTarget, declared.expr.SuperPropExpr.SuperPropExpr, declared.expr.Tpl.Tpl, declared.function.Function.Function, declared.pat.ObjectPatProp.ObjectPatProp, declared.pat.Pat.Pat, declared.prop.PropName.PropName, declared.prop.PropOrSpread.PropOrSpread}
use Rattle.swc_ast.specs.declared.expr.AssignTarget.TheVariants as target
use Rattle.swc_ast.specs.declared.expr.Expr.TheVariants as expr
use Rattle.swc_ast.specs.declared.pat.ObjectPatProp.TheVariants as pat_prop
use Rattle.swc_ast.specs.declared.pat.Pat.TheVariants as pat
use Rattle.swc_ast.specs.declared.prop.Prop.TheVariants as prop

pub map_map : {A B C : Type 0} (f : A → B) (g : B → C) (xs : List A) → map g (map f xs) ≡ map (λ x. g (f x)) xs
map_map f g [] = refl
map_map f g (x ∷ xs) = ap (λ ys. g (f x) ∷ ys) (map_map f g xs)

module _ (F C K : Type 0) (fun_at : F → Span) (class_at : C → Span) (block_at : K → Span) where
  abbrev E : Type 0
  E = Box (Expr F C K) Global

  abbrev P : Type 0
  P = Pat F C K

  abbrev boxed : E → Tree F C K
  boxed = boxed_tree F C K fun_at class_at block_at

  pub array_tree : (s : Span) (elems : Vec (Option (ExprOrSpread E)) Global)
      → expr_tree F C K fun_at class_at block_at (expr.Array s elems) ≡ node array s
      (trees (map (or_hole (item_tree boxed)) elems.items))
  array_tree s elems = search (rules, the_lemmas, map_map)

  pub object_tree : (s : Span) (props : Vec (PropOrSpread F C K) Global)
      → expr_tree F C K fun_at class_at block_at (expr.Object s props) ≡ node object s
      (trees (map (prop_or_spread_tree F C K fun_at class_at block_at) props.items))
  object_tree s props = search (rules, the_lemmas)

  pub seq_tree : (s : Span) (es : Vec E Global) → expr_tree F C K fun_at class_at block_at (expr.Seq s es) ≡ node seq s
      (trees (map boxed es.items))
  seq_tree s es = search (rules, the_lemmas, map_map)

  pub member_expr_tree : (m : MemberExpr E) → expr_tree F C K fun_at class_at block_at
      (expr.Member m) ≡ member_tree boxed m
  member_expr_tree m = search (rules, the_lemmas, map_map)

  pub super_prop_expr_tree : (p : SuperPropExpr E) → expr_tree F C K fun_at class_at block_at
      (expr.SuperProp p) ≡ super_prop_tree boxed p
  super_prop_expr_tree p = search (rules, the_lemmas, map_map)

  pub call_expr_tree : (s : Span) (c : Callee E) (xs : Vec (ExprOrSpread E) Global)
      → expr_tree F C K fun_at class_at block_at (expr.Call s c xs) ≡ node call s
      (cons (callee_tree boxed c) (item_trees boxed xs.items))
  call_expr_tree s c xs = search (rules, the_lemmas, map_map)

  pub new_tree : (s : Span) (c : E) (xs : Option (Vec (ExprOrSpread E) Global))
      → expr_tree F C K fun_at class_at block_at (expr.New s c xs) ≡ node new s
      (cons (boxed c) (cons (or_hole (args_tree boxed) xs) nil))
  new_tree s c xs = search (rules, the_lemmas, map_map)

  pub opt_chain_tree : (c : OptChainExpr E) → expr_tree F C K fun_at class_at block_at
      (expr.OptChain c) ≡ chain_tree boxed c
  opt_chain_tree c = search (rules, the_lemmas, map_map)

  pub tpl_expr_tree : (t : Tpl E) → expr_tree F C K fun_at class_at block_at (expr.Tpl t) ≡ tpl_tree boxed t
  tpl_expr_tree t = search (rules, the_lemmas, map_map)

  pub tagged_tree : (s : Span) (t : E) (q : Box (Tpl E) Global)
      → expr_tree F C K fun_at class_at block_at (expr.TaggedTpl s t q) ≡ node tagged s
      (cons (boxed t) (cons (tpl_tree boxed q.value) nil))
  tagged_tree s t q = search (rules, the_lemmas, map_map)

  pub arrow_tree : (s : Span) (ps : Vec P Global) (b : Box (BlockStmtOrExpr E K) Global) (is_async : Bool)
      → expr_tree F C K fun_at class_at block_at (expr.Arrow s ps b is_async) ≡ node (arrow is_async) s
      (cons (body_tree block_at boxed b.value) (trees (map (pat_tree F C K fun_at class_at block_at) ps.items)))
  arrow_tree s ps b is_async = search (rules, the_lemmas, map_map)

  pub simple_target_tree : (t : SimpleAssignTarget E) → target_tree F C K fun_at class_at block_at
      (target.Simple t) ≡ simple_tree boxed t
  simple_target_tree t = search (rules, the_lemmas, map_map)

  pub array_target_tree : (s : Span) (elems : Vec (Option P) Global)
      → target_tree F C K fun_at class_at block_at (target.Array s elems) ≡ node array s
      (trees (map (or_hole (pat_tree F C K fun_at class_at block_at)) elems.items))
  array_target_tree s elems = search (rules, the_lemmas, map_map)

  pub object_target_tree : (s : Span) (props : Vec (ObjectPatProp F C K) Global)
      → target_tree F C K fun_at class_at block_at (target.Object s props) ≡ node object s
      (trees (map (pat_prop_tree F C K fun_at class_at block_at) props.items))
  object_target_tree s props = search (rules, the_lemmas)

  pub array_pat_tree : (s : Span) (elems : Vec (Option P) Global)
      → pat_tree F C K fun_at class_at block_at (pat.Array s elems) ≡ node array s
      (trees (map (or_hole (pat_tree F C K fun_at class_at block_at)) elems.items))
  array_pat_tree s elems = search (rules, the_lemmas, map_map)

  pub object_pat_tree : (s : Span) (props : Vec (ObjectPatProp F C K) Global)
      → pat_tree F C K fun_at class_at block_at (pat.Object s props) ≡ node object s
      (trees (map (pat_prop_tree F C K fun_at class_at block_at) props.items))
  object_pat_tree s props = search (rules, the_lemmas)

  pub pat_key_value_tree : (s : Span) (k : PropName E) (v : Box P Global)
      → pat_prop_tree F C K fun_at class_at block_at (pat_prop.KeyValue s k v) ≡ node key_value s
      (cons (prop_name_tree boxed k) (cons (pat_tree F C K fun_at class_at block_at v.value) nil))
  pat_key_value_tree s k v = search (rules, the_lemmas, map_map)

  pub key_value_tree : (s : Span) (k : PropName E) (v : E)
      → prop_tree F C K fun_at class_at block_at (prop.KeyValue s k v) ≡ node key_value s
      (cons (prop_name_tree boxed k) (cons (boxed v) nil))
  key_value_tree s k v = search (rules, the_lemmas, map_map)

  pub method_tree : (k : PropName E) (f : Box (Function P K) Global)
      → prop_tree F C K fun_at class_at block_at (prop.Method k f) ≡ node method f.value.span
      (cons (prop_name_tree boxed k)
      (cons (function_tree block_at (pat_tree F C K fun_at class_at block_at) f.value) nil))
  method_tree k f = search (rules, the_lemmas, map_map)

  pub getter_tree : (s : Span) (k : PropName E) (b : K)
      → prop_tree F C K fun_at class_at block_at (prop.Getter s k b) ≡ node getter s
      (cons (prop_name_tree boxed k) (cons (leaf (block b) (block_at b)) nil))
  getter_tree s k b = search (rules, the_lemmas, map_map)

  pub setter_tree : (s : Span) (k : PropName E) (p : Box P Global) (b : K)
      → prop_tree F C K fun_at class_at block_at (prop.Setter s k p b) ≡ node setter s
      (cons (prop_name_tree boxed k) (cons (pat_tree F C K fun_at class_at block_at p.value)
      (cons (leaf (block b) (block_at b)) nil)))
  setter_tree s k p b = search (rules, the_lemmas, map_map)

pub ruleset tree_of_lists = (
  array_tree,
  object_tree,
  seq_tree,
  member_expr_tree,
  super_prop_expr_tree,
  call_expr_tree,
  new_tree,
  opt_chain_tree,
  tpl_expr_tree,
  tagged_tree,
  arrow_tree,
  simple_target_tree,
  array_target_tree,
  object_target_tree,
  array_pat_tree,
  object_pat_tree,
  pat_key_value_tree,
  key_value_tree,
  method_tree,
  getter_tree,
  setter_tree,
)
