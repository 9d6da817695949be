-- The tree that an expression, a pattern, a property or a target of the program stands for.
use Rattle.std.specs.{Prelude.map, declared.alloc.Global.Global, declared.boxed.Box.Box}
use Rattle.swc_context.specs.declared.span.Span.{Span}
use Rattle.swc_ast.specs.declared.expr.AssignTarget.TheFolds.{fold-AssignTarget, fold-Expr, fold-ObjectPatProp, fold-Pat, fold-Prop, fold-PropOrSpread}
use Rattle.swc_ast.specs.Tree.{this, array, object, fun, class, block, unary, update, bin, assign, cond, seq, call, new, tagged, arrow, await, yield, meta, invalid, shorthand, key_value, method, getter, setter, binding_prop, default, pat_expr, Tree, node, nil, cons, trees, span_of}
use Rattle.swc_ast.specs.Parts.{leaf, or_hole, unbox, ident_tree, binding_tree, private_tree, lit_tree, prop_name_tree, item_tree, item_trees, args_tree, paren_tree, member_tree, super_prop_tree, chain_tree, callee_tree, tpl_tree, body_tree, simple_tree, rest_tree, function_tree, cover_tree, spread_tree}
use Rattle.swc_ast.specs.{declared.expr.AssignTarget.AssignTarget, declared.expr.Expr.Expr, declared.pat.ObjectPatProp.ObjectPatProp, declared.pat.Pat.Pat, declared.prop.Prop.Prop, declared.prop.PropOrSpread.PropOrSpread}
use Rattle.swc_ast.specs.declared.expr.AssignTarget.TheOpen as o

-- the hook's types, and where their values are
module _ (F C K : Type 0) (fun_at : F → Span) (class_at : C → Span) (block_at : K → Span) where
  abbrev T : Type 0
  T = Tree F C K

  abbrev block_tree : K → T
  block_tree k = leaf (block k) (block_at k)

  -- one level of each type, over the trees of its parts
  abbrev target_step : o.AssignTarget-F F C K T T T T T T → T
  target_step (o.Simple s) = simple_tree unbox s
  target_step (o.AssignTarget::Array s elems) = node array s (trees (map (or_hole (λ t. t)) elems.items))
  target_step (o.AssignTarget::Object s props) = node object s (trees props.items)

  -- of an arrow function the body comes first, then the parameters
  abbrev expr_step : o.Expr-F F C K T T T T T T → T
  expr_step (o.This e) = leaf this e.span
  expr_step (o.Expr::Array s elems) = node array s (trees (map (or_hole (item_tree unbox)) elems.items))
  expr_step (o.Expr::Object s props) = node object s (trees props.items)
  expr_step (o.Fn f) = leaf (fun f) (fun_at f)
  expr_step (o.Class c) = leaf (class c) (class_at c)
  expr_step (o.Unary s op a) = node (unary op) s (cons a.value nil)
  expr_step (o.Update s op prefix a) = node (update op prefix) s (cons a.value nil)
  expr_step (o.Bin s op l r) = node (bin op) s (cons l.value (cons r.value nil))
  expr_step (o.Expr::Assign s op l r) = node (assign op) s (cons l (cons r.value nil))
  expr_step (o.Cond s t c a) = node cond s (cons t.value (cons c.value (cons a.value nil)))
  expr_step (o.Seq s es) = node seq s (trees (map unbox es.items))
  expr_step (o.Paren p) = paren_tree unbox p
  expr_step (o.Member m) = member_tree unbox m
  expr_step (o.SuperProp p) = super_prop_tree unbox p
  expr_step (o.Call s c xs) = node call s (cons (callee_tree unbox c) (item_trees unbox xs.items))
  expr_step (o.New s c xs) = node new s (cons c.value (cons (or_hole (args_tree unbox) xs) nil))
  expr_step (o.OptChain c) = chain_tree unbox c
  expr_step (o.Tpl t) = tpl_tree unbox t
  expr_step (o.TaggedTpl s t q) = node tagged s (cons t.value (cons (tpl_tree unbox q.value) nil))
  expr_step (o.Arrow s ps b is_async) = node (arrow is_async) s
      (cons (body_tree block_at unbox b.value) (trees ps.items))
  expr_step (o.Await s a) = node await s (cons a.value nil)
  expr_step (o.Yield s a delegate) = node (yield delegate) s (cons (or_hole unbox a) nil)
  expr_step (o.MetaProp m) = leaf (meta m.kind) m.span
  expr_step (o.PrivateName p) = private_tree p
  expr_step (o.Expr::Ident i) = ident_tree i
  expr_step (o.Lit l) = lit_tree l
  expr_step (o.Expr::Invalid i) = leaf invalid i.span

  abbrev pat_prop_step : o.ObjectPatProp-F F C K T T T T T T → T
  pat_prop_step (o.ObjectPatProp::KeyValue s k v) = node key_value s (cons (prop_name_tree unbox k) (cons v.value nil))
  pat_prop_step (o.ObjectPatProp::Assign s k v) = node binding_prop s
      (cons (binding_tree k) (cons (or_hole unbox v) nil))
  pat_prop_step (o.ObjectPatProp::Rest r) = rest_tree (λ t. t) r

  abbrev pat_step : o.Pat-F F C K T T T T T T → T
  pat_step (o.Pat::Ident b) = binding_tree b
  pat_step (o.Pat::Array s elems) = node array s (trees (map (or_hole (λ t. t)) elems.items))
  pat_step (o.Pat::Object s props) = node object s (trees props.items)
  pat_step (o.Pat::Rest r) = rest_tree (λ t. t) r
  pat_step (o.Pat::Assign s l r) = node default s (cons l.value (cons r.value nil))
  pat_step (o.Expr e) = node pat_expr (span_of e.value) (cons e.value nil)
  pat_step (o.Pat::Invalid i) = leaf invalid i.span

  abbrev prop_step : o.Prop-F F C K T T T T T T → T
  prop_step (o.Shorthand i) = node shorthand i.span (cons (ident_tree i) nil)
  prop_step (o.Prop::KeyValue s k v) = node key_value s (cons (prop_name_tree unbox k) (cons v.value nil))
  prop_step (o.Prop::Assign p) = cover_tree unbox p
  prop_step (o.Method k f) = node method f.value.span (cons (prop_name_tree unbox k)
      (cons (function_tree block_at (λ t. t) f.value) nil))
  prop_step (o.Getter s k b) = node getter s (cons (prop_name_tree unbox k) (cons (block_tree b) nil))
  prop_step (o.Setter s k p b) = node setter s (cons (prop_name_tree unbox k) (cons p.value (cons (block_tree b) nil)))

  abbrev item_step : o.PropOrSpread-F F C K T T T T T T → T
  item_step (o.Spread s) = spread_tree unbox s
  item_step (o.Prop p) = p.value

  abbrev pub target_tree : AssignTarget F C K → T
  target_tree = fold-AssignTarget F C K T T T T T T target_step expr_step pat_prop_step pat_step prop_step item_step

  abbrev pub expr_tree : Expr F C K → T
  expr_tree = fold-Expr F C K T T T T T T target_step expr_step pat_prop_step pat_step prop_step item_step

  abbrev pub pat_prop_tree : ObjectPatProp F C K → T
  pat_prop_tree = fold-ObjectPatProp F C K T T T T T T target_step expr_step pat_prop_step pat_step prop_step item_step

  abbrev pub pat_tree : Pat F C K → T
  pat_tree = fold-Pat F C K T T T T T T target_step expr_step pat_prop_step pat_step prop_step item_step

  abbrev pub prop_tree : Prop F C K → T
  prop_tree = fold-Prop F C K T T T T T T target_step expr_step pat_prop_step pat_step prop_step item_step

  abbrev pub prop_or_spread_tree : PropOrSpread F C K → T
  prop_or_spread_tree = fold-PropOrSpread F C K T T T T T T target_step expr_step pat_prop_step pat_step prop_step
      item_step

  -- what is in a box
  abbrev pub boxed_tree : Box (Expr F C K) Global → T
  boxed_tree b = expr_tree b.value
