-- Where the parts are that are no node of their own, in worked rows, by computation.
use Rattle.std.proofs.Common.{◌≡◌, ℕ, true, Option, Some, None, List, refl, rules}
use Rattle.std.specs.{declared.alloc.Global.Global, declared.boxed.Box.Box, declared.vec.Vec.Vec}
use Rattle.swc_context.specs.declared.span.Span.{Span}
use Rattle.swc_ast.specs.Spans.{item_span, callee_span, body_span, simple_target_span, export_name_span}
use Rattle.swc_ast.specs.TreeOf.{target_tree, prop_tree, prop_or_spread_tree, pat_prop_tree}
use Rattle.swc_ast.specs.{declared.expr.AssignTarget.AssignTarget, declared.expr.AssignTarget.TheFolds.the_lemmas, declared.expr.BlockStmtOrExpr.BlockStmtOrExpr as body, declared.expr.Callee.Callee as callee, declared.expr.Expr.Expr, declared.expr.ImportPhase.ImportPhase, declared.expr.MemberProp.MemberProp, declared.expr.OptChainBase.OptChainBase, declared.expr.SimpleAssignTarget.SimpleAssignTarget as simple, declared.expr.SuperProp.SuperProp, declared.expr.Super.Super, declared.function.Function.Function, declared.ident.BindingIdent.BindingIdent, declared.ident.Ident.Ident, declared.ident.ModuleExportName.ModuleExportName as export, declared.pat.ObjectPatProp.ObjectPatProp, declared.pat.Pat.Pat, declared.prop.Prop.Prop, declared.prop.PropName.PropName, Tree.span_of}
use Rattle.swc_ast.specs.declared.expr.AssignTarget.TheVariants as target
use Rattle.swc_ast.specs.declared.pat.ObjectPatProp.TheVariants as pat_prop
use Rattle.swc_ast.specs.declared.prop.Prop.TheVariants as prop
use Rattle.swc_ast.specs.declared.prop.PropOrSpread.TheVariants as item

abbrev at : ℕ → ℕ → Span
at lo hi = record { lo = record { 0 = lo }; hi = record { 0 = hi } }

-- an item that is at 5..6, without dots and with dots at 2..5
plain_item : item_span None (at 5 6) ≡ at 5 6
plain_item = refl

spread_item : item_span (Some (at 2 5)) (at 5 6) ≡ at 2 6
spread_item = refl

-- a name at 9..10, and a string at 1..5
exported_name : (w : List ℕ) → export_name_span (export.Ident (record { span = at 9 10; sym = w })) ≡ at 9 10
exported_name w = refl

exported_string : (w raw : List ℕ) → export_name_span (export.Str
    (record { span = at 1 5; value = w; raw = raw })) ≡ at 1 5
exported_string w raw = refl

module _ (E : Type 0) (expr_at : E → Span) where
  -- super, import, and an expression at 0..1
  called_super : callee_span expr_at (callee.Super (record { span = at 0 5 })) ≡ at 0 5
  called_super = refl

  called_import : (p : ImportPhase) → callee_span expr_at (callee.Import (record { span = at 0 6; phase = p })) ≡ at 0 6
  called_import p = refl

  called_expr : (e : E) → callee_span (λ e. at 0 1) (callee.Expr e) ≡ at 0 1
  called_expr e = refl

  -- the body of an arrow function: a block at 6..8, an expression at 6..7
  block_body : (K : Type 0) (k : K) → body_span expr_at (λ k. at 6 8) (body.BlockStmt k) ≡ at 6 8
  block_body K k = refl

  expr_body : (K : Type 0) (block_at : K → Span) (e : E) → body_span (λ e. at 6 7) block_at (body.Expr e) ≡ at 6 7
  expr_body K block_at e = refl

  -- a, a.b, super.a, (a) and a?.b, as targets
  name_target : (w : List ℕ) → simple_target_span {E = E}
      (simple.Ident (record { id = record { span = at 0 1; sym = w } })) ≡ at 0 1
  name_target w = refl

  member_target : (e : E) (p : MemberProp E) → simple_target_span
      (simple.Member (record { span = at 0 3; obj = e; prop = p })) ≡ at 0 3
  member_target e p = refl

  super_target : (s : Super) (p : SuperProp E) → simple_target_span
      (simple.SuperProp (record { span = at 0 7; obj = s; prop = p })) ≡ at 0 7
  super_target s p = refl

  paren_target : (e : E) → simple_target_span (simple.Paren (record { span = at 0 3; expr = e })) ≡ at 0 3
  paren_target e = refl

  chain_target : (b : Box (OptChainBase E) Global) → simple_target_span
      (simple.OptChain (record { span = at 0 4; optional = true; base = b })) ≡ at 0 4
  chain_target b = refl

module _ (F C K : Type 0) (fun_at : F → Span) (class_at : C → Span) (block_at : K → Span) where
  abbrev E : Type 0
  E = Box (Expr F C K) Global

  abbrev P : Type 0
  P = Pat F C K

  -- a target that is no pattern, at 0..3; an array pattern; an object pattern
  abbrev target_at : AssignTarget F C K → Span
  target_at t = span_of (target_tree F C K fun_at class_at block_at t)

  simple_target : (e : E) (p : MemberProp E) → target_at
      (target.Simple (simple.Member (record { span = at 0 3; obj = e; prop = p }))) ≡ at 0 3
  simple_target e p = search (rules, the_lemmas)

  array_target : (ps : Vec (Option P) Global) → target_at (target.Array (at 0 3) ps) ≡ at 0 3
  array_target ps = search (rules, the_lemmas)

  object_target : (ps : Vec (ObjectPatProp F C K) Global) → target_at (target.Object (at 0 2) ps) ≡ at 0 2
  object_target ps = search (rules, the_lemmas)

  -- the properties of an object literal
  abbrev prop_at : Prop F C K → Span
  prop_at p = span_of (prop_tree F C K fun_at class_at block_at p)

  shorthand_prop : (w : List ℕ) → prop_at (prop.Shorthand (record { span = at 1 2; sym = w })) ≡ at 1 2
  shorthand_prop w = search (rules, the_lemmas)

  key_value_prop : (k : PropName E) (e : E) → prop_at (prop.KeyValue (at 1 9) k e) ≡ at 1 9
  key_value_prop k e = search (rules, the_lemmas)

  assign_prop : (i : Ident) (e : E) → prop_at (prop.Assign (record { span = at 1 6; key = i; value = e })) ≡ at 1 6
  assign_prop i e = search (rules, the_lemmas)

  -- a method is where its function does
  method_prop : (k : PropName E) (f : Box (Function P K) Global) → prop_at (prop.Method k f) ≡ f.value.span
  method_prop k f = search (rules, the_lemmas)

  getter_prop : (k : PropName E) (b : K) → prop_at (prop.Getter (at 1 11) k b) ≡ at 1 11
  getter_prop k b = search (rules, the_lemmas)

  setter_prop : (k : PropName E) (p : Box P Global) (b : K) → prop_at (prop.Setter (at 1 15) k p b) ≡ at 1 15
  setter_prop k p b = search (rules, the_lemmas)

  -- an item of an object literal: dots and an expression, or a property
  spread_in_object : (e : E) → span_of (prop_or_spread_tree F C K fun_at class_at block_at
      (item.Spread (record { span = at 4 8; dot3_token = at 4 7; expr = e }))) ≡ at 4 8
  spread_in_object e = search (rules, the_lemmas)

  prop_in_object : (p : Box (Prop F C K) Global) → span_of
      (prop_or_spread_tree F C K fun_at class_at block_at (item.Prop p)) ≡ prop_at p.value
  prop_in_object p = search (rules, the_lemmas)

  -- the items of an object pattern
  abbrev pat_prop_at : ObjectPatProp F C K → Span
  pat_prop_at p = span_of (pat_prop_tree F C K fun_at class_at block_at p)

  key_value_pat : (k : PropName E) (p : Box P Global) → pat_prop_at (pat_prop.KeyValue (at 1 5) k p) ≡ at 1 5
  key_value_pat k p = search (rules, the_lemmas)

  name_pat : (i : BindingIdent) → pat_prop_at (pat_prop.Assign (at 1 2) i None) ≡ at 1 2
  name_pat i = search (rules, the_lemmas)

  default_pat : (i : BindingIdent) (e : E) → pat_prop_at (pat_prop.Assign (at 1 6) i (Some e)) ≡ at 1 6
  default_pat i e = search (rules, the_lemmas)

  rest_pat : (p : Box P Global) → pat_prop_at (pat_prop.Rest
      (record { span = at 1 5; dot3_token = at 1 4; arg = p })) ≡ at 1 5
  rest_pat p = search (rules, the_lemmas)
