-- Which finished expressions are patterns (ECMA-262, 13.15.5 and 15.3), so that they are refined with nothing recorded.
use Rattle.std.specs.Prelude.{Bool, true, false, not, ◌&&◌, if◌then◌else◌, Option, None, is_none}
use Rattle.swc_context.specs.{declared.operator.AssignOp.AssignOp as op, declared.span.Span.Span}
use Rattle.swc_ast.specs.Tree.{hole, item, spread, ident, array_with, object_with, assign, paren, member, super_prop, shorthand, key_value, cover, binding_prop, rest, default, Tree, node, Trees, nil, cons}
use Rattle.swc_ast.specs.{Targets.is_target, Trees.is_ident}
use Rattle.swc_grammar.specs.Cover.{is_assign, is_pattern}
use Rattle.swc_cover.specs.Wanted.{Role, Bind, Assign}

-- as what binds, or as what is assigned to, in strict code or not
pub data Way : Type 0 where
  Binding : Way
  Target : Bool → Way

abbrev pub role_of : Way → Role
role_of Binding = Bind
role_of (Target strict) = Assign

abbrev pub is_nil : {F C K : Type 0} → Trees F C K → Bool
is_nil nil = true
is_nil (cons t ts) = false

-- ---- patterns that bind: outside default values and keys no expression and no `Invalid`, and each object's rest holds
-- an identifier

abbrev mutual
  pub binds : {F C K : Type 0} → Tree F C K → Bool
  binds (node (ident w) s ts) = true
  binds (node (array_with None) s ts) = all_bind ts
  binds (node (object_with None) s ts) = props_bind ts
  binds (node default s (cons l (cons r nil))) = binds l
  binds (node rest s (cons d (cons p nil))) = binds p
  binds (node hole s ts) = true
  binds t = false

  pub all_bind : {F C K : Type 0} → Trees F C K → Bool
  all_bind nil = true
  all_bind (cons t ts) = binds t && all_bind ts

  pub prop_binds : {F C K : Type 0} → Tree F C K → Bool
  prop_binds (node key_value s (cons k (cons v nil))) = binds v
  prop_binds (node binding_prop s ts) = true
  prop_binds (node rest s (cons d (cons p nil))) = is_ident p
  prop_binds t = false

  pub props_bind : {F C K : Type 0} → Trees F C K → Bool
  props_bind nil = true
  props_bind (cons t ts) = prop_binds t && props_bind ts

-- what an object's rest that binds holds is an identifier
abbrev pub rest_held : {F C K : Type 0} → Way → Tree F C K → Bool
rest_held Binding t = is_ident t
rest_held (Target strict) t = true

-- ---- what is refined with nothing recorded

abbrev pub left_fits : {F C K : Type 0} → Way → Tree F C K → Bool
left_fits Binding p = binds p
left_fits (Target strict) p = true

abbrev pub ident_fits : {F C K : Type 0} → Way → Tree F C K → Bool
ident_fits Binding t = true
ident_fits (Target strict) t = is_target strict t

abbrev pub expr_fits : {F C K : Type 0} → Way → Tree F C K → Bool
expr_fits Binding t = false
expr_fits (Target strict) t = is_target strict t

abbrev mutual
  pub fits : {F C K : Type 0} → Way → Tree F C K → Bool
  fits w (node (ident n) s ts) = ident_fits w (node (ident n) s ts)
  fits w (node member s ts) = expr_fits w (node member s ts)
  fits w (node super_prop s ts) = expr_fits w (node super_prop s ts)
  fits w (node paren s ts) = expr_fits w (node paren s ts)
  fits w (node (array_with c) s ts) = elems_fit w c ts
  fits w (node (object_with c) s ts) = props_fit w c ts
  fits w (node (assign op.Assign) s (cons l (cons r nil))) = if is_pattern l then left_fits w l else fits w l
  fits w t = false

  pub elems_fit : {F C K : Type 0} → Way → Option Span → Trees F C K → Bool
  elems_fit w c nil = true
  elems_fit w c (cons (node hole s nil) es) = elems_fit w c es
  elems_fit w c (cons (node item s (cons t nil)) es) = fits w t && elems_fit w c es
  elems_fit w c (cons (node spread s (cons d (cons t nil))) es) = (is_nil es && (is_none c && not (is_assign t))) &&
      fits w t
  elems_fit w c ts = false

  pub props_fit : {F C K : Type 0} → Way → Option Span → Trees F C K → Bool
  props_fit w c nil = true
  props_fit w c (cons (node shorthand s (cons i nil)) es) = props_fit w c es
  props_fit w c (cons (node cover s (cons i (cons e nil))) es) = props_fit w c es
  props_fit w c (cons (node key_value s (cons k (cons v nil))) es) = fits w v && props_fit w c es
  props_fit w c (cons (node spread s (cons d (cons t nil))) es) =
      (is_nil es && (is_none c && (not (is_assign t) && rest_held w t))) && fits w t
  props_fit w c ts = false
