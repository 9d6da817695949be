-- Finished trees of expressions as patterns: as what is written to (DestructuringAssignmentTarget, 13.15.5), or as what
-- is bound (13.2.9, 15.3). The places of the nodes stay; a rest in an array or in a list has that of its argument.
use Rattle.std.specs.Prelude.{ℕ, Bool, true, false, not, ◌&&◌, if◌then◌else◌, List, Option, Some, None}
use Rattle.swc_context.specs.{Reserved.strict_binding_words, Texts.is_one_of, declared.context.Context.Context, declared.operator.AssignOp.AssignOp, declared.operator.AssignOp.AssignOp as write, declared.span.Span.Span}
use Rattle.swc_ast.specs.Targets.{is_target as is_simple_target}
use Rattle.swc_ast.specs.Patterns.{array_p, object_p, default_p, rest_p, name_p, put_element}
use Rattle.swc_ast.specs.Tree.{Tree, node, Trees, nil, cons, span_of, ident, array_with, object_with, assign, member, super_prop, paren, hole, item, spread, shorthand, cover, key_value, pat_expr}
use Rattle.swc_ast.specs.Trees.{is_ident, comma_of, items_of, key_value_e, hole_e}
use Rattle.swc_grammar.specs.Patterns.{binds_names, all_bind_names, any}

-- as what is written to, in strict code or not, or as what is bound
pub data Role : Type 0 where
  target : Bool → Role
  binding : Role

infixl 10 ◌>>>◌
abbrev pub ◌>>>◌ : {A B : Type 0} → Option A → (A → Option B) → Option B
None >>> f = None
(Some a) >>> f = f a

-- a valid simple target, and any name where it is bound
abbrev pub takes_name : Role → List ℕ → Bool
takes_name (target strict) name = not (strict && is_one_of name strict_binding_words)
takes_name binding name = true

abbrev pub as_expr : {F C K : Type 0} → Role → Tree F C K → Option (Tree F C K)
as_expr (target strict) t = if is_simple_target strict t then Some (node pat_expr (span_of t) (cons t nil)) else None
as_expr binding t = None

abbrev pub is_plain_assign : AssignOp → Bool
is_plain_assign write.Assign = true
is_plain_assign op = false

-- on the left of an assignment a literal is a pattern already, which stays as it is
abbrev pub is_pattern : {F C K : Type 0} → Tree F C K → Bool
is_pattern (node (array_with comma) s ts) = true
is_pattern (node (object_with comma) s ts) = true
is_pattern t = false

abbrev pub stays : {F C K : Type 0} → Role → Tree F C K → Bool
stays (target strict) p = true
stays binding p = binds_names any p

abbrev pub is_assign : {F C K : Type 0} → Tree F C K → Bool
is_assign (node (assign op) s ts) = true
is_assign t = false

-- what may come after the dots of an object
abbrev pub is_rest_of : {F C K : Type 0} → Role → Tree F C K → Bool
is_rest_of (target strict) e = not (is_assign e)
is_rest_of binding e = is_ident e

-- a part after which nothing comes, not even a comma
abbrev pub is_last : {F C K : Type 0} → Option Span → Trees F C K → Bool
is_last None nil = true
is_last comma ts = false

abbrev pub is_hole : {F C K : Type 0} → Tree F C K → Bool
is_hole (node hole s ts) = true
is_hole t = false

abbrev mutual
  pub as_pat : {F C K : Type 0} → Role → Tree F C K → Option (Tree F C K)
  as_pat m (node (ident name) s ts) = if takes_name m name then Some (node (ident name) s ts) else None
  as_pat m (node (array_with comma) s ts) = as_elements m comma ts >>> (λ ps. Some (array_p s ps))
  as_pat m (node (object_with comma) s ts) = as_props m comma ts >>> (λ ps. Some (object_p s ps))
  as_pat m (node (assign op) s (cons l (cons r ts))) =
      if is_plain_assign op then
      ((if is_pattern l then (if stays m l then Some l else None) else as_pat m l) >>> (λ p. Some (default_p s p r)))
      else None
  as_pat m (node member s ts) = as_expr m (node member s ts)
  as_pat m (node super_prop s ts) = as_expr m (node super_prop s ts)
  as_pat m (node paren s ts) = as_expr m (node paren s ts)
  as_pat m t = None

  pub as_elements : {F C K : Type 0} → Role → Option Span → Trees F C K → Option (Trees F C K)
  as_elements m comma nil = Some nil
  as_elements m comma (cons t ts) =
      as_element m (is_last comma ts) t >>> (λ p.
      as_elements m comma ts >>> (λ ps. Some (put_element (is_hole t) p ps)))

  pub as_element : {F C K : Type 0} → Role → Bool → Tree F C K → Option (Tree F C K)
  as_element m is_end (node hole s ts) = Some hole_e
  as_element m is_end (node item s (cons e ts)) = as_pat m e
  as_element m is_end (node spread s (cons d (cons e ts))) =
      if is_end && not (is_assign e) then (as_pat m e >>> (λ p. Some (rest_p (span_of e) d p))) else None
  as_element m is_end t = None

  pub as_props : {F C K : Type 0} → Role → Option Span → Trees F C K → Option (Trees F C K)
  as_props m comma nil = Some nil
  as_props m comma (cons t ts) =
      as_prop m (is_last comma ts) t >>> (λ p. as_props m comma ts >>> (λ ps. Some (cons p ps)))

  pub as_prop : {F C K : Type 0} → Role → Bool → Tree F C K → Option (Tree F C K)
  as_prop m is_end (node shorthand s (cons n ts)) = if is_ident n then Some (name_p s n hole_e) else None
  as_prop m is_end (node cover s (cons n (cons e ts))) = if is_ident n then Some (name_p s n e) else None
  as_prop m is_end (node key_value s (cons k (cons e ts))) = as_pat m e >>> (λ p. Some (key_value_e s k p))
  as_prop m is_end (node spread s (cons d (cons e ts))) =
      if is_end && is_rest_of m e then (as_pat m e >>> (λ p. Some (rest_p s d p))) else None
  as_prop m is_end t = None

-- a literal, as what is written to
abbrev pub as_literal : {F C K : Type 0} → Bool → Tree F C K → Option (Tree F C K)
as_literal strict t = if is_pattern t then as_pat (target strict) t else None

-- the items in parentheses, as what is bound
abbrev pub as_params : {F C K : Type 0} → Tree F C K → Option (Trees F C K)
as_params es = as_elements binding (comma_of es) (items_of es)

-- The early error of arrow parameters (15.3.1), as far as it is looked at: in a strict module they bind neither `eval`
-- nor `arguments`.
abbrev pub arrow_params_ok : {F C K : Type 0} → Context → Trees F C K → Bool
arrow_params_ok c ps = all_bind_names (λ name. not ((c.module && c.strict) && is_one_of name strict_binding_words)) ps
