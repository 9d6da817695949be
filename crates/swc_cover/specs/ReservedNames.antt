-- The names `eval` and `arguments` that patterns bind, which in strict code they may not (ECMA-262, 13.1.1 and 15.3.1).
use Rattle.std.specs.Prelude.{ℕ, Bool, true, false, not, ◌&&◌, ◌||◌, List, [], ◌∷◌, ◌++◌, if◌then◌else◌}
use Rattle.swc_context.specs.{Reserved.strict_binding_words, Texts.is_one_of, declared.context.Context.Context, declared.span.Span.Span}
use Rattle.swc_ast.specs.Tree.{array_with, object_with, ident, rest, default, binding_prop, key_value, Tree, node, Trees, nil, cons}

-- where they are bound, in their order
abbrev pub name_spans : List ℕ → Span → List Span
name_spans w s = if is_one_of w strict_binding_words then s ∷ [] else []

abbrev mutual
  pub reserved_spans : {F C K : Type 0} → Tree F C K → List Span
  reserved_spans (node (ident w) s ts) = name_spans w s
  reserved_spans (node (array_with c) s ts) = all_reserved ts
  reserved_spans (node (object_with c) s ts) = props_reserved ts
  reserved_spans (node default s (cons p ts)) = reserved_spans p
  reserved_spans (node rest s (cons d (cons p ts))) = reserved_spans p
  reserved_spans t = []

  pub all_reserved : {F C K : Type 0} → Trees F C K → List Span
  all_reserved nil = []
  all_reserved (cons t ts) = reserved_spans t ++ all_reserved ts

  pub prop_reserved : {F C K : Type 0} → Tree F C K → List Span
  prop_reserved (node key_value s (cons k (cons p ts))) = reserved_spans p
  prop_reserved (node binding_prop s (cons n ts)) = reserved_spans n
  prop_reserved (node rest s (cons d (cons p ts))) = reserved_spans p
  prop_reserved t = []

  pub props_reserved : {F C K : Type 0} → Trees F C K → List Span
  props_reserved nil = []
  props_reserved (cons t ts) = prop_reserved t ++ props_reserved ts

abbrev pub has_none : {A : Type 0} → List A → Bool
has_none [] = true
has_none (x ∷ xs) = false

-- whether parameters bind none of them, or are in no module or in no strict code
abbrev pub names_ok : {F C K : Type 0} → Context → Trees F C K → Bool
names_ok c ps = not (c.module && c.strict) || has_none (all_reserved ps)
