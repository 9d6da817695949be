-- What patterns bind.
use Rattle.std.specs.Prelude.{ℕ, Bool, true, false, ◌&&◌, List}
use Rattle.swc_ast.specs.Tree.{Tree, node, Trees, nil, cons, array_with, object_with, hole, ident, rest, default, binding_prop, key_value}
use Rattle.swc_ast.specs.Trees.{is_ident}

-- Whether a pattern binds names alone, each of which passes a test: but for initialisers and keys it holds no
-- expression that is written to, and an object's rest holds a name. The names of an object's properties count.
abbrev mutual
  pub binds_names : {F C K : Type 0} → (List ℕ → Bool) → Tree F C K → Bool
  binds_names ok (node (ident name) s ts) = ok name
  binds_names ok (node (array_with comma) s ts) = all_bind_names ok ts
  binds_names ok (node (object_with comma) s ts) = props_bind_names ok ts
  binds_names ok (node default s (cons p ts)) = binds_names ok p
  binds_names ok (node rest s (cons d (cons p ts))) = binds_names ok p
  binds_names ok (node hole s ts) = true
  binds_names ok t = false

  pub all_bind_names : {F C K : Type 0} → (List ℕ → Bool) → Trees F C K → Bool
  all_bind_names ok nil = true
  all_bind_names ok (cons t ts) = binds_names ok t && all_bind_names ok ts

  pub props_bind_names : {F C K : Type 0} → (List ℕ → Bool) → Trees F C K → Bool
  props_bind_names ok nil = true
  props_bind_names ok (cons t ts) = prop_binds_names ok t && props_bind_names ok ts

  pub prop_binds_names : {F C K : Type 0} → (List ℕ → Bool) → Tree F C K → Bool
  prop_binds_names ok (node key_value s (cons k (cons p ts))) = binds_names ok p
  prop_binds_names ok (node binding_prop s (cons n ts)) = binds_names ok n
  prop_binds_names ok (node rest s (cons d (cons p ts))) = is_ident p && binds_names ok p
  prop_binds_names ok t = false

-- any name
abbrev pub any : List ℕ → Bool
any name = true
