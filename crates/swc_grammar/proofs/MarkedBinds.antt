-- Without the marks of commas patterns bind what they bind with them.
use Rattle.std.specs.Prelude.{◌≡◌, ℕ, Bool, List}
use Rattle.std.proofs.Common.{refl}
use Rattle.swc_ast.specs.Tree.{Tree, node, Trees, nil, cons, array_with, object_with, args_with, rest, default, binding_prop, key_value}
use Rattle.swc_ast.specs.Trees.{is_ident, unmarked, all_unmarked}
use Rattle.swc_grammar.specs.Patterns.{binds_names, all_bind_names, props_bind_names, prop_binds_names}

module _ {F C K : Type 0} where
  same-ident : (t : Tree F C K) → is_ident (unmarked t) ≡ is_ident t
  same-ident (node (args_with c) s ts) = refl
  same-ident (node (array_with c) s ts) = refl
  same-ident (node (object_with c) s ts) = refl
  same-ident (node k s ts) = refl

module _ {F C K : Type 0} (ok : List ℕ → Bool) where
  mutual
    pub same-binds : (t : Tree F C K) → binds_names ok (unmarked t) ≡ binds_names ok t
    same-binds (node (args_with c) s ts) = refl
    same-binds (node (array_with c) s ts) = all-same-binds ts
    same-binds (node (object_with c) s ts) = props-same-binds ts
    same-binds (node default s nil) = refl
    same-binds (node default s (cons p ts)) = same-binds p
    same-binds (node rest s nil) = refl
    same-binds (node rest s (cons d nil)) = refl
    same-binds (node rest s (cons d (cons p ts))) = same-binds p
    same-binds (node k s ts) = refl

    pub all-same-binds : (ts : Trees F C K) → all_bind_names ok (all_unmarked ts) ≡ all_bind_names ok ts
    all-same-binds nil = refl
    all-same-binds (cons t ts) = rw (same-binds t, all-same-binds ts) refl

    props-same-binds : (ts : Trees F C K) → props_bind_names ok (all_unmarked ts) ≡ props_bind_names ok ts
    props-same-binds nil = refl
    props-same-binds (cons t ts) = rw (prop-same-binds t, props-same-binds ts) refl

    pub prop-same-binds : (t : Tree F C K) → prop_binds_names ok (unmarked t) ≡ prop_binds_names ok t
    prop-same-binds (node (args_with c) s ts) = refl
    prop-same-binds (node (array_with c) s ts) = refl
    prop-same-binds (node (object_with c) s ts) = refl
    prop-same-binds (node key_value s nil) = refl
    prop-same-binds (node key_value s (cons k nil)) = refl
    prop-same-binds (node key_value s (cons k (cons p ts))) = same-binds p
    prop-same-binds (node binding_prop s nil) = refl
    prop-same-binds (node binding_prop s (cons n ts)) = same-binds n
    prop-same-binds (node rest s nil) = refl
    prop-same-binds (node rest s (cons d nil)) = refl
    prop-same-binds (node rest s (cons d (cons p ts))) = rw (same-ident p, same-binds p) refl
    prop-same-binds (node k s ts) = refl
