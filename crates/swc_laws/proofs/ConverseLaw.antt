-- The converse of the cover law, as it is promised: parameters by free names, with a parenthesis before them, are those
-- of an arrow function, and the same patterns.
use Rattle.std.specs.Prelude.{◌≡◌, ℕ, Bool, true, not, ◌&&◌, List, ◌∷◌}
use Rattle.std.proofs.Common.{refl, sym, ap, ◌∙◌}
use Rattle.swc_context.specs.{Reserved.strict_binding_words, Texts.is_one_of}
use Rattle.swc_input.specs.declared.token.TokenAndSpan.{TokenAndSpan}
use Rattle.swc_ast.specs.Tree.{Tree, node, Trees, nil, cons, erase, erase_all, ident, array_with, object_with, default, rest, key_value, binding_prop}
use Rattle.swc_ast.specs.Trees.{items_of}
use Rattle.swc_bodies.specs.Readings.{Hook}
use Rattle.swc_grammar.specs.Patterns.{binds_names, all_bind_names, props_bind_names, prop_binds_names}
use Rattle.swc_grammar.specs.Reads.{Reads, by, gave, took, held, part}
use Rattle.swc_grammar.specs.{Scope.Scope, Symbols.Params, Symbols.ArrowParams, Tokens.is_lparen, Cover.as_params, Cover.arrow_params_ok, Grammar.covered-params}
use Rattle.swc_grammar.proofs.Induct.{follows-given}
use Rattle.swc_laws.specs.Bound.{is_free_name}
use Rattle.swc_laws.proofs.{Converse.converse, CoverLaw.all-both, Covered.ident-erased, Freed.free-target}

-- what patterns bind doesn't depend on places
module _ {F C K : Type 0} (ok : List ℕ → Bool) where
  mutual
    pub binds-erased : (t : Tree F C K) → binds_names ok (erase t) ≡ binds_names ok t
    binds-erased (node (ident name) s ts) = refl
    binds-erased (node (array_with comma) s ts) = all-erased ts
    binds-erased (node (object_with comma) s ts) = props-erased ts
    binds-erased (node default s (cons p ts)) = binds-erased p
    binds-erased (node rest s (cons d (cons p ts))) = binds-erased p
    binds-erased (node rest s (cons d nil)) = refl
    binds-erased (node k s ts) = refl

    pub all-erased : (ts : Trees F C K) → all_bind_names ok (erase_all ts) ≡ all_bind_names ok ts
    all-erased nil = refl
    all-erased (cons t ts) = rw (binds-erased t, all-erased ts) refl

    props-erased : (ts : Trees F C K) → props_bind_names ok (erase_all ts) ≡ props_bind_names ok ts
    props-erased nil = refl
    props-erased (cons t ts) = rw (prop-erased t, props-erased ts) refl

    prop-erased : (t : Tree F C K) → prop_binds_names ok (erase t) ≡ prop_binds_names ok t
    prop-erased (node key_value s (cons k (cons p ts))) = binds-erased p
    prop-erased (node key_value s (cons k nil)) = refl
    prop-erased (node binding_prop s (cons n ts)) = binds-erased n
    prop-erased (node rest s (cons d (cons p ts))) = rw (ident-erased p, binds-erased p) refl
    prop-erased (node rest s (cons d nil)) = refl
    prop-erased (node k s ts) = refl

module _ {F C K : Type 0} (hook : Hook F C K) where
  -- free names are no `eval` and no `arguments`, so an arrow function may bind them in a strict module too
  pub converse-params : (c : Scope) (a : TokenAndSpan) (xs ys : List TokenAndSpan) (qs : Tree F C K)
      → is_lparen a.token ≡ true → Reads hook Params c xs ys qs → all_bind_names is_free_name (items_of qs) ≡ true
      → (hs : Tree F C K) × Reads hook ArrowParams c (a ∷ xs) ys hs
      × (erase_all (items_of hs) ≡ erase_all (items_of qs))
  converse-params c a xs ys qs h d b =
      let (es, ps, r, e, same) = converse hook c xs ys qs d b in
      let test : List ℕ → Bool =
      λ n. not ((c.context.module && c.context.strict) && is_one_of n strict_binding_words) in
      let k : all_bind_names test (items_of qs) ≡ true =
      all-both is_free_name is_free_name test (λ n i j. free-target (c.context.module && c.context.strict) n i)
      (items_of qs) b b in
      let ok : arrow_params_ok c.context ps ≡ true =
      sym (all-erased test ps) ∙ ap (all_bind_names test) same ∙ all-erased test (items_of qs) ∙ k in
      (_, by covered-params (took (held h (part r (follows-given (as_params es) _ ps e (held ok gave))))), same)
