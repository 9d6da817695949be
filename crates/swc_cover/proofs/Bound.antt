-- The names that parameters bind, as they are looked at one after another.
use Rattle.std.proofs.Common.{◌≡◌, ℕ, Bool, true, false, not, ◌&&◌, ◌||◌, List, [], ◌∷◌, ◌++◌, Option, Some, None, refl, sym, ap, ◌∙◌}
use Rattle.std.specs.Prelude.{if◌then◌else◌}
use Rattle.swc_context.specs.{Reserved.strict_binding_words, Texts.is_one_of, declared.context.Context.Context, declared.span.Span.Span}
use Rattle.swc_ast.specs.Tree.{array_with, object_with, hole, ident, rest, default, binding_prop, key_value, Tree, node, Trees, nil, cons}
use Rattle.swc_ast.specs.Trees.{is_ident}
use Rattle.swc_grammar.specs.Cover.{binding, as_elements, arrow_params_ok}
use Rattle.swc_grammar.specs.Patterns.{binds_names, all_bind_names, prop_binds_names, props_bind_names, any}
use Rattle.swc_grammar.proofs.Meets.{all-meet}
use Rattle.swc_cover.specs.ReservedNames.{reserved_spans, all_reserved, prop_reserved, props_reserved, has_none, names_ok}
use Rattle.swc_cover.specs.{Fits.Binding, Fits.elems_fit, Refining.takes_arrow_params, Refining.params_ok}
use Rattle.swc_steps.proofs.Steps.{both_left, both_right}

none-both : {A : Type 0} (xs ys : List A) → has_none (xs ++ ys) ≡ (has_none xs && has_none ys)
none-both [] ys = refl
none-both (x ∷ xs) ys = refl

both-same : {a b c d : Bool} → a ≡ b → c ≡ d → (a && c) ≡ (b && d)
both-same e f = rw (e, f) refl

one-name : (b : Bool) (s : Span) → not b ≡ has_none (if b then s ∷ [] else [])
one-name true s = refl
one-name false s = refl

-- no name that may not be bound in strict code
abbrev free : List ℕ → Bool
free name = not (is_one_of name strict_binding_words)

module _ {F C K : Type 0} where
  mutual
    free-is : (p : Tree F C K) → binds_names any p ≡ true → binds_names free p ≡ has_none (reserved_spans p)
    free-is (node (ident w) s ts) h = one-name (is_one_of w strict_binding_words) s
    free-is (node (array_with c) s ts) h = all-free ts h
    free-is (node (object_with c) s ts) h = props-free ts h
    free-is (node default s (cons p ts)) h = free-is p h
    free-is (node rest s (cons d (cons p ts))) h = free-is p h
    free-is (node hole s ts) h = refl
    free-is p h = cc

    all-free : (ps : Trees F C K) → all_bind_names any ps ≡ true → all_bind_names free ps ≡ has_none (all_reserved ps)
    all-free nil h = refl
    all-free (cons p ps) h =
        both-same (free-is p (both_left (binds_names any p) (all_bind_names any ps) h))
        (all-free ps (both_right (binds_names any p) (all_bind_names any ps) h))
        ∙ sym (none-both (reserved_spans p) (all_reserved ps))

    prop-free : (p : Tree F C K) → prop_binds_names any p ≡ true → prop_binds_names free p ≡ has_none (prop_reserved p)
    prop-free (node key_value s (cons k (cons p ts))) h = free-is p h
    prop-free (node binding_prop s (cons n ts)) h = free-is n h
    prop-free (node rest s (cons d (cons p ts))) h =
        ap (λ b. b && binds_names free p) (both_left (is_ident p) (binds_names any p) h)
        ∙ free-is p (both_right (is_ident p) (binds_names any p) h)
    prop-free p h = cc

    props-free : (ps : Trees F C K) → props_bind_names any ps ≡ true →
        props_bind_names free ps ≡ has_none (props_reserved ps)
    props-free nil h = refl
    props-free (cons p ps) h =
        both-same (prop-free p (both_left (prop_binds_names any p) (props_bind_names any ps) h))
        (props-free ps (both_right (prop_binds_names any p) (props_bind_names any ps) h))
        ∙ sym (none-both (prop_reserved p) (props_reserved ps))

  params-by : (m : Bool) (ps : Trees F C K) → all_bind_names any ps ≡ true →
      all_bind_names (λ name. not (m && is_one_of name strict_binding_words)) ps ≡ (not m || has_none (all_reserved ps))
  params-by true ps h = all-free ps h
  params-by false ps h = h

  pub arrow-params-are : (c : Context) (ps : Trees F C K) → all_bind_names any ps ≡ true
      → arrow_params_ok c ps ≡ names_ok c ps
  arrow-params-are c ps h = params-by (c.module && c.strict) ps h

  -- outside strict code any name may be bound
  pub names-lax : (c : Context) (ps : Trees F C K) → not c.strict ≡ true → names_ok c ps ≡ true
  names-lax c ps e = ap (λ b. not (c.module && b) || has_none (all_reserved ps)) (off c.strict e)
      ∙ lax c.module (has_none (all_reserved ps))
    where
      off : (b : Bool) → not b ≡ true → b ≡ false
      off true h = cc
      off false h = refl

      lax : (m n : Bool) → (not (m && false) || n) ≡ true
      lax true n = refl
      lax false n = refl

  -- whether items are parameters that bind what they may
  pub params-are : (c : Context) (comma : Option Span) (ts us : Trees F C K) →
      as_elements binding comma ts ≡ (if elems_fit Binding comma ts then Some us else None) →
      params_ok c comma ts ≡ (elems_fit Binding comma ts && names_ok c us)
  params-are c comma ts us e = by-fit (elems_fit Binding comma ts) e
    where
      by-fit : (b : Bool) → as_elements binding comma ts ≡ (if b then Some us else None) →
          params_ok c comma ts ≡ (b && names_ok c us)
      by-fit true h = ap (takes_arrow_params c) h ∙ arrow-params-are c us (all-meet comma ts us h)
      by-fit false h = ap (takes_arrow_params c) h
