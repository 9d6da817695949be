-- What is read as a pattern binds names alone.
use Rattle.std.specs.Prelude.{◌≡◌, true, List}
use Rattle.std.proofs.Common.{refl}
use Rattle.swc_input.specs.declared.token.TokenAndSpan.{TokenAndSpan}
use Rattle.swc_ast.specs.Tree.{Tree, node, Trees, nil, cons, rest}
use Rattle.swc_ast.specs.{Patterns.put_element, Patterns.holds_ident, Trees.items_of, Trees.hole_e}
use Rattle.swc_bodies.specs.Readings.{Hook}
use Rattle.swc_grammar.specs.Symbols.{Symbol, Answer, Side, Pat, Element, Rest, PatElements, PatElementsTail, PatProps, PatPropsTail, PatProp, Params, ParamsTail}
use Rattle.swc_grammar.specs.Patterns.{binds_names, all_bind_names, props_bind_names, prop_binds_names, any}
use Rattle.swc_grammar.specs.Grammar.{Production, pat-bind, pat-array, pat-object, element-pat, element-default, pat-rest, pat-elements-end, pat-elements-hole, pat-elements-more, pat-elements-rest, pat-tail-end, pat-tail-more, pat-props-end, pat-props-more, pat-props-rest, pat-props-tail-end, pat-props-tail-more, pat-prop-key, pat-prop-short, pat-prop-default, params-end, params-more, params-rest, params-tail-end, params-tail-more}
use Rattle.swc_grammar.specs.{Scope.Scope, Parts.binding, Parts.any_name, Reads.Reads}
use Rattle.swc_grammar.proofs.Induct.{Ran, ran-gave, ran-took, ran-held, ran-part, forget, every, gives-given, gives-side}

module _ {F C K : Type 0} where
  put-binds : (ps : Trees F C K) → all_bind_names any ps ≡ true → all_bind_names any (put_element true hole_e ps) ≡ true
  put-binds nil h = refl
  put-binds (cons p ps) h = h

  rest-binds : (p : Tree F C K) → holds_ident p ≡ true → binds_names any p ≡ true → prop_binds_names any p ≡ true
  rest-binds (node rest s (cons d (cons p ps))) h k = rw (h, k) refl
  rest-binds p h k = absurd cc

module _ {F C K : Type 0} (hook : Hook F C K) where
  abbrev Law : (s : Symbol) → Scope → List TokenAndSpan → List TokenAndSpan → Answer F C K s → Type 0
  Law Pat c xs ys t = binds_names any t ≡ true
  Law Element c xs ys t = binds_names any t ≡ true
  Law Rest c xs ys t = binds_names any t ≡ true
  Law PatElements c xs ys t = all_bind_names any (items_of t) ≡ true
  Law PatElementsTail c xs ys t = all_bind_names any (items_of t) ≡ true
  Law Params c xs ys t = all_bind_names any (items_of t) ≡ true
  Law ParamsTail c xs ys t = all_bind_names any (items_of t) ≡ true
  Law PatProps c xs ys t = props_bind_names any (items_of t) ≡ true
  Law PatPropsTail c xs ys t = props_bind_names any (items_of t) ≡ true
  Law PatProp c xs ys t = prop_binds_names any t ≡ true
  Law s c xs ys t = Unit {0}

  step : (s : Symbol) (c : Scope) (r : Side F C K s) (xs ys : List TokenAndSpan) (t : Answer F C K s)
      → Production s c r → Ran hook Law s r xs ys t → Law s c xs ys t
  step s c r xs ys t pat-bind w = gives-side (λ v. binds_names any v ≡ true) (forget hook Law w)
      (λ a. gives-given _ (binding c a.token a.span) _ (λ n h. refl))
  step s c r xs ys t pat-array (ran-took (ran-held h (ran-part d k ran-gave))) = k
  step s c r xs ys t pat-object (ran-took (ran-held h (ran-part d k ran-gave))) = k
  step s c r xs ys t element-pat (ran-part d k ran-gave) = k
  step s c r xs ys t element-default (ran-part d k (ran-took (ran-held h (ran-part e l ran-gave)))) = k
  step s c r xs ys t pat-rest (ran-took (ran-held h (ran-part d k ran-gave))) = k
  step s c r xs ys t pat-elements-end (ran-took (ran-held h ran-gave)) = refl
  step s c r xs ys t pat-elements-hole (ran-took (ran-held h (ran-part {e = es} d k ran-gave))) =
      put-binds (items_of es) k
  step s c r xs ys t pat-elements-more (ran-part d k (ran-part e l ran-gave)) = rw (k, l) refl
  step s c r xs ys t pat-elements-rest (ran-part d k (ran-took (ran-held h ran-gave))) = rw k refl
  step s c r xs ys t pat-tail-end (ran-took (ran-held h ran-gave)) = refl
  step s c r xs ys t pat-tail-more (ran-took (ran-held h (ran-part d k ran-gave))) = k
  step s c r xs ys t params-end (ran-took (ran-held h ran-gave)) = refl
  step s c r xs ys t params-more (ran-part d k (ran-part e l ran-gave)) = rw (k, l) refl
  step s c r xs ys t params-rest (ran-part d k (ran-took (ran-held h ran-gave))) = rw k refl
  step s c r xs ys t params-tail-end (ran-took (ran-held h ran-gave)) = refl
  step s c r xs ys t params-tail-more (ran-took (ran-held h (ran-part d k ran-gave))) = k
  step s c r xs ys t pat-props-end (ran-took (ran-held h ran-gave)) = refl
  step s c r xs ys t pat-props-more (ran-part d k (ran-part e l ran-gave)) = rw (k, l) refl
  step s c r xs ys t pat-props-rest (ran-part {e = p} d k (ran-held i (ran-took (ran-held h ran-gave)))) =
      rw (rest-binds p i k) refl
  step s c r xs ys t pat-props-tail-end (ran-took (ran-held h ran-gave)) = refl
  step s c r xs ys t pat-props-tail-more (ran-took (ran-held h (ran-part d k ran-gave))) = k
  step s c r xs ys t pat-prop-key (ran-part d l (ran-took (ran-held h (ran-part e k ran-gave)))) = k
  step s c r xs ys t pat-prop-short w = gives-side (λ v. prop_binds_names any v ≡ true) (forget hook Law w)
      (λ a. gives-given _ (any_name c a.token a.span) _ (λ n h. refl))
  step s c r xs ys t pat-prop-default w = gives-side (λ v. prop_binds_names any v ≡ true) (forget hook Law w)
      (λ a. gives-given _ (any_name c a.token a.span) _ (λ n h b e. refl))
  step s c r xs ys t p d = tt

  bind-all : {s : Symbol} {c : Scope} {xs ys : List TokenAndSpan} {t : Answer F C K s} → Reads hook s c xs ys t
      → Law s c xs ys t
  bind-all d = every hook Law step d

  pub pattern-binds : {c : Scope} {xs ys : List TokenAndSpan} {t : Tree F C K} → Reads hook Pat c xs ys t
      → binds_names any t ≡ true
  pattern-binds d = bind-all d

  pub params-bind : {c : Scope} {xs ys : List TokenAndSpan} {t : Tree F C K} → Reads hook Params c xs ys t
      → all_bind_names any (items_of t) ≡ true
  params-bind d = bind-all d

  pub element-binds : {c : Scope} {xs ys : List TokenAndSpan} {t : Tree F C K} → Reads hook Element c xs ys t
      → binds_names any t ≡ true
  element-binds d = bind-all d

  pub property-binds : {c : Scope} {xs ys : List TokenAndSpan} {t : Tree F C K} → Reads hook PatProp c xs ys t
      → prop_binds_names any t ≡ true
  property-binds d = bind-all d

  -- after dots, where any pattern may be
  pub dotted-binds : {c : Scope} {xs ys : List TokenAndSpan} {t : Tree F C K} → Reads hook Rest c xs ys t
      → binds_names any t ≡ true
  dotted-binds d = bind-all d
