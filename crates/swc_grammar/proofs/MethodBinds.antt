-- What the parameters of methods and setters bind.
use Rattle.std.specs.Prelude.{◌≡◌, Bool, true, false, not, ◌&&◌, List}
use Rattle.std.proofs.Common.{refl, sym, subst}
use Rattle.swc_context.specs.declared.span.Span.{Span}
use Rattle.swc_input.specs.declared.token.TokenAndSpan.{TokenAndSpan}
use Rattle.swc_ast.specs.Tree.{Tree, node, Trees, nil, cons, span_of, setter}
use Rattle.swc_ast.specs.Trees.{to, items_of, value_e, prop_of, params_e, is_rest, one_plain, behind_first, setter_parts}
use Rattle.swc_bodies.specs.Readings.{Hook}
use Rattle.swc_grammar.specs.Symbols.{Symbol, Answer, Side, Prop, Shell}
use Rattle.swc_grammar.specs.Patterns.{binds_names, all_bind_names, any}
use Rattle.swc_grammar.specs.Grammar.{Production, prop-spread, prop-short, prop-cover, prop-key, prop-generator, prop-async, prop-async-generator, prop-getter, prop-setter, shell-block}
use Rattle.swc_grammar.specs.{Scope.Scope, Parts.any_name, Reads.Reads}
use Rattle.swc_grammar.proofs.Induct.{Ran, ran-gave, ran-took, ran-held, ran-part, forget, every, gives-given, gives-side}
use Rattle.swc_grammar.proofs.{Answers.both, Direct.params-bind}

module _ {F C K : Type 0} where
  -- a method's function: its block, and parameters that bind names alone
  pub record Held (t : Tree F C K) : Type 0 where
    pub block : Tree F C K
    pub params : Trees F C K
    pub parts : items_of t ≡ cons block (params_e params)
    pub bound : all_bind_names any params ≡ true

  -- a setter, of its key, its one parameter and its block
  abbrev pub setter_binds : Tree F C K → Bool
  setter_binds (node setter s (cons k (cons p ts))) = binds_names any p && not (is_rest p)
  setter_binds (node setter s ts) = false
  setter_binds t = true

  no-setter : (k x : Tree F C K) → setter_binds (prop_of k x) ≡ true
  no-setter k (value_e s e) = refl
  no-setter k x = refl

  one-binds : (s : Span) (k b : Tree F C K) (ps : Trees F C K) → one_plain (params_e ps) ≡ true
      → all_bind_names any ps ≡ true
      → setter_binds (node setter s (cons k (setter_parts (cons b (params_e ps))))) ≡ true
  one-binds s k b nil h g = absurd cc
  one-binds s k b (cons p ps) h g =
      rw ((both (binds_names any p) (all_bind_names any ps) g).0, (both _ (not (is_rest p)) h).1) refl

  setter-held : (s : Span) (k f : Tree F C K) → one_plain (behind_first (items_of f)) ≡ true → Held f
      → setter_binds (node setter s (cons k (setter_parts (items_of f)))) ≡ true
  setter-held s k f h w =
      let n = subst (λ v. one_plain (behind_first v) ≡ true) w.parts h in
      subst (λ v. setter_binds (node setter s (cons k (setter_parts v))) ≡ true) (sym w.parts)
      (one-binds s k w.block w.params n w.bound)

module _ {F C K : Type 0} (hook : Hook F C K) where
  abbrev Law : (s : Symbol) → Scope → List TokenAndSpan → List TokenAndSpan → Answer F C K s → Type 0
  Law (Shell is_async is_generator) c xs ys t = Held t
  Law Prop c xs ys t = setter_binds t ≡ true
  Law s c xs ys t = Unit {0}

  step : (s : Symbol) (c : Scope) (r : Side F C K s) (xs ys : List TokenAndSpan) (t : Answer F C K s)
      → Production s c r → Ran hook Law s r xs ys t → Law s c xs ys t
  step s c r xs ys t shell-block (ran-took (ran-held h (ran-part {e = es} d k w))) = gives-side Held (forget hook Law w)
      (λ v q. record { block = _; params = items_of es; parts = refl; bound = params-bind hook d })
  step s c r xs ys t prop-setter
      (ran-took {a = a} (ran-held h (ran-part {e = k} d u (ran-part {e = f} e w (ran-held n ran-gave))))) =
      setter-held (to a.span (span_of f)) k f n w
  step s c r xs ys t prop-spread w = gives-side (λ v. setter_binds v ≡ true) (forget hook Law w) (λ a e. refl)
  step s c r xs ys t prop-short w = gives-side (λ v. setter_binds v ≡ true) (forget hook Law w)
      (λ a. gives-given _ (any_name c a.token a.span) _ (λ n h. refl))
  step s c r xs ys t prop-cover w = gives-side (λ v. setter_binds v ≡ true) (forget hook Law w)
      (λ a. gives-given _ (any_name c a.token a.span) _ (λ n h b e. refl))
  step s c r xs ys t prop-key w = gives-side (λ v. setter_binds v ≡ true) (forget hook Law w) (λ k x. no-setter k x)
  step s c r xs ys t prop-generator w = gives-side (λ v. setter_binds v ≡ true) (forget hook Law w) (λ a k f. refl)
  step s c r xs ys t prop-async w = gives-side (λ v. setter_binds v ≡ true) (forget hook Law w) (λ a k f. refl)
  step s c r xs ys t prop-async-generator w =
      gives-side (λ v. setter_binds v ≡ true) (forget hook Law w) (λ a b k f. refl)
  step s c r xs ys t prop-getter w = gives-side (λ v. setter_binds v ≡ true) (forget hook Law w) (λ a k f. refl)
  step s c r xs ys t p d = tt

  law : {s : Symbol} {c : Scope} {xs ys : List TokenAndSpan} {t : Answer F C K s} → Reads hook s c xs ys t
      → Law s c xs ys t
  law d = every hook Law step d

  -- a method's parameters bind names alone
  pub shell-binds : {is_async is_generator : Bool} {c : Scope} {xs ys : List TokenAndSpan} {t : Tree F C K}
      → Reads hook (Shell is_async is_generator) c xs ys t → Held t
  shell-binds d = law d

  -- and so does a setter's one, which is no rest
  pub setter-binds : {c : Scope} {xs ys : List TokenAndSpan} {t : Tree F C K} → Reads hook Prop c xs ys t
      → setter_binds t ≡ true
  setter-binds d = law d
