-- The cover law, as it is promised: what is read in parentheses, and is related to what is bound, is read as parameters
-- too.
use Rattle.std.specs.Prelude.{◌≡◌, ℕ, Bool, true, false, not, ◌&&◌, List, [], ◌∷◌, ◌++◌, Some, None}
use Rattle.std.proofs.Common.{refl, sym, ap, subst, ◌∙◌}
use Rattle.std.proofs.lemmas.List.{append_assoc}
use Rattle.swc_context.specs.{Reserved.strict_binding_words, Texts.is_one_of, declared.context.Context.Context, declared.span.Span.Span}
use Rattle.swc_input.specs.declared.token.TokenAndSpan.{TokenAndSpan}
use Rattle.swc_ast.specs.Tree.{Tree, node, Trees, nil, cons, span_of, ident, array_with, object_with, default, rest, hole, key_value, binding_prop}
use Rattle.swc_ast.specs.Trees.{items_of, is_ident, listed, to}
use Rattle.swc_bodies.specs.Readings.{Hook}
use Rattle.swc_grammar.specs.Symbols.{Args, Params, ParamsTail, ArrowParams}
use Rattle.swc_grammar.specs.Tokens.{with_in, is_rparen, is_lparen}
use Rattle.swc_grammar.specs.Patterns.{binds_names, all_bind_names, props_bind_names, prop_binds_names}
use Rattle.swc_grammar.specs.Cover.{binding, as_params, arrow_params_ok}
use Rattle.swc_grammar.specs.Grammar.{params-end, params-more, params-rest, params-tail-end, params-tail-more, covered-params}
use Rattle.swc_grammar.specs.Reads.{Reads, by, Follows, gave, took, held, part}
use Rattle.swc_grammar.specs.{Scope.Scope, Rule.check, Rule.gives}
use Rattle.swc_grammar.proofs.{Answers.both, Firsts.given-held, Cut.consumed}
use Rattle.swc_laws.specs.Covering.{Covering}
use Rattle.swc_laws.specs.Bound.{may_be_bound, is_kept_name, Spelled}
use Rattle.swc_laws.proofs.{Covered.CoversAll, Cover.covered}

-- names that pass two tests pass a third
module _ {F C K : Type 0} (a b c : List ℕ → Bool)
    (both-pass : (n : List ℕ) → a n ≡ true → b n ≡ true → c n ≡ true) where
  mutual
    pub binds-both : (p : Tree F C K) → binds_names a p ≡ true → binds_names b p ≡ true → binds_names c p ≡ true
    binds-both (node (ident name) s ts) h k = both-pass name h k
    binds-both (node (array_with comma) s ts) h k = all-both ts h k
    binds-both (node (object_with comma) s ts) h k = props-both ts h k
    binds-both (node default s (cons p ts)) h k = binds-both p h k
    binds-both (node rest s (cons d (cons p ts))) h k = binds-both p h k
    binds-both (node hole s ts) h k = refl
    binds-both t h k = absurd cc

    pub all-both : (ps : Trees F C K) → all_bind_names a ps ≡ true → all_bind_names b ps ≡ true
        → all_bind_names c ps ≡ true
    all-both nil h k = refl
    all-both (cons p ps) h k =
        let (x, y) = both (binds_names a p) (all_bind_names a ps) h in
        let (z, w) = both (binds_names b p) (all_bind_names b ps) k in
        rw (binds-both p x z, all-both ps y w) refl

    props-both : (ps : Trees F C K) → props_bind_names a ps ≡ true → props_bind_names b ps ≡ true
        → props_bind_names c ps ≡ true
    props-both nil h k = refl
    props-both (cons p ps) h k =
        let (x, y) = both (prop_binds_names a p) (props_bind_names a ps) h in
        let (z, w) = both (prop_binds_names b p) (props_bind_names b ps) k in
        rw (prop-both p x z, props-both ps y w) refl

    prop-both : (p : Tree F C K) → prop_binds_names a p ≡ true → prop_binds_names b p ≡ true
        → prop_binds_names c p ≡ true
    prop-both (node key_value s (cons k (cons p ts))) h j = binds-both p h j
    prop-both (node binding_prop s (cons n ts)) h j = binds-both n h j
    prop-both (node rest s (cons d (cons p ts))) h j =
        let (x, y) = both (is_ident p) (binds_names a p) h in
        let (z, w) = both (is_ident p) (binds_names b p) j in
        rw (x, binds-both p y w) refl
    prop-both t h k = absurd cc

-- what parameters of arrow functions bind, but for the name kept, may be bound
params-name : (c : Context) → (c.module ≡ true → c.strict ≡ true) → (n : List ℕ)
    → not ((c.module && c.strict) && is_one_of n strict_binding_words) ≡ true → is_kept_name c n ≡ true
    → may_be_bound c n ≡ true
params-name c strict n h k = by-module c.module c.strict (is_one_of n strict_binding_words)
    (is_kept_name c n) strict h k
  where
    by-module : (m s o r : Bool) → (m ≡ true → s ≡ true) → not ((m && s) && o) ≡ true → r ≡ true
        → (not (m && o) && r) ≡ true
    by-module false s o r f h k = k
    by-module true true o r f h k = rw (h, k) refl
    by-module true false o r f h k = absurd (let x = f refl in cc)

module _ {F C K : Type 0} (hook : Hook F C K) where
  -- in a script or a strict module: a list that is related to patterns which may be bound there is read as parameters,
  -- by the same tokens, and these are the same patterns, but for places
  pub cover : (c : Scope) → (c.context.module ≡ true → c.context.strict ≡ true)
      → (xs ys : List TokenAndSpan) → Spelled xs → (es : Tree F C K) (ps : Trees F C K)
      → Reads hook (Args false) (with_in c) xs ys es → as_params es ≡ Some ps
      → arrow_params_ok c.context ps ≡ true → all_bind_names (is_kept_name c.context) ps ≡ true
      → CoversAll hook Params c xs ys ps
  cover c strict xs ys sp es ps d h k j =
      covered hook sp d binding c refl ps h
      (all-both (λ n. not ((c.context.module && c.context.strict) && is_one_of n strict_binding_words))
      (is_kept_name c.context) (may_be_bound c.context) (params-name c.context strict) ps k j)

  -- and so is what is before `=>`
  params-gave : (c : Scope) (s : Span) (ps : Trees F C K) {xs ys : List TokenAndSpan} {hs : Tree F C K}
      → Follows hook ArrowParams (check (arrow_params_ok c.context ps) (gives (listed None s ps))) xs ys hs
      → (arrow_params_ok c.context ps ≡ true) × (hs ≡ listed None s ps) × (xs ≡ ys)
  params-gave c s ps (held h gave) = (h, refl, refl)

  pub params-cover : (c : Scope) → (c.context.module ≡ true → c.context.strict ≡ true)
      → (xs ys : List TokenAndSpan) → Spelled xs → (hs : Tree F C K) → Reads hook ArrowParams c xs ys hs
      → all_bind_names (is_kept_name c.context) (items_of hs) ≡ true
      → (a : TokenAndSpan) × (ms : List TokenAndSpan) × (xs ≡ a ∷ ms) × (is_lparen a.token ≡ true)
      × CoversAll hook Params c ms ys (items_of hs)
  params-cover c strict xs ys sp hs (by covered-params
      (took {a = a} {xs = ms} (held h (part {e = es} {ms = us} d w)))) j =
      let (ps, e, g) = given-held (as_params es) _ w in
      let (k, x, z) = params-gave c (to a.span (span_of es)) ps g in
      let b = subst (λ v. all_bind_names (is_kept_name c.context) (items_of v) ≡ true) x j in (
        a,
        ms,
        refl,
        h,
        subst (λ v. CoversAll hook Params c ms ys (items_of v)) (sym x)
            (cover c strict ms ys sp.1 es ps (subst (λ v. Reads hook (Args false) (with_in c) ms v es) z d) e k b),
      )

  pub covering : Covering hook
  covering c strict a xs ys hs sp d b =
      let (t, ms, e, p, v) = params-cover c strict (a ∷ xs) ys sp hs d b in
      let k : ms ≡ xs = cc in
      (v.tree, subst (λ w. Reads hook Params c w ys v.tree) k v.read, v.same)

  -- parameters end with the parenthesis
  mutual
    pub params-close : {c : Scope} {xs ys : List TokenAndSpan} {t : Tree F C K} → Reads hook Params c xs ys t
        → (own : List TokenAndSpan) × (a : TokenAndSpan) × (xs ≡ own ++ (a ∷ ys)) × (is_rparen a.token ≡ true)
    params-close (by params-end (took {a = a} (held h gave))) = ([], a, refl, h)
    params-close {ys = ys} (by params-more (part e (part d gave))) =
        let (us, k) = consumed e in
        let (own, a, q, h) = tail-close d in
        (us ++ own, a, k ∙ ap (λ v. us ++ v) q ∙ sym (append_assoc us own (a ∷ ys)), h)
    params-close (by params-rest (part e (took {a = a} (held h gave)))) = let (us, k) = consumed e in (us, a, k, h)

    tail-close : {c : Scope} {xs ys : List TokenAndSpan} {t : Tree F C K} → Reads hook ParamsTail c xs ys t
        → (own : List TokenAndSpan) × (a : TokenAndSpan) × (xs ≡ own ++ (a ∷ ys)) × (is_rparen a.token ≡ true)
    tail-close (by params-tail-end (took {a = a} (held h gave))) = ([], a, refl, h)
    tail-close (by params-tail-more (took {a = b} (held h (part d gave)))) =
        let (own, a, q, g) = params-close d in (b ∷ own, a, ap (λ v. b ∷ v) q, g)
