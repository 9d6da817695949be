-- What is related as a pattern has no more of `#` and a name in it than what it is made of.
use Rattle.std.specs.Prelude.{◌≡◌, Bool, true, false, not, ◌&&◌, Option, Some, None, if◌then◌else◌}
use Rattle.std.proofs.Common.{refl, subst}
use Rattle.swc_context.specs.declared.span.Span.{Span}
use Rattle.swc_ast.specs.Tree.{Tree, node, Trees, nil, cons, span_of, ident, array_with, object_with, assign, member, super_prop, paren, hole, item, spread, shorthand, cover, key_value, pat_expr}
use Rattle.swc_ast.specs.Trees.{is_ident, hole_e, key_value_e}
use Rattle.swc_ast.specs.Patterns.{array_p, object_p, default_p, rest_p, name_p, put_element}
use Rattle.swc_ast.specs.{Targets.is_target as is_simple_target, Pedantic.privates_ok, Pedantic.all_privates_ok}
use Rattle.swc_grammar.specs.Cover.{Role, target, binding, as_pat, as_elements, as_element, as_props, as_prop, is_pattern, as_expr, as_literal, is_assign, is_plain_assign, is_last, is_hole, is_rest_of, stays, takes_name}
use Rattle.swc_grammar.proofs.Answers.{only, inj, both}
use Rattle.swc_grammar.proofs.Related.{bind-some, literal-is}

module _ {F C K : Type 0} where
  -- in a tree, or in all of a list, `#` and a name are where they may
  abbrev pub Fit : Tree F C K → Type 0
  Fit t = privates_ok false t ≡ true

  abbrev pub AllFit : Trees F C K → Type 0
  AllFit ts = all_privates_ok false false ts ≡ true

  first-fit : (t : Tree F C K) (ts : Trees F C K) → AllFit (cons t ts) → Fit t × AllFit ts
  first-fit t ts h = both (privates_ok false t) (all_privates_ok false false ts) h

  put-fit : (b : Bool) (p : Tree F C K) (ps : Trees F C K) → Fit p → AllFit ps → AllFit (put_element b p ps)
  put-fit true p nil h k = refl
  put-fit true p (cons q qs) h k = rw (h, k) refl
  put-fit false p ps h k = rw (h, k) refl

  expr-fit : (m : Role) (t p : Tree F C K) → as_expr m t ≡ Some p → Fit t → Fit p
  expr-fit (target strict) t p h f =
      let (x, e) = only (is_simple_target strict t) h in
      subst Fit (inj (node pat_expr (span_of t) (cons t nil)) p e) (rw f refl)
  expr-fit binding t p h f = absurd cc

  left-fit : (m : Role) (l q : Tree F C K) → (as_pat m l ≡ Some q → Fit q) → Fit l
      → (if is_pattern l then (if stays m l then Some l else None) else as_pat m l) ≡ Some q → Fit q
  left-fit m l q f g h = by-kind (is_pattern l) h
    where
      by-kind : (b : Bool) → (if b then (if stays m l then Some l else None) else as_pat m l) ≡ Some q → Fit q
      by-kind true h = let (x, y) = only (stays m l) h in subst Fit (inj l q y) g
      by-kind false h = f h

  mutual
    pat-fit : (m : Role) (e p : Tree F C K) → as_pat m e ≡ Some p → Fit e → Fit p
    pat-fit m (node (ident name) s ts) p h f =
        let (x, e) = only (takes_name m name) h in subst Fit (inj (node (ident name) s ts) p e) f
    pat-fit m (node (array_with comma) s ts) p h f =
        let (ps, a, b) = bind-some (as_elements m comma ts) _ h in
        subst Fit (inj (array_p s ps) p b) (elements-fit m comma ts ps a f)
    pat-fit m (node (object_with comma) s ts) p h f =
        let (ps, a, b) = bind-some (as_props m comma ts) _ h in
        subst Fit (inj (object_p s ps) p b) (props-fit m comma ts ps a f)
    pat-fit m (node (assign op) s (cons l (cons r ts))) p h f =
        let (x, h1) = only (is_plain_assign op) h in
        let (q, a, b) = bind-some (if is_pattern l then (if stays m l then Some l else None) else as_pat m l) _ h1 in
        let (g, k) = first-fit l (cons r ts) f in
        let (i, j) = first-fit r ts k in
        let w = left-fit m l q (λ y. pat-fit m l q y g) g a in
        subst Fit (inj (default_p s q r) p b) (rw (w, i) refl)
    pat-fit m (node member s ts) p h f = expr-fit m (node member s ts) p h f
    pat-fit m (node super_prop s ts) p h f = expr-fit m (node super_prop s ts) p h f
    pat-fit m (node paren s ts) p h f = expr-fit m (node paren s ts) p h f
    pat-fit m t p h f = absurd cc

    pub elements-fit : (m : Role) (comma : Option Span) (ts ps : Trees F C K) → as_elements m comma ts ≡ Some ps
        → AllFit ts → AllFit ps
    elements-fit m comma nil ps h f = subst AllFit (inj nil ps h) refl
    elements-fit m comma (cons t ts) ps h f =
        let (p, a, b) = bind-some (as_element m (is_last comma ts) t) _ h in
        let (qs, d, e) = bind-some (as_elements m comma ts) _ b in
        let (g, k) = first-fit t ts f in
        subst AllFit (inj (put_element (is_hole t) p qs) ps e)
        (put-fit (is_hole t) p qs (element-fit m (is_last comma ts) t p a g) (elements-fit m comma ts qs d k))

    element-fit : (m : Role) (is_end : Bool) (t p : Tree F C K) → as_element m is_end t ≡ Some p → Fit t → Fit p
    element-fit m is_end (node hole s ts) p h f = subst Fit (inj hole_e p h) refl
    element-fit m is_end (node item s (cons e ts)) p h f = pat-fit m e p h (first-fit e ts f).0
    element-fit m is_end (node spread s (cons d (cons e ts))) p h f =
        let (x, a) = only (is_end && not (is_assign e)) h in
        let (q, b, k) = bind-some (as_pat m e) _ a in
        let (g, i) = first-fit d (cons e ts) f in
        let w = pat-fit m e q b (first-fit e ts i).0 in
        subst Fit (inj (rest_p (span_of e) d q) p k) (rw (g, w) refl)
    element-fit m is_end t p h f = absurd cc

    props-fit : (m : Role) (comma : Option Span) (ts ps : Trees F C K) → as_props m comma ts ≡ Some ps
        → AllFit ts → AllFit ps
    props-fit m comma nil ps h f = subst AllFit (inj nil ps h) refl
    props-fit m comma (cons t ts) ps h f =
        let (p, a, b) = bind-some (as_prop m (is_last comma ts) t) _ h in
        let (qs, d, e) = bind-some (as_props m comma ts) _ b in
        let (g, k) = first-fit t ts f in
        subst AllFit (inj (cons p qs) ps e)
        (rw (prop-fit m (is_last comma ts) t p a g, props-fit m comma ts qs d k) refl)

    prop-fit : (m : Role) (is_end : Bool) (t p : Tree F C K) → as_prop m is_end t ≡ Some p → Fit t → Fit p
    prop-fit m is_end (node shorthand s (cons n ts)) p h f =
        let (x, a) = only (is_ident n) h in
        let (g, k) = first-fit n ts f in
        subst Fit (inj (name_p s n hole_e) p a) (rw g refl)
    prop-fit m is_end (node cover s (cons n (cons e ts))) p h f =
        let (x, a) = only (is_ident n) h in
        let (g, k) = first-fit n (cons e ts) f in
        let (i, j) = first-fit e ts k in
        subst Fit (inj (name_p s n e) p a) (rw (g, i) refl)
    prop-fit m is_end (node key_value s (cons k (cons e ts))) p h f =
        let (q, a, b) = bind-some (as_pat m e) _ h in
        let (g, i) = first-fit k (cons e ts) f in
        let w = pat-fit m e q a (first-fit e ts i).0 in
        subst Fit (inj (key_value_e s k q) p b) (rw (g, w) refl)
    prop-fit m is_end (node spread s (cons d (cons e ts))) p h f =
        let (x, a) = only (is_end && is_rest_of m e) h in
        let (q, b, k) = bind-some (as_pat m e) _ a in
        let (g, i) = first-fit d (cons e ts) f in
        let w = pat-fit m e q b (first-fit e ts i).0 in
        subst Fit (inj (rest_p s d q) p k) (rw (g, w) refl)
    prop-fit m is_end t p h f = absurd cc

  pub literal-fit : (strict : Bool) (l p : Tree F C K) → as_literal strict l ≡ Some p → Fit l → Fit p
  literal-fit strict l p h f = pat-fit (target strict) l p (literal-is strict l p h).0 f
