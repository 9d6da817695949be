-- What is related as a pattern is as valid, and groups as well, as what it is made of.
use Rattle.std.specs.Prelude.{◌≡◌, Bool, true, false, not, ◌&&◌, Option, Some, None, nat_le, if◌then◌else◌}
use Rattle.std.proofs.Common.{refl, subst}
use Rattle.swc_context.specs.declared.span.Span.{Span}
use Rattle.swc_ast.specs.Targets.{is_target as is_simple_target}
use Rattle.swc_ast.specs.Tree.{Tree, node, Trees, nil, cons, span_of, ident, array_with, object_with, assign, member, super_prop, paren, hole, item, spread, shorthand, cover, key_value, pat_expr}
use Rattle.swc_ast.specs.Trees.{is_ident, hole_e, key_value_e, is_valid, are_valid, is_invalid, is_grouped, are_grouped, grouped_at, tightness, items_of}
use Rattle.swc_ast.specs.Patterns.{array_p, object_p, default_p, rest_p, name_p, put_element}
use Rattle.swc_grammar.specs.Cover.{Role, target, binding, as_pat, as_elements, as_element, as_props, as_prop, is_pattern, as_expr, as_literal, is_assign, is_plain_assign, is_last, is_hole, is_rest_of, stays, takes_name}
use Rattle.swc_grammar.proofs.Answers.{only, inj, both}
use Rattle.swc_grammar.proofs.Related.{bind-some, literal-is}

module _ {F C K : Type 0} where
  abbrev pub Fine : Tree F C K → Type 0
  Fine t = (is_valid t ≡ true) × (is_grouped t ≡ true)

  abbrev pub AllFine : Trees F C K → Type 0
  AllFine ts = (are_valid ts ≡ true) × (are_grouped ts ≡ true)

  one-more : (t : Tree F C K) (ts : Trees F C K) → Fine t → AllFine ts → AllFine (cons t ts)
  one-more t ts h k = (rw (h.0, k.0) refl, rw (h.1, k.1) refl)

  first-fine : (t : Tree F C K) (ts : Trees F C K) → AllFine (cons t ts) → Fine t × AllFine ts
  first-fine t ts h =
      let (a, b) = both (is_valid t) (are_valid ts) h.0 in
      let (d, e) = both (is_grouped t) (are_grouped ts) h.1 in ((a, d), (b, e))

  parts-fine : (t : Tree F C K) → Fine t → AllFine (items_of t)
  parts-fine (node k s ts) h =
      ((both (not (is_invalid k)) (are_valid ts) h.0).1, (both (grouped_at (node k s ts)) (are_grouped ts) h.1).1)

  put-fine : (b : Bool) (p : Tree F C K) (ps : Trees F C K) → Fine p → AllFine ps → AllFine (put_element b p ps)
  put-fine true p nil h k = (refl, refl)
  put-fine true p (cons q qs) h k = one-more p (cons q qs) h k
  put-fine false p ps h k = one-more p ps h k

  expr-kept : (m : Role) (t p : Tree F C K) → as_expr m t ≡ Some p → Fine t → Fine p
  expr-kept (target strict) t p h f =
      let (x, e) = only (is_simple_target strict t) h in
      subst Fine (inj (node pat_expr (span_of t) (cons t nil)) p e) (rw f.0 refl, rw f.1 refl)
  expr-kept binding t p h f = absurd cc

  left-kept : (m : Role) (l q : Tree F C K) → (as_pat m l ≡ Some q → Fine q) → Fine l
      → (if is_pattern l then (if stays m l then Some l else None) else as_pat m l) ≡ Some q → Fine q
  left-kept m l q f g h = by-kind (is_pattern l) h
    where
      by-kind : (b : Bool) → (if b then (if stays m l then Some l else None) else as_pat m l) ≡ Some q → Fine q
      by-kind true h = let (x, y) = only (stays m l) h in subst Fine (inj l q y) g
      by-kind false h = f h

  name-kept : (m : Role) (t p : Tree F C K) (b : Bool) → (if b then Some t else None) ≡ Some p → Fine t → Fine p
  name-kept m t p b h f = let (x, e) = only b h in subst Fine (inj t p e) f

  mutual
    pub kept : (m : Role) (e p : Tree F C K) → as_pat m e ≡ Some p → Fine e → Fine p
    kept m (node (ident name) s ts) p h f = name-kept m (node (ident name) s ts) p (takes_name m name) h f
    kept m (node (array_with comma) s ts) p h f =
        let (ps, a, b) = bind-some (as_elements m comma ts) _ h in
        subst Fine (inj (array_p s ps) p b) (elements-kept m comma ts ps a f)
    kept m (node (object_with comma) s ts) p h f =
        let (ps, a, b) = bind-some (as_props m comma ts) _ h in
        subst Fine (inj (object_p s ps) p b) (props-kept m comma ts ps a f)
    kept m (node (assign op) s (cons l (cons r ts))) p h f =
        let (x, h1) = only (is_plain_assign op) h in
        let (q, a, b) = bind-some (if is_pattern l then (if stays m l then Some l else None) else as_pat m l) _ h1 in
        let (g, k) = first-fine l (cons r ts) (parts-fine (node (assign op) s (cons l (cons r ts))) f) in
        let (i, j) = first-fine r ts k in
        let w = left-kept m l q (λ y. kept m l q y g) g a in
        subst Fine (inj (default_p s q r) p b) (rw (w.0, i.0) refl, rw (w.1, i.1) refl)
    kept m (node member s ts) p h f = expr-kept m (node member s ts) p h f
    kept m (node super_prop s ts) p h f = expr-kept m (node super_prop s ts) p h f
    kept m (node paren s ts) p h f = expr-kept m (node paren s ts) p h f
    kept m t p h f = absurd cc

    pub elements-kept : (m : Role) (comma : Option Span) (ts ps : Trees F C K) → as_elements m comma ts ≡ Some ps
        → AllFine ts → AllFine ps
    elements-kept m comma nil ps h f = subst AllFine (inj nil ps h) (refl, refl)
    elements-kept m comma (cons t ts) ps h f =
        let (p, a, b) = bind-some (as_element m (is_last comma ts) t) _ h in
        let (qs, d, e) = bind-some (as_elements m comma ts) _ b in
        let (g, k) = first-fine t ts f in
        subst AllFine (inj (put_element (is_hole t) p qs) ps e)
        (put-fine (is_hole t) p qs (element-kept m (is_last comma ts) t p a g) (elements-kept m comma ts qs d k))

    element-kept : (m : Role) (is_end : Bool) (t p : Tree F C K) → as_element m is_end t ≡ Some p → Fine t → Fine p
    element-kept m is_end (node hole s ts) p h f = subst Fine (inj hole_e p h) (refl, refl)
    element-kept m is_end (node item s (cons e ts)) p h f =
        kept m e p h (first-fine e ts (parts-fine (node item s (cons e ts)) f)).0
    element-kept m is_end (node spread s (cons d (cons e ts))) p h f =
        let (x, a) = only (is_end && not (is_assign e)) h in
        let (q, b, k) = bind-some (as_pat m e) _ a in
        let (g, i) = first-fine d (cons e ts) (parts-fine (node spread s (cons d (cons e ts))) f) in
        let w = kept m e q b (first-fine e ts i).0 in
        subst Fine (inj (rest_p (span_of e) d q) p k) (rw (g.0, w.0) refl, rw (g.1, w.1) refl)
    element-kept m is_end t p h f = absurd cc

    props-kept : (m : Role) (comma : Option Span) (ts ps : Trees F C K) → as_props m comma ts ≡ Some ps
        → AllFine ts → AllFine ps
    props-kept m comma nil ps h f = subst AllFine (inj nil ps h) (refl, refl)
    props-kept m comma (cons t ts) ps h f =
        let (p, a, b) = bind-some (as_prop m (is_last comma ts) t) _ h in
        let (qs, d, e) = bind-some (as_props m comma ts) _ b in
        let (g, k) = first-fine t ts f in
        subst AllFine (inj (cons p qs) ps e) (one-more p qs (prop-kept m (is_last comma ts) t p a g)
        (props-kept m comma ts qs d k))

    prop-kept : (m : Role) (is_end : Bool) (t p : Tree F C K) → as_prop m is_end t ≡ Some p → Fine t → Fine p
    prop-kept m is_end (node shorthand s (cons n ts)) p h f =
        let (x, a) = only (is_ident n) h in
        let (g, k) = first-fine n ts (parts-fine (node shorthand s (cons n ts)) f) in
        subst Fine (inj (name_p s n hole_e) p a) (rw g.0 refl, rw g.1 refl)
    prop-kept m is_end (node cover s (cons n (cons e ts))) p h f =
        let (x, a) = only (is_ident n) h in
        let (g, k) = first-fine n (cons e ts) (parts-fine (node cover s (cons n (cons e ts))) f) in
        let (i, j) = first-fine e ts k in
        subst Fine (inj (name_p s n e) p a) (rw (g.0, i.0) refl, rw (g.1, i.1) refl)
    prop-kept m is_end (node key_value s (cons k (cons e ts))) p h f =
        let (q, a, b) = bind-some (as_pat m e) _ h in
        let (g, i) = first-fine k (cons e ts) (parts-fine (node key_value s (cons k (cons e ts))) f) in
        let w = kept m e q a (first-fine e ts i).0 in
        subst Fine (inj (key_value_e s k q) p b) (rw (g.0, w.0) refl, rw (g.1, w.1) refl)
    prop-kept m is_end (node spread s (cons d (cons e ts))) p h f =
        let (x, a) = only (is_end && is_rest_of m e) h in
        let (q, b, k) = bind-some (as_pat m e) _ a in
        let (g, i) = first-fine d (cons e ts) (parts-fine (node spread s (cons d (cons e ts))) f) in
        let w = kept m e q b (first-fine e ts i).0 in
        subst Fine (inj (rest_p s d q) p k) (rw (g.0, w.0) refl, rw (g.1, w.1) refl)
    prop-kept m is_end t p h f = absurd cc

  pub literal-kept : (strict : Bool) (l p : Tree F C K) → as_literal strict l ≡ Some p → Fine l → Fine p
  literal-kept strict l p h f = kept (target strict) l p (literal-is strict l p h).0 f

  pattern-tight : (p : Tree F C K) → is_pattern p ≡ true → nat_le 12 (tightness p) ≡ true
  pattern-tight (node (array_with comma) s ts) h = refl
  pattern-tight (node (object_with comma) s ts) h = refl
  pattern-tight (node k s ts) h = absurd cc

  pub literal-tight : (strict : Bool) (l p : Tree F C K) → as_literal strict l ≡ Some p → nat_le 12 (tightness p) ≡ true
  literal-tight strict l p h = pattern-tight p (literal-is strict l p h).1
