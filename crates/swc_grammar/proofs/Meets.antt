-- What is related as a binding binds names alone (`binds_names any`), and so does what is read as a pattern.
use Rattle.std.specs.Prelude.{◌≡◌, Bool, true, false, not, ◌&&◌, Option, Some, None, if◌then◌else◌}
use Rattle.std.proofs.Common.{refl, sym, ap, subst}
use Rattle.swc_context.specs.declared.span.Span.{Span}
use Rattle.swc_ast.specs.Tree.{Tree, node, Trees, nil, cons, span_of, ident, array_with, object_with, assign, member, super_prop, paren, hole, item, spread, shorthand, cover, key_value}
use Rattle.swc_ast.specs.Trees.{is_ident, hole_e, key_value_e}
use Rattle.swc_ast.specs.Patterns.{array_p, object_p, default_p, rest_p, name_p, put_element}
use Rattle.swc_grammar.specs.Patterns.{binds_names, all_bind_names, any, props_bind_names, prop_binds_names}
use Rattle.swc_grammar.specs.Cover.{binding, as_pat, as_elements, as_element, as_props, as_prop, is_pattern, is_assign, is_plain_assign, is_last, is_hole}
use Rattle.swc_grammar.proofs.Answers.{only, inj, both}
use Rattle.swc_grammar.proofs.Related.{bind-some}

module _ {F C K : Type 0} where
  put-meets : (b : Bool) (p : Tree F C K) (ps : Trees F C K) → binds_names any p ≡ true → all_bind_names any ps ≡ true
      → all_bind_names any (put_element b p ps) ≡ true
  put-meets true p nil h k = refl
  put-meets true p (cons q qs) h k = rw (h, k) refl
  put-meets false p ps h k = rw (h, k) refl

  -- the left side of an assignment: a pattern that stays, or what is related
  left-meets : (l q : Tree F C K) → (as_pat binding l ≡ Some q → binds_names any q ≡ true)
      → (if is_pattern l then (if binds_names any l then Some l else None) else as_pat binding l) ≡ Some q
      → binds_names any q ≡ true
  left-meets l q f h = by-kind (is_pattern l) h
    where
      by-kind : (b : Bool) → (if b then (if binds_names any l then Some l else None) else as_pat binding l) ≡ Some q
          → binds_names any q ≡ true
      by-kind true h = let (x, y) = only (binds_names any l) h in subst (λ v. binds_names any v ≡ true) (inj l q y) x
      by-kind false h = f h

  rest-meets : (e p q : Tree F C K) (s : Span) (d : Tree F C K) → binds_names any q ≡ true → Some (rest_p s d q)
      ≡ Some p → binds_names any p ≡ true
  rest-meets e p q s d h k = subst (λ v. binds_names any v ≡ true) (inj (rest_p s d q) p k) h

  -- what is related to a name is that name
  ident-meets : (e q : Tree F C K) → is_ident e ≡ true → as_pat binding e ≡ Some q → is_ident q ≡ true
  ident-meets (node (ident name) s ts) q h k = ap is_ident (sym (inj (node (ident name) s ts) q k))
  ident-meets (node k s ts) q h g = absurd cc

  ident-binds : (n : Tree F C K) → is_ident n ≡ true → binds_names any n ≡ true
  ident-binds (node (ident name) s ts) h = refl
  ident-binds (node k s ts) h = absurd cc

  mutual
    pub meets : (e p : Tree F C K) → as_pat binding e ≡ Some p → binds_names any p ≡ true
    meets (node (ident name) s ts) p h = ap (binds_names any) (sym (inj (node (ident name) s ts) p h))
    meets (node (array_with comma) s ts) p h =
        let (ps, a, b) = bind-some (as_elements binding comma ts) _ h in
        subst (λ v. binds_names any v ≡ true) (inj (array_p s ps) p b) (all-meet comma ts ps a)
    meets (node (object_with comma) s ts) p h =
        let (ps, a, b) = bind-some (as_props binding comma ts) _ h in
        subst (λ v. binds_names any v ≡ true) (inj (object_p s ps) p b) (props-meet comma ts ps a)
    meets (node (assign op) s (cons l (cons r ts))) p h =
        let (x, h1) = only (is_plain_assign op) h in
        let (q, a, b) =
        bind-some (if is_pattern l then (if binds_names any l then Some l else None) else as_pat binding l) _ h1 in
        subst (λ v. binds_names any v ≡ true) (inj (default_p s q r) p b) (left-meets l q (meets l q) a)
    meets (node member s ts) p h = absurd cc
    meets (node super_prop s ts) p h = absurd cc
    meets (node paren s ts) p h = absurd cc
    meets t p h = absurd cc

    pub all-meet : (comma : Option Span) (ts ps : Trees F C K) → as_elements binding comma ts ≡ Some ps
        → all_bind_names any ps ≡ true
    all-meet comma nil ps h = ap (all_bind_names any) (sym (inj nil ps h))
    all-meet comma (cons t ts) ps h =
        let (p, a, b) = bind-some (as_element binding (is_last comma ts) t) _ h in
        let (qs, d, e) = bind-some (as_elements binding comma ts) _ b in
        subst (λ v. all_bind_names any v ≡ true) (inj (put_element (is_hole t) p qs) ps e)
        (put-meets (is_hole t) p qs (element-meets (is_last comma ts) t p a) (all-meet comma ts qs d))

    element-meets : (is_end : Bool) (t p : Tree F C K) → as_element binding is_end t ≡ Some p → binds_names any p ≡ true
    element-meets is_end (node hole s ts) p h = ap (binds_names any) (sym (inj hole_e p h))
    element-meets is_end (node item s (cons e ts)) p h = meets e p h
    element-meets is_end (node spread s (cons d (cons e ts))) p h =
        let (x, a) = only (is_end && not (is_assign e)) h in
        let (q, b, k) = bind-some (as_pat binding e) _ a in
        rest-meets e p q (span_of e) d (meets e q b) k
    element-meets is_end t p h = absurd cc

    props-meet : (comma : Option Span) (ts ps : Trees F C K) → as_props binding comma ts ≡ Some ps
        → props_bind_names any ps ≡ true
    props-meet comma nil ps h = ap (props_bind_names any) (sym (inj nil ps h))
    props-meet comma (cons t ts) ps h =
        let (p, a, b) = bind-some (as_prop binding (is_last comma ts) t) _ h in
        let (qs, d, e) = bind-some (as_props binding comma ts) _ b in
        subst (λ v. props_bind_names any v ≡ true) (inj (cons p qs) ps e)
        (rw (prop-meets (is_last comma ts) t p a, props-meet comma ts qs d) refl)

    prop-meets : (is_end : Bool) (t p : Tree F C K) → as_prop binding is_end t ≡ Some p → prop_binds_names any p ≡ true
    prop-meets is_end (node shorthand s (cons n ts)) p h =
        let (x, a) = only (is_ident n) h in
        subst (λ v. prop_binds_names any v ≡ true) (inj (name_p s n hole_e) p a) (ident-binds n x)
    prop-meets is_end (node cover s (cons n (cons e ts))) p h =
        let (x, a) = only (is_ident n) h in
        subst (λ v. prop_binds_names any v ≡ true) (inj (name_p s n e) p a) (ident-binds n x)
    prop-meets is_end (node key_value s (cons k (cons e ts))) p h =
        let (q, a, b) = bind-some (as_pat binding e) _ h in
        subst (λ v. prop_binds_names any v ≡ true) (inj (key_value_e s k q) p b) (meets e q a)
    prop-meets is_end (node spread s (cons d (cons e ts))) p h =
        let (x, a) = only (is_end && is_ident e) h in
        let (y, i) = both is_end (is_ident e) x in
        let (q, b, k) = bind-some (as_pat binding e) _ a in
        subst (λ v. prop_binds_names any v ≡ true) (inj (rest_p s d q) p k) (rw (ident-meets e q i b, meets e q b) refl)
    prop-meets is_end t p h = absurd cc
