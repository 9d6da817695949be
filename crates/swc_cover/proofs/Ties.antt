-- Where refinement records nothing, it makes the pattern that the expression is, and where the expression is none, a
-- fault is recorded.
use Rattle.std.proofs.Common.{◌≡◌, Bool, true, false, not, ◌&&◌, Option, Some, None, refl, sym, ap, ◌∙◌}
use Rattle.std.specs.Prelude.{if◌then◌else◌}
use Rattle.swc_context.specs.{declared.operator.AssignOp.AssignOp as op, declared.span.Span.Span}
use Rattle.swc_ast.specs.Patterns.{rest_p, name_p, put_element}
use Rattle.swc_ast.specs.Tree.{Kind, hole, item, spread, ident, array, array_with, object, object_with, assign, paren, member, super_prop, shorthand, key_value, cover, binding_prop, rest, default, pat_expr, Tree, node, Trees, nil, cons, span_of}
use Rattle.swc_ast.specs.{Parts.no_tree, Targets.is_target, Trees.is_ident, Trees.hole_e}
use Rattle.swc_grammar.specs.Cover.{target, ◌>>>◌, is_assign, is_pattern, is_rest_of, stays, as_pat, as_elements, as_props}
use Rattle.swc_grammar.specs.Patterns.{binds_names, all_bind_names, prop_binds_names, props_bind_names, any}
use Rattle.swc_cover.proofs.Covers.{binds-same, holes-same, keep-is, keeps-by, span-want, two-are}
use Rattle.swc_cover.proofs.Formed.{PatFormed, AllPats, Formed, AllFormed}
use Rattle.swc_cover.specs.Fits.{Way, Binding, Target, role_of, binds, all_bind, prop_binds, props_bind, rest_held, left_fits, fits, elems_fit, props_fit}
use Rattle.swc_cover.specs.PatTypes.{cover_role, way_in, role_in, stands_whole, held_whole, want_as, fits_as, pattern_as}
use Rattle.swc_cover.specs.Wanted.{Keep, Bind, Assign, Rebind, Held, Ident, Array, Object, all_holes, pat_elems, rest_of, pat_props, want, want_parts, left_as}
use Rattle.swc_cover.specs.declared.pat_type.PatType.{PatType}
use Rattle.swc_cover.specs.declared.pat_type.PatType.TheVariants.{BindingPat, BindingElement, AssignPat, AssignElement}

-- ---- what is answered by tests

abbrev answer : {A : Type 0} → Bool → A → Option A
answer b a = if b then Some a else None

one-if : {A B : Type 0} (b : Bool) (a : A) (f : A → B) → (answer b a >>> (λ x. Some (f x))) ≡ answer b (f a)
one-if true a f = refl
one-if false a f = refl

two-ifs : {A B D : Type 0} (b c : Bool) (a : A) (d : B) (f : A → B → D) →
    (answer b a >>> (λ x. answer c d >>> (λ y. Some (f x y)))) ≡ answer (b && c) (f a d)
two-ifs true true a d f = refl
two-ifs true false a d f = refl
two-ifs false c a d f = refl

-- an answer that two tests ask for, and what is made of it
guarded : {A B : Type 0} (b c : Bool) (a : A) (f : A → B) → ((if b then answer c a else None) >>> (λ x. Some (f x))) ≡
    answer (b && c) (f a)
guarded true true a f = refl
guarded true false a f = refl
guarded false c a f = refl

answer-on : {A : Type 0} (b : Bool) {x y : A} → (b ≡ true → x ≡ y) → answer b x ≡ answer b y
answer-on true h = ap Some (h refl)
answer-on false h = refl

and-true : (a : Bool) → (a && true) ≡ a
and-true true = refl
and-true false = refl

both-same : {a b c d : Bool} → a ≡ b → c ≡ d → (a && c) ≡ (b && d)
both-same e f = rw (e, f) refl

module _ {F C K : Type 0} where
  -- ---- patterns that bind names

  ident-any : (t : Tree F C K) → is_ident t ≡ true → binds_names any t ≡ true
  ident-any (node (ident w) s ts) h = refl
  ident-any (node k s ts) h = cc

  rest-any : (t : Tree F C K) → (is_ident t && binds_names any t) ≡ is_ident t
  rest-any (node (ident w) s ts) = refl
  rest-any (node k s ts) = refl

  mutual
    binds-any : (p : Tree F C K) → PatFormed p → binds_names any p ≡ binds p
    binds-any (node (array_with None) s ts) f = all-any ts f.1
    binds-any (node (array_with (Some c)) s ts) f = let e : Some c ≡ None = f.0 in cc
    binds-any (node (object_with None) s ts) f = props-any ts f.1
    binds-any (node (object_with (Some c)) s ts) f = let e : Some c ≡ None = f.0 in cc
    binds-any (node default s (cons l (cons r nil))) f = binds-any l f
    binds-any (node default s ts) f = absurd f
    binds-any (node rest s (cons d (cons p nil))) f = binds-any p f
    binds-any (node rest s ts) f = absurd f
    binds-any p f = refl

    all-any : (ts : Trees F C K) → AllPats ts → all_bind_names any ts ≡ all_bind ts
    all-any nil f = refl
    all-any (cons t ts) f = both-same (binds-any t f.0) (all-any ts f.1)

    prop-any : (p : Tree F C K) → PatFormed p → prop_binds_names any p ≡ prop_binds p
    prop-any (node key_value s (cons k (cons v nil))) f = binds-any v f
    prop-any (node key_value s ts) f = absurd f
    prop-any (node binding_prop s (cons i (cons e nil))) f = ident-any i f
    prop-any (node binding_prop s ts) f = absurd f
    prop-any (node rest s (cons d (cons p nil))) f = rest-any p
    prop-any (node rest s ts) f = absurd f
    prop-any p f = refl

    props-any : (ts : Trees F C K) → AllPats ts → props_bind_names any ts ≡ props_bind ts
    props-any nil f = refl
    props-any (cons t ts) f = both-same (prop-any t f.0) (props-any ts f.1)

  -- ---- what is left of a `=`

  bound-left : (l : Tree F C K) (b : Bool) → binds l ≡ b → answer b l ≡ answer b (want Rebind l)
  bound-left l true h = ap Some (sym (binds-same l h))
  bound-left l false h = refl

  left-by : (w : Way) (l : Tree F C K) (p : Bool) → is_pattern l ≡ p → (is_pattern l ≡ true → PatFormed l) →
      (is_pattern l ≡ false → as_pat (cover_role w) l ≡ answer (fits w l) (want (role_of w) l)) →
      (if p then (if stays (cover_role w) l then Some l else None) else as_pat (cover_role w) l) ≡ answer
      (if p then left_fits w l else fits w l) (want (left_as (role_of w) p) l)
  left-by Binding l true e f g = ap (λ b. answer b l) (binds-any l (f e)) ∙ bound-left l (binds l) refl
  left-by (Target strict) l true e f g = ap Some (sym (keep-is l))
  left-by Binding l false e f g = g e
  left-by (Target strict) l false e f g = g e

  left-is : (w : Way) (l r : Tree F C K) (s : Span) → (is_pattern l ≡ true → PatFormed l) →
      (is_pattern l ≡ false → as_pat (cover_role w) l ≡ answer (fits w l) (want (role_of w) l)) →
      ((if is_pattern l then (if stays (cover_role w) l then Some l else None) else as_pat (cover_role w) l) >>>
      (λ p. Some (node default s (cons p (cons r nil)))))
      ≡ answer (if is_pattern l then left_fits w l else fits w l)
      (node default s (cons (want (left_as (role_of w) (is_pattern l)) l) (cons (want Keep r) nil)))
  left-is w l r s f g =
      ap (λ o. o >>> (λ p. Some (node default s (cons p (cons r nil))))) (left-by w l (is_pattern l) refl f g)
      ∙ one-if (if is_pattern l then left_fits w l else fits w l) (want (left_as (role_of w) (is_pattern l)) l)
      (λ p. node default s (cons p (cons r nil)))
      ∙ ap (λ v. answer (if is_pattern l then left_fits w l else fits w l)
      (node default s (cons (want (left_as (role_of w) (is_pattern l)) l) (cons v nil)))) (sym (keep-is r))

  held-is : (k : Kind F C K) (s : Span) (ts us : Trees F C K) (b : Bool) → us ≡ ts →
      answer b (node pat_expr s (cons (node k s ts) nil)) ≡ answer b (node pat_expr s (cons (node k s us) nil))
  held-is k s ts us b e = ap (λ v. answer b (node pat_expr s (cons (node k s v) nil))) (sym e)

  -- ---- a hole before what elements became: at the end none is left

  put-hole : (w : Way) (c : Option Span) (k : Kind F C K) (p : Tree F C K) (es : Trees F C K) →
      elems_fit w c es ≡ true →
      put_element true p (pat_elems (want_parts Array (role_of w) k es)) ≡
      (if all_holes es then nil else cons p (pat_elems (want_parts Array (role_of w) k es)))
  put-hole w c k p nil h = refl
  put-hole w c k p (cons (node hole s nil) es) h =
      ap (λ b. put_element true p (if b then nil else cons (node hole s nil)
      (pat_elems (want_parts Array (role_of w) k es)))) (holes-same (role_of w) k es)
      ∙ by-holes p (node hole s nil) (pat_elems (want_parts Array (role_of w) k es)) (all_holes es)
      ∙ ap (λ b. if all_holes es then nil else cons p (if b then nil else cons (node hole s nil)
      (pat_elems (want_parts Array (role_of w) k es)))) (sym (holes-same (role_of w) k es))
    where
      by-holes : (p q : Tree F C K) (qs : Trees F C K) (b : Bool) →
          put_element true p (if b then nil else cons q qs) ≡ (if b then nil else cons p (if b then nil else cons q qs))
      by-holes p q qs true = refl
      by-holes p q qs false = refl
  put-hole w c k p (cons (node item s (cons t nil)) es) h = refl
  put-hole w c k p (cons (node spread s (cons d (cons t nil))) nil) h = refl
  put-hole w c k p (cons (node spread s (cons d (cons t nil))) (cons e es)) h = cc
  put-hole w c k p es h = cc

  -- ---- the last spread of an object

  rest-answer : (w : Way) (s : Span) (d t : Tree F C K) →
      answer ((not (is_assign t) && rest_held w t) && fits w t)
      (cons (node rest s (cons d (cons (want (role_of w) t) nil))) nil)
      ≡ answer ((not (is_assign t) && rest_held w t) && fits w t)
      (cons (rest_of (role_of w) s d (want (role_of w) t)) nil)
  rest-answer (Target strict) s d t = refl
  rest-answer Binding s d (node (ident n) u us) = refl
  rest-answer Binding s d (node (assign o) u us) = refl
  rest-answer Binding s d t = refl

  ident-held : (t : Tree F C K) → is_ident t ≡ (not (is_assign t) && is_ident t)
  ident-held (node (ident n) u us) = refl
  ident-held (node (assign o) u us) = refl
  ident-held t = refl

  spread-is : (w : Way) (c : Option Span) (k : Kind F C K) (s : Span) (d t : Tree F C K) →
      as_pat (cover_role w) t ≡ answer (fits w t) (want (role_of w) t) →
      as_elements (cover_role w) c (cons (node spread s (cons d (cons t nil))) nil)
      ≡ answer (elems_fit w c (cons (node spread s (cons d (cons t nil))) nil))
      (pat_elems (want_parts Array (role_of w) k (cons (node spread s (cons d (cons t nil))) nil)))
  spread-is w (Some z) k s d t e = refl
  spread-is w None k s d t e =
      ap (λ o. (if not (is_assign t) then (o >>> (λ p. Some (rest_p (span_of t) d p))) else None) >>>
      (λ p. Some (cons p nil))) e
      ∙ ap (λ o. (if not (is_assign t) then o else None) >>> (λ p. Some (cons p nil)))
      (one-if (fits w t) (want (role_of w) t) (λ p. rest_p (span_of t) d p))
      ∙ guarded (not (is_assign t)) (fits w t) (rest_p (span_of t) d (want (role_of w) t)) (λ p. cons p nil)
      ∙ ap (λ v. answer (not (is_assign t) && fits w t) (cons (node rest v (cons d (cons (want (role_of w) t) nil)))
      nil)) (sym (span-want (role_of w) t))
      ∙ ap (λ v. answer (not (is_assign t) && fits w t) (cons
      (node rest (span_of (want (role_of w) t)) (cons v (cons (want (role_of w) t) nil))) nil)) (sym (keep-is d))

  rest-test : (w : Way) (t : Tree F C K) → is_rest_of (cover_role w) t ≡ (not (is_assign t) && rest_held w t)
  rest-test Binding t = ident-held t
  rest-test (Target strict) t = sym (and-true (not (is_assign t)))

  rest-prop-is : (w : Way) (c : Option Span) (k : Kind F C K) (s : Span) (d t : Tree F C K) →
      as_pat (cover_role w) t ≡ answer (fits w t) (want (role_of w) t) →
      as_props (cover_role w) c (cons (node spread s (cons d (cons t nil))) nil)
      ≡ answer (props_fit w c (cons (node spread s (cons d (cons t nil))) nil))
      (pat_props (role_of w) (want_parts Object (role_of w) k (cons (node spread s (cons d (cons t nil))) nil)))
  rest-prop-is w (Some z) k s d t e = refl
  rest-prop-is w None k s d t e =
      let b = not (is_assign t) && rest_held w t in
      ap (λ o. (if is_rest_of (cover_role w) t then (o >>> (λ p. Some (rest_p s d p))) else None) >>>
      (λ p. Some (cons p nil))) e
      ∙ ap (λ o. (if is_rest_of (cover_role w) t then o else None) >>> (λ p. Some (cons p nil)))
      (one-if (fits w t) (want (role_of w) t) (λ p. rest_p s d p))
      ∙ ap (λ v. (if v then answer (fits w t) (rest_p s d (want (role_of w) t)) else None) >>>
      (λ p. Some (cons p nil))) (rest-test w t)
      ∙ guarded b (fits w t) (rest_p s d (want (role_of w) t)) (λ p. cons p nil)
      ∙ rest-answer w s d t
      ∙ ap (λ v. answer (b && fits w t) (cons (rest_of (role_of w) s v (want (role_of w) t)) nil)) (sym (keep-is d))

  behind-spread : (w : Way) (c : Option Span) (k : Kind F C K) (s : Span) (d t e : Tree F C K) (es : Trees F C K) →
      as_elements (cover_role w) c (cons (node spread s (cons d (cons t nil))) (cons e es))
      ≡ answer (elems_fit w c (cons (node spread s (cons d (cons t nil))) (cons e es)))
      (pat_elems (want_parts Array (role_of w) k (cons (node spread s (cons d (cons t nil))) (cons e es))))
  behind-spread w None k s d t e es = refl
  behind-spread w (Some z) k s d t e es = refl

  behind-rest : (w : Way) (c : Option Span) (k : Kind F C K) (s : Span) (d t e : Tree F C K) (es : Trees F C K) →
      as_props (cover_role w) c (cons (node spread s (cons d (cons t nil))) (cons e es))
      ≡ answer (props_fit w c (cons (node spread s (cons d (cons t nil))) (cons e es)))
      (pat_props (role_of w) (want_parts Object (role_of w) k
      (cons (node spread s (cons d (cons t nil))) (cons e es))))
  behind-rest w None k s d t e es = refl
  behind-rest w (Some z) k s d t e es = refl

  -- ---- an expression that is a pattern becomes it

  mutual
    pub as-pat-is : (w : Way) (t : Tree F C K) → Formed t → as_pat (cover_role w) t ≡ answer (fits w t)
        (want (role_of w) t)
    as-pat-is Binding (node (ident n) s ts) f = ap (λ v. Some (node (ident n) s v))
        (sym (keeps-by Ident Bind (ident n) (λ t us. refl) ts))
    as-pat-is (Target strict) (node (ident n) s ts) f =
        ap (λ v. answer (is_target strict (node (ident n) s ts)) (node (ident n) s v))
        (sym (keeps-by Ident Assign (ident n) (λ t us. refl) ts))
    as-pat-is (Target strict) (node member s ts) f = held-is member s ts _ (is_target strict (node member s ts))
        (keeps-by Held Assign member (λ t us. refl) ts)
    as-pat-is (Target strict) (node super_prop s ts) f = held-is super_prop s ts _
        (is_target strict (node super_prop s ts)) (keeps-by Held Assign super_prop (λ t us. refl) ts)
    as-pat-is (Target strict) (node paren s ts) f = held-is paren s ts _ (is_target strict (node paren s ts))
        (keeps-by Held Assign paren (λ t us. refl) ts)
    as-pat-is Binding (node (array_with c) s ts) f =
        ap (λ o. o >>> (λ ps. Some (node array s ps))) (as-elems-is Binding c (array_with c) ts f)
        ∙ one-if (elems_fit Binding c ts) _ (node array s)
    as-pat-is (Target strict) (node (array_with c) s ts) f =
        ap (λ o. o >>> (λ ps. Some (node array s ps))) (as-elems-is (Target strict) c (array_with c) ts f)
        ∙ one-if (elems_fit (Target strict) c ts) _ (node array s)
    as-pat-is Binding (node (object_with c) s ts) f =
        ap (λ o. o >>> (λ ps. Some (node object s ps))) (as-props-is Binding c (object_with c) ts f)
        ∙ one-if (props_fit Binding c ts) _ (node object s)
    as-pat-is (Target strict) (node (object_with c) s ts) f =
        ap (λ o. o >>> (λ ps. Some (node object s ps))) (as-props-is (Target strict) c (object_with c) ts f)
        ∙ one-if (props_fit (Target strict) c ts) _ (node object s)
    as-pat-is Binding (node (assign op.Assign) s (cons l (cons r nil))) f = left-is Binding l r s f.0
        (λ h. as-pat-is Binding l (f.1 h))
    as-pat-is (Target strict) (node (assign op.Assign) s (cons l (cons r nil))) f = left-is (Target strict) l r s f.0
        (λ h. as-pat-is (Target strict) l (f.1 h))
    as-pat-is Binding (node (assign op.Assign) s ts) f = absurd f
    as-pat-is (Target strict) (node (assign op.Assign) s ts) f = absurd f
    as-pat-is Binding (node (assign o) s (cons l (cons r nil))) f = refl
    as-pat-is (Target strict) (node (assign o) s (cons l (cons r nil))) f = refl
    as-pat-is Binding (node (assign o) s ts) f = absurd f
    as-pat-is (Target strict) (node (assign o) s ts) f = absurd f
    as-pat-is Binding t f = refl
    as-pat-is (Target strict) t f = refl

    pub as-elems-is : (w : Way) (c : Option Span) (k : Kind F C K) (ts : Trees F C K) → AllFormed ts →
        as_elements (cover_role w) c ts ≡ answer (elems_fit w c ts) (pat_elems (want_parts Array (role_of w) k ts))
    as-elems-is w c k nil f = refl
    as-elems-is w c k (cons (node hole s nil) es) f =
        ap (λ o. o >>> (λ ps. Some (put_element true hole_e ps))) (as-elems-is w c k es f.1)
        ∙ one-if (elems_fit w c es) _ (λ ps. put_element true hole_e ps)
        ∙ answer-on (elems_fit w c es) (put-hole w c k hole_e es)
        ∙ ap (λ z. answer (elems_fit w c es) (if all_holes es then nil else cons (node hole z nil)
        (pat_elems (want_parts Array (role_of w) k es)))) (sym f.0.0)
        ∙ ap (λ b. answer (elems_fit w c es) (if b then nil else cons (node hole s nil)
        (pat_elems (want_parts Array (role_of w) k es)))) (sym (holes-same (role_of w) k es))
    as-elems-is w c k (cons (node hole s (cons t ts)) es) f = let e : cons t ts ≡ nil = f.0.1 in cc
    as-elems-is w c k (cons (node item s (cons t nil)) es) f =
        ap (λ o. o >>> (λ p. as_elements (cover_role w) c es >>> (λ ps. Some (cons p ps)))) (as-pat-is w t f.0)
        ∙ ap (λ o. answer (fits w t) (want (role_of w) t) >>> (λ p. o >>> (λ ps. Some (cons p ps))))
        (as-elems-is w c k es f.1)
        ∙ two-ifs (fits w t) (elems_fit w c es) _ _ cons
    as-elems-is w c k (cons (node item s ts) es) f = absurd f.0
    as-elems-is w c k (cons (node spread s (cons d (cons t nil))) nil) f = spread-is w c k s d t (as-pat-is w t f.0)
    as-elems-is w c k (cons (node spread s (cons d (cons t nil))) (cons e es)) f = behind-spread w c k s d t e es
    as-elems-is w c k (cons (node spread s ts) es) f = absurd f.0
    as-elems-is w c k ts f = refl

    pub as-props-is : (w : Way) (c : Option Span) (k : Kind F C K) (ts : Trees F C K) → AllFormed ts →
        as_props (cover_role w) c ts ≡ answer (props_fit w c ts)
        (pat_props (role_of w) (want_parts Object (role_of w) k ts))
    as-props-is w c k nil f = refl
    as-props-is w c k (cons (node shorthand s (cons i nil)) es) f =
        ap (λ b. (if b then Some (name_p s i hole_e) else None) >>>
        (λ p. as_props (cover_role w) c es >>> (λ ps. Some (cons p ps)))) f.0
        ∙ ap (λ o. o >>> (λ ps. Some (cons (name_p s i hole_e) ps))) (as-props-is w c k es f.1)
        ∙ one-if (props_fit w c es) _ (cons (name_p s i hole_e))
        ∙ ap (λ v. answer (props_fit w c es) (cons (node binding_prop s (cons v (cons no_tree nil)))
        (pat_props (role_of w) (want_parts Object (role_of w) k es)))) (sym (keep-is i))
    as-props-is w c k (cons (node shorthand s ts) es) f = absurd f.0
    as-props-is w c k (cons (node cover s (cons i (cons e nil))) es) f =
        ap (λ b. (if b then Some (name_p s i e) else None) >>>
        (λ p. as_props (cover_role w) c es >>> (λ ps. Some (cons p ps)))) f.0
        ∙ ap (λ o. o >>> (λ ps. Some (cons (name_p s i e) ps))) (as-props-is w c k es f.1)
        ∙ one-if (props_fit w c es) _ (cons (name_p s i e))
        ∙ ap (λ v. answer (props_fit w c es) (cons (node binding_prop s v)
        (pat_props (role_of w) (want_parts Object (role_of w) k es)))) (sym (two-are (keep-is i) (keep-is e)))
    as-props-is w c k (cons (node cover s ts) es) f = absurd f.0
    as-props-is w c k (cons (node key_value s (cons q (cons v nil))) es) f =
        ap (λ o. (o >>> (λ p. Some (node key_value s (cons q (cons p nil))))) >>>
        (λ p. as_props (cover_role w) c es >>> (λ ps. Some (cons p ps)))) (as-pat-is w v f.0)
        ∙ ap (λ o. o >>> (λ p. as_props (cover_role w) c es >>> (λ ps. Some (cons p ps))))
        (one-if (fits w v) (want (role_of w) v) (λ p. node key_value s (cons q (cons p nil))))
        ∙ ap (λ o. answer (fits w v) (node key_value s (cons q (cons (want (role_of w) v) nil))) >>>
        (λ p. o >>> (λ ps. Some (cons p ps)))) (as-props-is w c k es f.1)
        ∙ two-ifs (fits w v) (props_fit w c es) _ _ cons
        ∙ ap (λ u. answer (fits w v && props_fit w c es) (cons
        (node key_value s (cons u (cons (want (role_of w) v) nil)))
        (pat_props (role_of w) (want_parts Object (role_of w) k es)))) (sym (keep-is q))
    as-props-is w c k (cons (node key_value s ts) es) f = absurd f.0
    as-props-is w c k (cons (node spread s (cons d (cons t nil))) nil) f = rest-prop-is w c k s d t (as-pat-is w t f.0)
    as-props-is w c k (cons (node spread s (cons d (cons t nil))) (cons e es)) f = behind-rest w c k s d t e es
    as-props-is w c k (cons (node spread s ts) es) f = absurd f.0
    as-props-is w c k ts f = refl

  -- ---- the same by the kinds of patterns

  whole-is : (strict : Bool) (t : Tree F C K) → stands_whole AssignPat t ≡ true →
      (if is_assign t then None else as_pat (target strict) t) ≡ answer (is_target strict t) (held_whole t)
  whole-is strict (node (ident n) s ts) h = refl
  whole-is strict (node member s ts) h = refl
  whole-is strict (node super_prop s ts) h = refl
  whole-is strict (node paren s ts) h = refl
  whole-is strict (node (array_with c) s ts) h = cc
  whole-is strict (node (object_with c) s ts) h = cc
  whole-is strict (node (assign o) s ts) h = refl
  whole-is strict t h = refl

  type-by : (strict : Bool) (p : PatType) (t : Tree F C K) (b : Bool) → stands_whole p t ≡ b → Formed t →
      (if (b && is_assign t) then None else as_pat (cover_role (way_in strict p)) t)
      ≡ answer (if b then is_target strict t else fits (way_in strict p) t)
      (if b then held_whole t else want (role_in p) t)
  type-by strict AssignPat t true e f = whole-is strict t e
  type-by strict BindingPat t true e f = cc
  type-by strict BindingElement t true e f = cc
  type-by strict AssignElement t true e f = cc
  type-by strict BindingPat t false e f = as-pat-is Binding t f
  type-by strict BindingElement t false e f = as-pat-is Binding t f
  type-by strict AssignPat t false e f = as-pat-is (Target strict) t f
  type-by strict AssignElement t false e f = as-pat-is (Target strict) t f

  pub pattern-is : (strict : Bool) (p : PatType) (t u : Tree F C K) → Formed t → u ≡ want_as p t →
      pattern_as strict p t ≡ (if fits_as strict p t then Some u else None)
  pattern-is strict p t u f e =
      type-by strict p t (stands_whole p t) refl f ∙ ap (λ v. answer (fits_as strict p t) v) (sym e)
