-- What is kept, and what of a pattern that binds stays as it is.
use Rattle.std.proofs.Common.{◌≡◌, true, ◌&&◌, None, refl, ap, ◌∙◌}
use Rattle.swc_context.specs.declared.span.Span.{Span}
use Rattle.swc_ast.specs.Tree.{Kind, hole, ident, array_with, object_with, key_value, binding_prop, rest, default, Tree, node, Trees, nil, cons, span_of}
use Rattle.swc_ast.specs.Trees.{is_ident}
use Rattle.swc_grammar.specs.Cover.{is_hole}
use Rattle.swc_cover.specs.Fits.{binds, all_bind, prop_binds, props_bind}
use Rattle.swc_cover.specs.Wanted.{Role, Keep, Rebind, Becomes, Same, Held, Ident, Array, Object, Objects, Default, Nothing, all_holes, rest_ok, rest_of, put_prop, pat_props, shallow_as, want, want_parts, part_as, Inside, Holder}
use Rattle.swc_steps.proofs.Steps.{both_left, both_right}

-- ---- tests, and what is answered by them

module _ {F C K : Type 0} where
  span-shallow : (b : Becomes) (r : Role) (k : Kind F C K) (s : Span) (ts : Trees F C K) →
      span_of (shallow_as b r (node k s ts)) ≡ s
  span-shallow Same r k s ts = refl
  span-shallow Held r k s ts = refl
  span-shallow Ident r k s ts = refl
  span-shallow Array r k s ts = refl
  span-shallow Object r k s ts = refl
  span-shallow Objects r k s ts = refl
  span-shallow Default r k s ts = refl
  span-shallow Holder r k s ts = refl
  span-shallow Nothing r k s ts = refl

  pub span-want : (r : Role) (t : Tree F C K) → span_of (want r t) ≡ span_of t
  span-want r (node k s ts) = span-shallow _ r k s _

  -- what is kept
  mutual
    pub keep-is : (t : Tree F C K) → want Keep t ≡ t
    keep-is (node k s ts) = ap (node k s) (keeps k ts)

    keeps : (k : Kind F C K) (ts : Trees F C K) → want_parts Same Keep k ts ≡ ts
    keeps k nil = refl
    keeps k (cons t ts) = ap (λ v. cons v (want_parts Same Keep k ts)) (keep-is t) ∙ ap (cons t) (keeps k ts)

  pub keeps-by : (b : Becomes) (r : Role) (k : Kind F C K) → ((t : Tree F C K) (us : Trees F C K) → part_as b r k t us
      ≡ Keep) → (ts : Trees F C K) → want_parts b r k ts ≡ ts
  keeps-by b r k h nil = refl
  keeps-by b r k h (cons t ts) =
      ap (λ v. cons (want v t) (want_parts b r k ts)) (h t ts) ∙ ap (λ v. cons v (want_parts b r k ts)) (keep-is t)
      ∙ ap (cons t) (keeps-by b r k h ts)

  abbrev items : Role → Kind F C K → Trees F C K → Trees F C K
  items r k ts = want_parts Array r k ts

  first-same : (r : Role) (k l : Kind F C K) (s : Span) (us ts : Trees F C K) →
      all_holes (items r l ts) ≡ all_holes ts →
      (is_hole (want (Inside r) (node k s us)) && all_holes (items r l ts)) ≡ (is_hole (node k s us) && all_holes ts)
  first-same r hole l s us ts e = e
  first-same r k l s us ts e = refl

  pub holes-same : (r : Role) (k : Kind F C K) (ts : Trees F C K) → all_holes (items r k ts) ≡ all_holes ts
  holes-same r k nil = refl
  holes-same r k (cons (node j s us) ts) = first-same r j k s us ts (holes-same r k ts)

  -- ---- a pattern that binds stays

  pub rest-is : (r : Role) (s : Span) (d t : Tree F C K) → rest_ok r t ≡ true →
      rest_of r s d t ≡ node rest s (cons d (cons t nil))
  rest-is r s d t h = rw h refl

  ident-ok : (p : Tree F C K) → is_ident p ≡ true → rest_ok Rebind p ≡ true
  ident-ok p h = rw h refl

  pub two-are : {s t u v : Tree F C K} → s ≡ u → t ≡ v → cons s (cons t nil) ≡ cons u (cons v nil)
  two-are {t = t} {u = u} e f = ap (λ w. cons w (cons t nil)) e ∙ ap (λ w. cons u (cons w nil)) f

  mutual
    pub binds-same : (p : Tree F C K) → binds p ≡ true → want Rebind p ≡ p
    binds-same (node (ident w) s ts) h = ap (node (ident w) s) (keeps-by Same Rebind (ident w) (λ t us. refl) ts)
    binds-same (node (array_with None) s ts) h = ap (node (array_with None) s) (all-same ts h)
    binds-same (node (object_with None) s ts) h = ap (node (object_with None) s) (props-same (object_with None) ts h)
    binds-same (node default s (cons l (cons r nil))) h = ap (node default s) (two-are (binds-same l h) (keep-is r))
    binds-same (node rest s (cons d (cons p nil))) h = ap (node rest s) (two-are (keep-is d) (binds-same p h))
    binds-same (node hole s ts) h = ap (node hole s) (keeps-by Same Rebind hole (λ t us. refl) ts)
    binds-same t h = cc

    all-same : (ts : Trees F C K) → all_bind ts ≡ true → want_parts Same Rebind (array_with None) ts ≡ ts
    all-same nil h = refl
    all-same (cons t ts) h =
        ap (λ v. cons v (want_parts Same Rebind (array_with None) ts))
        (binds-same t (both_left (binds t) (all_bind ts) h))
        ∙ ap (cons t) (all-same ts (both_right (binds t) (all_bind ts) h))

    props-same : (k : Kind F C K) (ts : Trees F C K) → props_bind ts ≡ true →
        pat_props Rebind (want_parts Objects Rebind k ts) ≡ ts
    props-same k nil h = refl
    props-same k (cons (node j s us) ts) h =
        prop-same k j s us ts (both_left (prop_binds (node j s us)) (props_bind ts) h)
        (props-same k ts (both_right (prop_binds (node j s us)) (props_bind ts) h))

    prop-same : (k j : Kind F C K) (s : Span) (us ts : Trees F C K) → prop_binds (node j s us) ≡ true →
        pat_props Rebind (want_parts Objects Rebind k ts) ≡ ts →
        put_prop Rebind (want (Inside Rebind) (node j s us)) (pat_props Rebind (want_parts Objects Rebind k ts)) ≡ cons
        (node j s us) ts
    prop-same k key_value s (cons q (cons v nil)) ts h e = rw (binds-same v h, keep-is q, e) refl
    prop-same k binding_prop s us ts h e = rw (keeps-by Same (Inside Rebind) binding_prop (λ t vs. refl) us, e) refl
    prop-same k rest s (cons d (cons p nil)) ts h e = rw (
      keep-is p,
      keep-is d,
      rest-is Rebind s d p (ident-ok p h),
      e,
    ) refl
    prop-same k j s us ts h e = cc
