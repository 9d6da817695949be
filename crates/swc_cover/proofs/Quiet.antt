-- Nothing is recorded of an expression where it is a pattern, and, where it holds no `Invalid`, there alone.
use Rattle.std.proofs.Common.{◌≡◌, Bool, true, false, not, ◌&&◌, List, [], ◌∷◌, ◌++◌, Option, Some, None, refl, sym, ap, ◌∙◌}
use Rattle.std.specs.Prelude.{if◌then◌else◌, is_none}
use Rattle.swc_context.specs.{declared.operator.AssignOp.AssignOp as op, declared.span.Span.Span}
use Rattle.swc_ast.specs.Targets.{is_target}
use Rattle.swc_ast.specs.Tree.{hole, item, spread, ident, array_with, object_with, assign, paren, member, super_prop, invalid, shorthand, key_value, cover, binding_prop, rest, default, Tree, node, Trees, nil, cons, span_of}
use Rattle.swc_ast.specs.Trees.{is_ident, is_valid, are_valid}
use Rattle.swc_grammar.specs.Cover.{is_assign, is_pattern}
use Rattle.swc_cover.specs.Fits.{Way, Binding, Target, fits, elems_fit, props_fit, left_fits, rest_held, binds, all_bind, prop_binds, props_bind}
use Rattle.swc_cover.specs.Faults.{param_faults, params_verdict, Verdict, clean, recorded, goes_on, also, one_if, spread_faults, comma_faults, rest_faults, held_verdict, plain_assignment, own_faults, left_faults, may_rest, verdict, elems_verdict, props_verdict, again, all_again, prop_again, props_again, Recorded}
use Rattle.swc_cover.specs.{declared.faults.Fault.Fault, declared.faults.FaultKind.FaultKind as fault}
use Rattle.swc_steps.proofs.Steps.{both_left, both_right}

none-both : (fs gs : List Fault) → fs ≡ [] → gs ≡ [] → fs ++ gs ≡ []
none-both fs gs e f = rw (e, f) refl

also-both : (u v : Verdict) → u ≡ clean → v ≡ clean → also u v ≡ clean
also-both u v e f = ap (λ w. also w v) e ∙ f

none-left : (fs gs : List Fault) → fs ++ gs ≡ [] → fs ≡ []
none-left [] gs e = refl
none-left (f ∷ fs) gs e = cc

none-right : (fs gs : List Fault) → fs ++ gs ≡ [] → gs ≡ []
none-right [] gs e = e
none-right (f ∷ fs) gs e = cc

goes-right : (fs : List Fault) (v : Verdict) → goes_on fs None v ≡ clean → v ≡ clean
goes-right [] v e = e
goes-right (f ∷ fs) v e = let a : f ∷ (fs ++ v.faults) ≡ [] = ap (λ w. w.faults) e in cc

goes-left : (fs : List Fault) (v : Verdict) → goes_on fs None v ≡ clean → fs ≡ []
goes-left fs v e = none-left fs v.faults (ap (λ w. w.faults) e)

also-left : (fs : List Fault) (r : Option Span) (v : Verdict) → goes_on fs r v ≡ clean →
    record { faults = fs; refused = r } ≡ clean
also-left fs None v e = ap recorded (goes-left fs v e)
also-left fs (Some s) v e = e

also-right : (fs : List Fault) (r : Option Span) (v : Verdict) → goes_on fs r v ≡ clean → v ≡ clean
also-right fs None v e = goes-right fs v e
also-right fs (Some s) v e = let a : Some s ≡ None = ap (λ w. w.refused) e in cc

both-are : (a b : Bool) → a ≡ true → b ≡ true → (a && b) ≡ true
both-are a b e f = rw (e, f) refl

is-true : (b : Bool) (s : Span) → one_if (not b) fault.NotSimpleAssign s ≡ [] → b ≡ true
is-true true s e = refl
is-true false s e = cc

is-false : (b : Bool) (s : Span) → one_if b fault.TS1048 s ≡ [] → b ≡ false
is-false true s e = cc
is-false false s e = refl

no-comma : (c : Option Span) → comma_faults c ≡ [] → is_none c ≡ true
no-comma None e = refl
no-comma (Some s) e = cc

faults-none : (v : Verdict) → v ≡ clean → v.faults ≡ []
faults-none v e = ap (λ w. w.faults) e

also-first : (u v : Verdict) → also u v ≡ clean → u ≡ clean
also-first u v e = also-left u.faults u.refused v e

also-second : (u v : Verdict) → also u v ≡ clean → v ≡ clean
also-second u v e = also-right u.faults u.refused v e

never : (s : Span) (v : Verdict) → also (record { faults = []; refused = Some s }) v ≡ clean → ⊥
never s v e = let a : Some s ≡ None = ap (λ w. w.refused) e in cc

module _ {F C K : Type 0} where
  -- ---- a pattern that binds

  mutual
    binds-quiet : (p : Tree F C K) → binds p ≡ true → again p ≡ []
    binds-quiet (node (ident w) s ts) h = refl
    binds-quiet (node (array_with None) s ts) h = all-quiet ts h
    binds-quiet (node (object_with None) s ts) h = props-quiet ts h
    binds-quiet (node default s (cons l (cons r nil))) h = binds-quiet l h
    binds-quiet (node rest s (cons d (cons p nil))) h = binds-quiet p h
    binds-quiet (node hole s ts) h = refl
    binds-quiet t h = cc

    all-quiet : (ts : Trees F C K) → all_bind ts ≡ true → all_again ts ≡ []
    all-quiet nil h = refl
    all-quiet (cons t ts) h = none-both (again t) (all_again ts) (binds-quiet t (both_left (binds t) (all_bind ts) h))
        (all-quiet ts (both_right (binds t) (all_bind ts) h))

    prop-quiet : (t : Tree F C K) → prop_binds t ≡ true → prop_again t ≡ []
    prop-quiet (node key_value s (cons k (cons v nil))) h = binds-quiet v h
    prop-quiet (node binding_prop s ts) h = refl
    prop-quiet (node rest s (cons d (cons p nil))) h = rest-again s p h
    prop-quiet (node k s ts) h = cc

    rest-again : (s : Span) (p : Tree F C K) → is_ident p ≡ true →
        one_if (not (may_rest p)) fault.DotsWithoutIdentifier s ≡ []
    rest-again s (node (ident w) u us) h = refl
    rest-again s (node k u us) h = cc

    props-quiet : (ts : Trees F C K) → props_bind ts ≡ true → props_again ts ≡ []
    props-quiet nil h = refl
    props-quiet (cons t ts) h = none-both (prop_again t) (props_again ts)
        (prop-quiet t (both_left (prop_binds t) (props_bind ts) h))
        (props-quiet ts (both_right (prop_binds t) (props_bind ts) h))

  -- ---- an expression that is a pattern

  left-quiet : (w : Way) (l : Tree F C K) (b : Bool) → (fits w l ≡ true → verdict w l ≡ clean) →
      (if b then left_fits w l else fits w l) ≡ true → (if b then recorded (left_faults w l) else verdict w l) ≡ clean
  left-quiet Binding l true f h = ap recorded (binds-quiet l h)
  left-quiet (Target strict) l true f h = refl
  left-quiet w l false f h = f h

  target-quiet : (strict : Bool) (t : Tree F C K) → is_target strict t ≡ true →
      recorded (one_if (not (is_target strict t)) fault.NotSimpleAssign (span_of t)) ≡ clean
  target-quiet strict t h = ap (λ b. recorded (one_if (not b) fault.NotSimpleAssign (span_of t))) h

  -- the last spread of an array, and of an object
  no-default : (w : Way) (d : Span) (t : Tree F C K) (b : Bool) → (fits w t ≡ true → verdict w t ≡ clean) →
      (not b && fits w t) ≡ true → goes_on (one_if b fault.TS1048 d ++ []) None (verdict w t) ≡ clean
  no-default w d t true f h = cc
  no-default w d t false f h = f h

  spread-quiet : (w : Way) (c : Option Span) (d : Span) (t : Tree F C K) → (fits w t ≡ true → verdict w t ≡ clean) →
      ((is_none c && not (is_assign t)) && fits w t) ≡ true →
      goes_on (spread_faults true c d t) None (verdict w t) ≡ clean
  spread-quiet w (Some s) d t f h = cc
  spread-quiet w None d t f h = no-default w (record { lo = d.lo; hi = (span_of t).hi }) t (is_assign t) f h

  bound-held : (s : Span) (t : Tree F C K) (v : Verdict) (a b : Bool) → is_ident t ≡ b →
      ((not a && b) && fits Binding t) ≡ true → recorded (one_if (not (is_ident t)) fault.DotsWithoutIdentifier s) ≡
      clean
  bound-held s t v a true e h = ap (λ b. recorded (one_if (not b) fault.DotsWithoutIdentifier s)) e
  bound-held s t v true false e h = cc
  bound-held s t v false false e h = cc

  plain-is : (t : Tree F C K) → is_assign t ≡ false → plain_assignment t ≡ false
  plain-is (node (assign o) s ts) h = cc
  plain-is (node k s ts) h = refl

  target-held : (strict : Bool) (s : Span) (t : Tree F C K) (a : Bool) → is_assign t ≡ a →
      (fits (Target strict) t ≡ true → verdict (Target strict) t ≡ clean) →
      ((not a && true) && fits (Target strict) t) ≡ true →
      also (verdict (Target strict) t) (recorded (one_if (plain_assignment t) fault.TS1048 s)) ≡ clean
  target-held strict s t true e f h = cc
  target-held strict s t false e f h = also-both (verdict (Target strict) t)
      (recorded (one_if (plain_assignment t) fault.TS1048 s)) (f h)
      (ap (λ b. recorded (one_if b fault.TS1048 s)) (plain-is t e))

  rest-quiet : (w : Way) (c : Option Span) (s : Span) (t : Tree F C K) → (fits w t ≡ true → verdict w t ≡ clean) →
      ((is_none c && (not (is_assign t) && rest_held w t)) && fits w t) ≡ true →
      goes_on (rest_faults true c s) None (held_verdict w s t (verdict w t)) ≡ clean
  rest-quiet w (Some z) s t f h = cc
  rest-quiet Binding None s t f h = bound-held s t clean (is_assign t) (is_ident t) refl h
  rest-quiet (Target strict) None s t f h = target-held strict s t (is_assign t) refl f h

  mutual
    pub fits-quiet : (w : Way) (t : Tree F C K) → fits w t ≡ true → verdict w t ≡ clean
    fits-quiet Binding (node (ident n) s ts) h = refl
    fits-quiet (Target strict) (node (ident n) s ts) h = target-quiet strict (node (ident n) s ts) h
    fits-quiet (Target strict) (node member s ts) h = target-quiet strict (node member s ts) h
    fits-quiet (Target strict) (node super_prop s ts) h = refl
    fits-quiet (Target strict) (node paren s ts) h = target-quiet strict (node paren s ts) h
    fits-quiet Binding (node (array_with c) s ts) h = elems-quiet Binding c ts h
    fits-quiet (Target strict) (node (array_with c) s ts) h = elems-quiet (Target strict) c ts h
    fits-quiet Binding (node (object_with c) s ts) h = objs-quiet Binding c ts h
    fits-quiet (Target strict) (node (object_with c) s ts) h = objs-quiet (Target strict) c ts h
    fits-quiet Binding (node (assign op.Assign) s (cons l (cons r nil))) h = left-quiet Binding l (is_pattern l)
        (fits-quiet Binding l) h
    fits-quiet (Target strict) (node (assign op.Assign) s (cons l (cons r nil))) h = left-quiet (Target strict) l
        (is_pattern l) (fits-quiet (Target strict) l) h
    fits-quiet w t h = cc

    elems-quiet : (w : Way) (c : Option Span) (ts : Trees F C K) → elems_fit w c ts ≡ true →
        elems_verdict w c ts ≡ clean
    elems-quiet w c nil h = refl
    elems-quiet w c (cons (node hole s nil) es) h = elems-quiet w c es h
    elems-quiet w c (cons (node item s (cons t nil)) es) h =
        also-both (verdict w t) (elems_verdict w c es) (fits-quiet w t (both_left (fits w t) (elems_fit w c es) h))
        (elems-quiet w c es (both_right (fits w t) (elems_fit w c es) h))
    elems-quiet w c (cons (node spread s (cons (node k d us) (cons t nil))) nil) h = also-both
        (goes_on (spread_faults true c d t) None (verdict w t)) clean (spread-quiet w c d t (fits-quiet w t) h) refl
    elems-quiet w c (cons (node spread s (cons (node k d us) (cons t nil))) (cons e es)) h = cc
    elems-quiet w c ts h = cc

    objs-quiet : (w : Way) (c : Option Span) (ts : Trees F C K) → props_fit w c ts ≡ true → props_verdict w c ts ≡ clean
    objs-quiet w c nil h = refl
    objs-quiet w c (cons (node shorthand s (cons i nil)) es) h = objs-quiet w c es h
    objs-quiet w c (cons (node cover s (cons i (cons e nil))) es) h = objs-quiet w c es h
    objs-quiet w c (cons (node key_value s (cons k (cons v nil))) es) h =
        also-both (verdict w v) (props_verdict w c es) (fits-quiet w v (both_left (fits w v) (props_fit w c es) h))
        (objs-quiet w c es (both_right (fits w v) (props_fit w c es) h))
    objs-quiet w c (cons (node spread s (cons d (cons t nil))) nil) h = also-both
        (goes_on (rest_faults true c s) None (held_verdict w s t (verdict w t))) clean
        (rest-quiet w c s t (fits-quiet w t) h) refl
    objs-quiet w c (cons (node spread s (cons d (cons t nil))) (cons e es)) h = cc
    objs-quiet w c ts h = cc

  -- ---- where nothing is recorded, and no part is `Invalid`, it is a pattern

  mutual
    again-binds : (p : Tree F C K) → is_valid p ≡ true → again p ≡ [] → binds p ≡ true
    again-binds (node (ident w) s ts) v h = refl
    again-binds (node invalid s ts) v h = cc
    again-binds (node hole s ts) v h = refl
    again-binds (node (array_with None) s ts) v h = all-binds ts v h
    again-binds (node (object_with None) s ts) v h = props-binds ts v h
    again-binds (node default s (cons l (cons r nil))) v h = again-binds l
        (both_left (is_valid l) (are_valid (cons r nil)) v) h
    again-binds (node rest s (cons d (cons p nil))) v h = again-binds p
        (both_left (is_valid p) true (both_right (is_valid d) (are_valid (cons p nil)) v)) h
    again-binds (node k s ts) v h = cc

    all-binds : (ts : Trees F C K) → are_valid ts ≡ true → all_again ts ≡ [] → all_bind ts ≡ true
    all-binds nil v h = refl
    all-binds (cons t ts) v h =
        both-are (binds t) (all_bind ts) (again-binds t (both_left (is_valid t) (are_valid ts) v)
        (none-left (again t) (all_again ts) h))
        (all-binds ts (both_right (is_valid t) (are_valid ts) v) (none-right (again t) (all_again ts) h))

    prop-binds : (t : Tree F C K) → is_valid t ≡ true → prop_again t ≡ [] → prop_binds t ≡ true
    prop-binds (node key_value s (cons k (cons x nil))) v h = again-binds x
        (both_left (is_valid x) true (both_right (is_valid k) (are_valid (cons x nil)) v)) h
    prop-binds (node binding_prop s ts) v h = refl
    prop-binds (node rest s (cons d (cons p nil))) v h = rest-binds s p
        (both_left (is_valid p) true (both_right (is_valid d) (are_valid (cons p nil)) v)) h
    prop-binds (node k s ts) v h = cc

    rest-binds : (s : Span) (p : Tree F C K) → is_valid p ≡ true →
        one_if (not (may_rest p)) fault.DotsWithoutIdentifier s ≡ [] → is_ident p ≡ true
    rest-binds s (node (ident w) u us) v h = refl
    rest-binds s (node invalid u us) v h = cc
    rest-binds s (node k u us) v h = cc

    props-binds : (ts : Trees F C K) → are_valid ts ≡ true → props_again ts ≡ [] → props_bind ts ≡ true
    props-binds nil v h = refl
    props-binds (cons t ts) v h =
        both-are (prop_binds t) (props_bind ts) (prop-binds t (both_left (is_valid t) (are_valid ts) v)
        (none-left (prop_again t) (props_again ts) h))
        (props-binds ts (both_right (is_valid t) (are_valid ts) v) (none-right (prop_again t) (props_again ts) h))

  -- the last spread
  spread-fits : (w : Way) (c : Option Span) (d : Span) (t : Tree F C K) → spread_faults true c d t ≡ [] →
      fits w t ≡ true → ((is_none c && not (is_assign t)) && fits w t) ≡ true
  spread-fits w c d t e f =
      let z : Span = record { lo = d.lo; hi = (span_of t).hi } in
      let a = is-false (is_assign t) z (none-left (one_if (is_assign t) fault.TS1048 z) (comma_faults c) e) in
      let b = no-comma c (none-right (one_if (is_assign t) fault.TS1048 z) (comma_faults c) e) in
      rw (a, b, f) refl

  bound-rest : (s : Span) (t : Tree F C K) → one_if (not (is_ident t)) fault.DotsWithoutIdentifier s ≡ [] →
      ((not (is_assign t) && is_ident t) && fits Binding t) ≡ true
  bound-rest s (node (ident w) u us) e = refl
  bound-rest s (node k u us) e = cc

  left-fits : (w : Way) (l : Tree F C K) (b : Bool) → is_valid l ≡ true →
      (is_valid l ≡ true → verdict w l ≡ clean → fits w l ≡ true) →
      (if b then recorded (left_faults w l) else verdict w l) ≡ clean → (if b then left_fits w l else fits w l) ≡ true
  left-fits Binding l true v f h = again-binds l v (faults-none (recorded (again l)) h)
  left-fits (Target strict) l true v f h = refl
  left-fits w l false v f h = f v h

  own-none : (w : Way) (t : Tree F C K) → recorded (own_faults w t) ≡ clean → own_faults w t ≡ []
  own-none w t e = ap (λ v. v.faults) e

  target-held-fits : (strict : Bool) (s : Span) (t : Tree F C K) →
      also (verdict (Target strict) t) (recorded (one_if (plain_assignment t) fault.TS1048 s)) ≡ clean →
      plain_assignment t ≡ false
  target-held-fits strict s t e = is-false (plain_assignment t) s
      (faults-none (recorded (one_if (plain_assignment t) fault.TS1048 s))
      (also-second (verdict (Target strict) t) (recorded (one_if (plain_assignment t) fault.TS1048 s)) e))

  -- what fits and is an assignment is one by `=`
  fits-plain : (w : Way) (t : Tree F C K) → fits w t ≡ true → plain_assignment t ≡ false → is_assign t ≡ false
  fits-plain w (node (assign op.Assign) s ts) f p = cc
  fits-plain w (node (assign o) s ts) f p = cc
  fits-plain w (node k s ts) f p = refl

  spread-all : (w : Way) (c : Option Span) (t : Tree F C K) (a b : Bool) → is_none c ≡ true → is_assign t ≡ false →
      b ≡ true → fits w t ≡ true → ((is_none c && (not (is_assign t) && b)) && fits w t) ≡ true
  spread-all w c t a b e f g h = rw (e, f, g, h) refl

  quiet-rest : (w : Way) (c : Option Span) (s : Span) (t : Tree F C K) → is_valid t ≡ true →
      (is_valid t ≡ true → verdict w t ≡ clean → fits w t ≡ true) →
      goes_on (rest_faults true c s) None (held_verdict w s t (verdict w t)) ≡ clean →
      ((is_none c && (not (is_assign t) && rest_held w t)) && fits w t) ≡ true
  quiet-rest Binding c s t v own h =
      let a = no-comma c (goes-left (rest_faults true c s) (held_verdict Binding s t (verdict Binding t)) h) in
      let e = faults-none (held_verdict Binding s t (verdict Binding t))
      (goes-right (rest_faults true c s) (held_verdict Binding s t (verdict Binding t)) h) in
      rw a (bound-rest s t e)
  quiet-rest (Target strict) c s t v own h =
      let a = no-comma c (goes-left (rest_faults true c s) (held_verdict (Target strict) s t
      (verdict (Target strict) t)) h) in
      let g = goes-right (rest_faults true c s) (held_verdict (Target strict) s t (verdict (Target strict) t)) h in
      let f = own v (also-first (verdict (Target strict) t) (recorded (one_if (plain_assignment t) fault.TS1048 s)) g)
      in
      let p = fits-plain (Target strict) t f (target-held-fits strict s t g) in
      spread-all (Target strict) c t true true a p refl f

  mutual
    pub quiet-fits : (w : Way) (t : Tree F C K) → is_valid t ≡ true → verdict w t ≡ clean → fits w t ≡ true
    quiet-fits w (node invalid s ts) v h = cc
    quiet-fits Binding (node (ident n) s ts) v h = refl
    quiet-fits (Target strict) (node (ident n) s ts) v h = is-true (is_target strict (node (ident n) s ts)) s
        (own-none (Target strict) (node (ident n) s ts) h)
    quiet-fits (Target strict) (node member s ts) v h = is-true (is_target strict (node member s ts)) s
        (own-none (Target strict) (node member s ts) h)
    quiet-fits (Target strict) (node super_prop s ts) v h = refl
    quiet-fits (Target strict) (node paren s ts) v h = is-true (is_target strict (node paren s ts)) s
        (own-none (Target strict) (node paren s ts) h)
    quiet-fits Binding (node (array_with c) s ts) v h = quiet-elems Binding c ts v h
    quiet-fits (Target strict) (node (array_with c) s ts) v h = quiet-elems (Target strict) c ts v h
    quiet-fits Binding (node (object_with c) s ts) v h = quiet-props Binding c ts v h
    quiet-fits (Target strict) (node (object_with c) s ts) v h = quiet-props (Target strict) c ts v h
    quiet-fits Binding (node (assign op.Assign) s (cons l (cons r nil))) v h = left-fits Binding l (is_pattern l)
        (both_left (is_valid l) (are_valid (cons r nil)) v) (quiet-fits Binding l) h
    quiet-fits (Target strict) (node (assign op.Assign) s (cons l (cons r nil))) v h = left-fits (Target strict) l
        (is_pattern l) (both_left (is_valid l) (are_valid (cons r nil)) v) (quiet-fits (Target strict) l) h
    quiet-fits Binding (node k s ts) v h = let e = own-none Binding (node k s ts) h in cc
    quiet-fits (Target strict) (node k s ts) v h = let e = own-none (Target strict) (node k s ts) h in cc

    quiet-elems : (w : Way) (c : Option Span) (ts : Trees F C K) → are_valid ts ≡ true → elems_verdict w c ts ≡ clean →
        elems_fit w c ts ≡ true
    quiet-elems w c nil v h = refl
    quiet-elems w c (cons (node hole s nil) es) v h = quiet-elems w c es v h
    quiet-elems w c (cons (node item s (cons t nil)) es) v h =
        both-are (fits w t) (elems_fit w c es)
        (quiet-fits w t (both_left (is_valid t) true (both_left (is_valid t && true) (are_valid es) v))
        (also-first (verdict w t) (elems_verdict w c es) h))
        (quiet-elems w c es (both_right (is_valid t && true) (are_valid es) v)
        (also-second (verdict w t) (elems_verdict w c es) h))
    quiet-elems w c (cons (node spread s (cons (node k d us) (cons t nil))) nil) v h =
        let g = also-first (goes_on (spread_faults true c d t) None (verdict w t)) clean h in
        let ok = both_left (is_valid t) true (both_right (is_valid (node k d us)) (is_valid t && true)
        (both_left (is_valid (node k d us) && (is_valid t && true)) true v)) in
        spread-fits w c d t (goes-left (spread_faults true c d t) (verdict w t) g)
        (quiet-fits w t ok (goes-right (spread_faults true c d t) (verdict w t) g))
    quiet-elems w c (cons (node spread s (cons (node k d us) (cons t nil))) (cons e es)) v h =
        let g = goes-left (spread_faults false c d t) clean (also-first
        (goes_on (spread_faults false c d t) None clean) (elems_verdict w c (cons e es)) h) in cc
    quiet-elems w c (cons (node k s ts) es) v h = absurd (never s (elems_verdict w c es) h)

    quiet-props : (w : Way) (c : Option Span) (ts : Trees F C K) → are_valid ts ≡ true → props_verdict w c ts ≡ clean →
        props_fit w c ts ≡ true
    quiet-props w c nil v h = refl
    quiet-props w c (cons (node shorthand s (cons i nil)) es) v h = quiet-props w c es
        (both_right (is_valid i && true) (are_valid es) v) h
    quiet-props w c (cons (node cover s (cons i (cons e nil))) es) v h = quiet-props w c es
        (both_right (is_valid i && (is_valid e && true)) (are_valid es) v) h
    quiet-props w c (cons (node key_value s (cons k (cons x nil))) es) v h =
        both-are (fits w x) (props_fit w c es)
        (quiet-fits w x (both_left (is_valid x) true (both_right (is_valid k) (is_valid x && true)
        (both_left (is_valid k && (is_valid x && true)) (are_valid es) v)))
        (also-first (verdict w x) (props_verdict w c es) h))
        (quiet-props w c es (both_right (is_valid k && (is_valid x && true)) (are_valid es) v)
        (also-second (verdict w x) (props_verdict w c es) h))
    quiet-props w c (cons (node spread s (cons d (cons t nil))) nil) v h =
        quiet-rest w c s t (both_left (is_valid t) true (both_right (is_valid d) (is_valid t && true)
        (both_left (is_valid d && (is_valid t && true)) true v))) (quiet-fits w t)
        (also-first (goes_on (rest_faults true c s) None (held_verdict w s t (verdict w t))) clean h)
    quiet-props w c (cons (node spread s (cons d (cons t nil))) (cons e es)) v h =
        let g = goes-left (rest_faults false c s) (held_verdict w s t (verdict w t))
        (also-first (goes_on (rest_faults false c s) None (held_verdict w s t (verdict w t)))
        (props_verdict w c (cons e es)) h) in cc
    quiet-props w c (cons (node k s ts) es) v h = absurd (never s (props_verdict w c es) h)

module _ {F C K : Type 0} where
  -- ---- items

  pub params-quiet : (c : Option Span) (ts : Trees F C K) → elems_fit Binding c ts ≡ true → params_verdict c ts ≡ clean
  params-quiet c nil h = refl
  params-quiet c (cons (node hole s nil) es) h = params-quiet c es h
  params-quiet c (cons (node item s (cons t nil)) es) h =
      also-both (verdict Binding t) (params_verdict c es) (fits-quiet Binding t
      (both_left (fits Binding t) (elems_fit Binding c es) h))
      (params-quiet c es (both_right (fits Binding t) (elems_fit Binding c es) h))
  params-quiet c (cons (node spread s (cons (node k d us) (cons t nil))) nil) h = also-both
      (goes_on (spread_faults true c d t) None (verdict Binding t)) clean
      (spread-quiet Binding c d t (fits-quiet Binding t) h) refl
  params-quiet c (cons (node spread s (cons (node k d us) (cons t nil))) (cons e es)) h = cc
  params-quiet c ts h = cc

  pub quiet-params : (c : Option Span) (ts : Trees F C K) → are_valid ts ≡ true → params_verdict c ts ≡ clean →
      elems_fit Binding c ts ≡ true
  quiet-params c nil v h = refl
  quiet-params c (cons (node hole s nil) es) v h = quiet-params c es v h
  quiet-params c (cons (node item s (cons t nil)) es) v h =
      both-are (fits Binding t) (elems_fit Binding c es)
      (quiet-fits Binding t (both_left (is_valid t) true (both_left (is_valid t && true) (are_valid es) v))
      (also-first (verdict Binding t) (params_verdict c es) h))
      (quiet-params c es (both_right (is_valid t && true) (are_valid es) v)
      (also-second (verdict Binding t) (params_verdict c es) h))
  quiet-params c (cons (node spread s (cons (node k d us) (cons t nil))) nil) v h =
      let g = also-first (goes_on (spread_faults true c d t) None (verdict Binding t)) clean h in
      let ok = both_left (is_valid t) true (both_right (is_valid (node k d us)) (is_valid t && true)
      (both_left (is_valid (node k d us) && (is_valid t && true)) true v)) in
      spread-fits Binding c d t (goes-left (spread_faults true c d t) (verdict Binding t) g)
      (quiet-fits Binding t ok (goes-right (spread_faults true c d t) (verdict Binding t) g))
  quiet-params c (cons (node spread s (cons (node k d us) (cons t nil))) (cons e es)) v h =
      let g = goes-left (param_faults false c d t) clean (also-first (goes_on (param_faults false c d t) None clean)
      (params_verdict c (cons e es)) h) in cc
  quiet-params c (cons (node k s ts) es) v h = absurd (never s (params_verdict c es) h)

-- nothing was added
pub nothing-added : (was fs : List Fault) → was ≡ was ++ fs → fs ≡ []
nothing-added [] fs e = sym e
nothing-added (f ∷ was) fs e = let g : was ≡ was ++ fs = cc in nothing-added was fs g

pub kept-clean : {was now : List Fault} {v : Verdict} {r : Option Span} → Recorded was v now r → now ≡ was → r ≡ None →
    v ≡ clean
kept-clean {was} {now} {v} {r} x e n =
    ap (λ w. record { faults = w; refused = v.refused }) (nothing-added was v.faults (sym e ∙ x.faults))
    ∙ ap (λ w. record { faults = []; refused = w }) (sym x.refused ∙ n)
