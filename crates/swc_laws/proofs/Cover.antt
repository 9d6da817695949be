-- The cover law: a list that is read as items, and is related to patterns, is read as these patterns too, but for
-- places.
use Rattle.std.specs.Prelude.{◌≡◌, ℕ, Bool, true, false, not, ◌&&◌, if◌then◌else◌, List, ◌∷◌, Option, Some, None, codes}
use Rattle.std.proofs.Common.{refl, sym, ap, subst, ◌∙◌}
use Rattle.std.proofs.lemmas.Bool.{not-true}
use Rattle.swc_context.specs.{Reserved.is_reserved_word, declared.operator.AssignOp.AssignOp, declared.operator.AssignOp.AssignOp as write, declared.span.Span.Span}
use Rattle.swc_input.specs.declared.token.TokenAndSpan.{TokenAndSpan}
use Rattle.swc_ast.specs.Targets.{is_target as is_simple_target}
use Rattle.swc_ast.specs.Tree.{Tree, node, Trees, nil, cons, span_of, erase, erase_all, no_span, array, object, default, dots, key_value, spread}
use Rattle.swc_ast.specs.Trees.{to, items_of, comma_of, hole_e, is_ident, prop_of, ident_e, listed, spread_e, assign_e, put_first, cover_e, short_e, array_e, object_e, key_value_e, member_e, name_e, private_e, computed_e, call_e}
use Rattle.swc_ast.specs.Patterns.{array_p, object_p, default_p, rest_p, name_p, put_element, holds_ident}
use Rattle.swc_bodies.specs.Readings.{Hook, is_brace}
use Rattle.swc_grammar.specs.Scope.{Scope, at_head, inner}
use Rattle.swc_grammar.specs.Rule.{Rule, gives, take, check, peek, peek_two, read, given, ◌>>=◌}
use Rattle.swc_grammar.specs.Names.{Spelling}
use Rattle.swc_grammar.specs.Symbols.{Symbol, Assign, Level, Unary, Lhs, Left, Base, Args, ArgsTail, Primary, Literal, Template, Elements, ElementsTail, Item, Props, PropsTail, Prop, AfterKey, Shell, Key, Answer, Pat, Element, Rest, PatElements, PatElementsTail, PatProps, PatPropsTail, Params, ParamsTail, Side, Body, Value}
use Rattle.swc_grammar.specs.Tokens.{with_in, is_equals, is_rbracket, is_rbrace, is_rparen, is_dots, is_lbracket, is_await, await_ident_ok, is_comma}
use Rattle.swc_grammar.specs.Parts.{reference, binding as binding_name, any_name, lit_of, regex_of, prefix_here, update_here, operator_here, assign_here}
use Rattle.swc_grammar.specs.Patterns.{binds_names, all_bind_names, props_bind_names, prop_binds_names}
use Rattle.swc_grammar.specs.Cover.{Role, target, as_pat, as_elements, as_props, as_prop, takes_name, as_literal, is_pattern, is_assign, is_plain_assign, is_rest_of, stays}
use Rattle.swc_grammar.specs.Reads.{Reads, by, gave, took, held, part}
use Rattle.swc_grammar.specs.Grammar.{Production, ident-expr, lit, paren-expr, unary-left, unary-op, exp-unary, base-primary, super-name, super-computed, super-call, import-meta, import-call, import-source, left-base, member-name, member-private, member-computed, call, args-end, args-more, args-tail-end, args-tail-more, lhs-left, new-bare, left-new, new-target, chain-name, chain-private, chain-computed, chain-call, tagged-tpl, primary-template, template, regex-alone, regex-slash, exp-op, primary-literal, this-expr, array-lit, elements-end, elements-hole, elements-more, tail-end, tail-more, item-expr, item-spread, fn-expr, class-expr, object-lit, props-end, props-more, props-tail-end, props-tail-more, prop-spread, prop-short, prop-cover, prop-key, prop-generator, prop-async, prop-async-generator, prop-getter, prop-setter, after-value, after-shell, shell-block, key-name, key-literal, key-computed, level-up, bin-op, private-expr, private-in, assign-level, update-postfix, update-prefix, await-expr, await-ident, cond-expr, assign-expr, yield-alone, yield-expr, yield-star, assign-pattern, pat-bind, pat-array, pat-object, element-default, pat-elements-end, pat-elements-hole, pat-elements-more, pat-elements-rest, pat-tail-end, pat-tail-more, pat-props-end, pat-props-more, pat-props-rest, pat-props-tail-end, pat-props-tail-more, pat-prop-key, pat-prop-short, pat-prop-default, async-ident, async-call, arrow-async-name, arrow-async-params, arrow-name, arrow-params, params-end, params-more, params-rest, params-tail-end, params-tail-more}
use Rattle.swc_grammar.specs.Arrows.{arrow_name, async_name, async_param}
use Rattle.swc_grammar.proofs.Answers.{only, inj, both}
use Rattle.swc_grammar.proofs.Related.{bind-some, literal-is}
use Rattle.swc_grammar.proofs.Induct.{Ran, ran-gave, ran-took, ran-held, ran-calm, ran-calm-two, ran-part, forget, given-ran, Gives, gives-given, gives-side, follows-given}
use Rattle.swc_laws.specs.Bound.{may_be_bound, Spelled, is_spelled}
use Rattle.swc_laws.proofs.Bindable.{bound-name, bound-async, bound-await, name-in, reserved-in}
use Rattle.swc_laws.proofs.Closed.{is_open, unbound, link-closed, lit-closed, regex-closed}
use Rattle.swc_laws.proofs.Covered.{joined, target-no-pattern, put-same, put-bound, holds-erased, elements-behind, props-behind, never-last, rest-no-assign, plain-equals, Covers, CoversAll, alone, with-default, Part, plain, dotted, PropPart, plain-prop, dotted-prop, Closes, bound, PatLaw, AssignLaw, ItemLaw, ListLaw, PropLaw, PropsLaw, After, valued, method, Law, element-of, pattern-of, rest-of, elements-law, props-law}
use Rattle.swc_laws.proofs.Within.{every-within}

none-some : {A : Type 0} {o : Option A} {a : A} → o ≡ None → o ≡ Some a → ⊥
none-some h g = cc

module _ {F C K : Type 0} (hook : Hook F C K) where
  -- a key is the same, whether `in` is an operator or not
  key-in : (c : Scope) {xs ys : List TokenAndSpan} {k : Tree F C K} → Reads hook Key (with_in c) xs ys k
      → Reads hook Key c xs ys k
  key-in c (by key-name (took {a = a} d)) = by key-name (took d)
  key-in c (by key-literal d) = by key-literal d
  key-in c (by key-computed d) = by key-computed d

  -- what makes no pattern
  closed : {s : Symbol} {r : Side F C K s} (d : Scope) {xs ys : List TokenAndSpan} {t : Tree F C K}
      → Ran hook (Law hook) s r xs ys t → Gives (λ v. is_open v ≡ false) r → PatLaw hook d xs ys t
  closed d {t = t} w g =
      λ m c e p h b. absurd (unbound m (bound hook c) t p (gives-side _ (forget hook (Law hook) w) g) h b)

  closed-assign : {s : Symbol} {r : Side F C K s} {d : Scope} {xs ys : List TokenAndSpan} {t : Tree F C K}
      → Ran hook (Law hook) s r xs ys t → Gives (λ v. is_open v ≡ false) r → AssignLaw hook d xs ys t
  closed-assign {t = t} w g =
      λ m c e p h b. absurd (unbound m (bound hook c) t p (gives-side _ (forget hook (Law hook) w) g) h b)

  quiet : {A : Type 0} (o : Option A) (k : A → Rule Symbol (Answer F C K) Body (Value F C K) (Tree F C K))
      → ((x : A) → o ≡ Some x → Gives (λ v. is_open v ≡ false) (k x)) → Gives (λ v. is_open v ≡ false) (given o >>= k)
  quiet o k f = gives-given (λ v. is_open v ≡ false) o k f

  -- names
  bind-read : (c : Scope) (a : TokenAndSpan) (n : Spelling) (ys : List TokenAndSpan)
      → binding_name c a.token a.span ≡ Some n → Reads hook Pat c (a ∷ ys) ys (ident_e n.at n.text)
  bind-read c a n ys h = by pat-bind (took (follows-given (binding_name c a.token a.span) _ n h gave))

  name-covers : (m : Role) (c : Scope) (a : TokenAndSpan) (n : Spelling) (ys : List TokenAndSpan) (p : Tree F C K)
      → (may_be_bound c.context n.text ≡ true → binding_name c a.token a.span ≡ Some n)
      → as_pat m (ident_e {F = F} {C = C} {K = K} n.at n.text) ≡ Some p
      → binds_names (bound hook c) p ≡ true → Covers hook Pat c (a ∷ ys) ys p
  name-covers m c a n ys p ok h b =
      let (x, h1) = only (takes_name m n.text) h in
      let e : ident_e n.at n.text ≡ p = inj (ident_e n.at n.text) p h1 in
      let y : may_be_bound c.context n.text ≡ true = subst (λ v. binds_names (bound hook c) v ≡ true) (sym e) b in
      record { tree = ident_e n.at n.text; read = bind-read c a n ys (ok y); same = ap erase (sym e) }

  ident-law : (d : Scope) (a : TokenAndSpan) {xs ys : List TokenAndSpan} {t : Tree F C K} (n : Spelling)
      → reference d a.token a.span ≡ Some n → is_spelled a.token ≡ true
      → Ran hook (Law hook) Primary (gives (ident_e n.at n.text)) xs ys t → PatLaw hook d (a ∷ xs) ys t
  ident-law d a n h z (ran-gave {ys = ys}) = λ m c e p h1 b.
      name-covers m c a n ys p
      (λ y. bound-name c a.token a.span n (subst (λ v. reference v a.token a.span ≡ Some n) e h) y z) h1 b

  async-law : (d : Scope) (a : TokenAndSpan) {p : TokenAndSpan → Bool} {q : TokenAndSpan → TokenAndSpan → Bool}
      {xs ys : List TokenAndSpan} {t : Tree F C K} (n : Spelling) → async_name d a.token a.span ≡ Some n
      → is_spelled a.token ≡ true
      → Ran hook (Law hook) Primary (peek p (peek_two q (gives (ident_e n.at n.text)))) xs ys t
      → PatLaw hook d (a ∷ xs) ys t
  async-law d a n h z (ran-calm o (ran-calm-two k (ran-gave {ys = ys}))) = λ m c e p h1 b.
      name-covers m c a n ys p
      (λ y. bound-async c a.token a.span n (subst (λ v. async_name v a.token a.span ≡ Some n) e h) y z) h1 b

  await-law : (d : Scope) (a : TokenAndSpan) (ys : List TokenAndSpan) → is_await a.token ≡ true
      → await_ident_ok d.context ≡ true → PatLaw hook d (a ∷ ys) ys (ident_e a.span (codes "await"))
  await-law d a ys h k = λ m c e p h1 b.
      name-covers m c a (record { text = codes "await"; at = a.span }) ys p
      (λ y. bound-await c a.token a.span h (subst (λ v. await_ident_ok v.context ≡ true) e k) y) h1 b

  -- arrays and objects
  array-law : (d : Scope) (a : TokenAndSpan) (ms ys : List TokenAndSpan) (es : Tree F C K)
      → is_lbracket a.token ≡ true → ListLaw hook PatElements (with_in d) ms ys es
      → PatLaw hook d (a ∷ ms) ys (array_e (comma_of es) (to a.span (span_of es)) (items_of es))
  array-law d a ms ys es h k = λ m c e p h1 b.
      let s = to a.span (span_of es) in
      let (ps, h2, h3) = bind-some (as_elements m (comma_of es) (items_of es)) _ h1 in
      let x : array_p s ps ≡ p = inj (array_p s ps) p h3 in
      let y : all_bind_names (bound hook c) ps ≡ true = subst (λ v. binds_names (bound hook c) v ≡ true) (sym x) b in
      let v = k m c (ap with_in e) ps h2 y in
      record {
        tree = array_p (to a.span (span_of v.tree)) (items_of v.tree);
        read = by pat-array (took (held h (part v.read gave)));
        same = ap erase (sym x) ∙ ap (λ w. node array no_span w) v.same;
      }

  object-law : (d : Scope) (a : TokenAndSpan) (ms ys : List TokenAndSpan) (es : Tree F C K)
      → is_brace a.token ≡ true → PropsLaw hook PatProps (inner d) ms ys es
      → PatLaw hook d (a ∷ ms) ys (object_e (comma_of es) (to a.span (span_of es)) (items_of es))
  object-law d a ms ys es h k = λ m c e p h1 b.
      let s = to a.span (span_of es) in
      let (ps, h2, h3) = bind-some (as_props m (comma_of es) (items_of es)) _ h1 in
      let x : object_p s ps ≡ p = inj (object_p s ps) p h3 in
      let y : props_bind_names (bound hook c) ps ≡ true = subst (λ v. binds_names (bound hook c) v ≡ true) (sym x) b in
      let v = k m c e ps h2 y in
      record {
        tree = object_p (to a.span (span_of v.tree)) (items_of v.tree);
        read = by pat-object (took (held h (part v.read gave)));
        same = ap erase (sym x) ∙ ap (λ w. node object no_span w) v.same;
      }

  -- an assignment, whose left side is a pattern q
  default-law : (d c : Scope) (s : Span) (a : TokenAndSpan) (xs us ys : List TokenAndSpan) (q r p : Tree F C K)
      → d ≡ with_in c → is_equals a.token ≡ true → Covers hook Pat c xs (a ∷ us) q → Reads hook Assign d us ys r
      → default_p s q r ≡ p → Covers hook Element c xs ys p
  default-law d c s a xs us ys q r p e h v dr x = record {
    tree = default_p (to (span_of v.tree) (span_of r)) v.tree r;
    read = by element-default (part v.read (took (held h (part (subst (λ w. Reads hook Assign w us ys r) e dr) gave))));
    same = ap erase (sym x) ∙ ap (λ w. node default no_span (cons w (cons (erase r) nil))) v.same;
  }

  assign-law : (d : Scope) (l : Tree F C K) (op : AssignOp) (a : TokenAndSpan) {xs us ys : List TokenAndSpan}
      {t : Tree F C K} → PatLaw hook (at_head d) xs (a ∷ us) l → assign_here a.token a.span ≡ Some op
      → Ran hook (Law hook) Assign (check (is_simple_target d.context.strict l) (read Assign d (λ r.
      gives (assign_e (to (span_of l) (span_of r)) op l r)))) us ys t → AssignLaw hook d xs ys t
  assign-law d l op a {xs = xs} {us = us} {ys = ys} k h (ran-held g (ran-part {e = r} dr kr ran-gave)) = λ m c e p h1 b.
      let s = to (span_of l) (span_of r) in
      let (f, h2) = only (is_plain_assign op) h1 in
      let (q, h3, h4) = bind-some (if is_pattern l then (if stays m l then Some l else None) else as_pat m l) _ h2 in
      let n = target-no-pattern d.context.strict l g in
      let h5 : as_pat m l ≡ Some q =
      subst (λ v. (if v then (if stays m l then Some l else None) else as_pat m l) ≡ Some q) n h3 in
      let x : default_p s q r ≡ p = inj (default_p s q r) p h4 in
      let y : binds_names (bound hook c) q ≡ true = subst (λ v. binds_names (bound hook c) v ≡ true) (sym x) b in
      let z = plain-equals a.token op h f in
      with-default refl (default-law d c s a xs us ys q r p e z (k m c (ap inner e) q h5 y) dr x)

  pattern-law : (d : Scope) (l p0 : Tree F C K) (a : TokenAndSpan) {xs us ys : List TokenAndSpan} {t : Tree F C K}
      → PatLaw hook (at_head d) xs (a ∷ us) l → is_equals a.token ≡ true → as_literal d.context.strict l ≡ Some p0
      → Ran hook (Law hook) Assign (read Assign d (λ r.
      gives (assign_e (to (span_of l) (span_of r)) write.Assign p0 r))) us ys t → AssignLaw hook d xs ys t
  pattern-law d l p0 a {xs = xs} {us = us} {ys = ys} k h g (ran-part {e = r} dr kr ran-gave) = λ m c e p h1 b.
      let s = to (span_of l) (span_of r) in
      let (q, h3, h4) =
      bind-some (if is_pattern p0 then (if stays m p0 then Some p0 else None) else as_pat m p0) _ h1 in
      let (g1, n) = literal-is d.context.strict l p0 g in
      let h5 : (if stays m p0 then Some p0 else None) ≡ Some q =
      subst (λ v. (if v then (if stays m p0 then Some p0 else None) else as_pat m p0) ≡ Some q) n h3 in
      let z : p0 ≡ q = inj p0 q (only (stays m p0) h5).1 in
      let x : default_p s q r ≡ p = inj (default_p s q r) p h4 in
      let y : binds_names (bound hook c) q ≡ true = subst (λ v. binds_names (bound hook c) v ≡ true) (sym x) b in
      let g2 : as_pat (target d.context.strict) l ≡ Some q = g1 ∙ ap (λ v. Some v) z in
      let v = k (target d.context.strict) c (ap inner e) q g2 y in
      with-default refl (default-law d c s a xs us ys q r p e h v dr x)

  -- properties
  spread-law : (d : Scope) (a : TokenAndSpan) (s : Span) (ms ys : List TokenAndSpan) (e : Tree F C K)
      → is_dots a.token ≡ true → AssignLaw hook (with_in d) ms ys e
      → PropLaw hook d (a ∷ ms) ys (node spread s (cons (node dots a.span nil) (cons e nil)))
  spread-law d a s ms ys e h k = λ m c pe is_end p h1 b.
      let (f, h2) = only (is_end && is_rest_of m e) h1 in
      let (g, i) = both is_end (is_rest_of m e) f in
      let (q, h3, h4) = bind-some (as_pat m e) _ h2 in
      let x : rest_p s (node dots a.span nil) q ≡ p = inj (rest_p s (node dots a.span nil) q) p h4 in
      let y : prop_binds_names (bound hook c) (rest_p s (node dots a.span nil) q) ≡ true =
      subst (λ v. prop_binds_names (bound hook c) v ≡ true) (sym x) b in
      let (z, w) = both (is_ident q) (binds_names (bound hook c) q) y in
      let v = pattern-of hook (rest-no-assign m e i) (k m c (ap with_in pe) q h3 w) in
      subst (λ u. PropPart hook c (a ∷ ms) ys is_end u) x (dotted-prop g z (rest-of hook s h v))

  short-law : (d : Scope) (a : TokenAndSpan) {xs ys : List TokenAndSpan} {t : Tree F C K} (n : Spelling)
      → any_name d a.token a.span ≡ Some n
      → Ran hook (Law hook) Prop (check (not (is_reserved_word d.context n.text)) (gives (short_e n.at n.text))) xs ys t
      → PropLaw hook d (a ∷ xs) ys t
  short-law d a n h (ran-held r (ran-gave {ys = ys})) = λ m c e is_end p h1 b.
      let p0 = name_p n.at (ident_e n.at n.text) (hole_e {F = F} {C = C} {K = K}) in
      let x : p0 ≡ p = inj p0 p h1 in
      let i = name-in c a.token a.span n (subst (λ v. any_name v a.token a.span ≡ Some n) e h) in
      let j : not (is_reserved_word c.context n.text) ≡ true =
      ap not (sym (reserved-in c.context n.text)) ∙ subst (λ v. not (is_reserved_word v.context n.text) ≡ true) e r in
      plain-prop (record {
        tree = p0;
        read = by pat-prop-short (took (follows-given (any_name c a.token a.span) _ n i (held j gave)));
        same = ap erase (sym x);
      })

  cover-law : (d : Scope) (a : TokenAndSpan) {xs ys : List TokenAndSpan} {t : Tree F C K} (n : Spelling)
      → any_name d a.token a.span ≡ Some n → Ran hook (Law hook) Prop (check (not (is_reserved_word d.context n.text)) (
      take (λ b. check (is_equals b.token) (read Assign (with_in d) (λ e.
      gives (cover_e (to n.at (span_of e)) (ident_e n.at n.text) e)))))) xs ys t → PropLaw hook d (a ∷ xs) ys t
  cover-law d a {ys = ys} n h (ran-held r (ran-took {xs = us} (ran-held q (ran-part {e = f} df kf ran-gave)))) =
      λ m c e is_end p h1 b.
      let p0 = name_p (to n.at (span_of f)) (ident_e n.at n.text) f in
      let x : p0 ≡ p = inj p0 p h1 in
      let i = name-in c a.token a.span n (subst (λ v. any_name v a.token a.span ≡ Some n) e h) in
      let dr : Reads hook Assign (with_in c) us ys f = subst (λ v. Reads hook Assign v us ys f) (ap with_in e) df in
      plain-prop (record {
        tree = p0;
        read =
            by pat-prop-default (took (follows-given (any_name c a.token a.span) _ n i (took (held q (part dr gave)))));
        same = ap erase (sym x);
      })

  key-law : (d : Scope) (k : Tree F C K) {x : Tree F C K} {xs ms ys : List TokenAndSpan} → Reads hook Key d xs ms k
      → After hook d ys ms x → PropLaw hook d xs ys (prop_of k x)
  key-law d k {xs = xs} dk (valued {a = a} {ms = us} {e = f} h law) = λ m c e is_end p h1 b.
      let s = to (span_of k) (span_of f) in
      let (q, h2, h3) = bind-some (as_pat m f) _ h1 in
      let x : key_value_e s k q ≡ p = inj (key_value_e s k q) p h3 in
      let y : binds_names (bound hook c) q ≡ true = subst (λ v. prop_binds_names (bound hook c) v ≡ true) (sym x) b in
      let v = element-of hook (law m c (ap with_in e) q h2 y) in
      plain-prop (record {
        tree = key_value_e (to (span_of k) (span_of v.tree)) k v.tree;
        read = by pat-prop-key (part (key-in c (subst (λ w. Reads hook Key w xs (a ∷ us) k) e dk))
            (took (held h (part v.read gave))));
        same = ap erase (sym x) ∙ ap (λ w. node key_value no_span (cons (erase k) (cons w nil))) v.same;
      })
  key-law d k dk (method law) = λ m c e is_end p h1 b. absurd (none-some (law k m is_end) h1)

  no-prop : {r : Side F C K Prop} {d : Scope} {xs ys : List TokenAndSpan} {t : Tree F C K}
      → Ran hook (Law hook) Prop r xs ys t → Gives (λ v. (m : Role) (is_end : Bool) → as_prop m is_end v ≡ None) r
      → PropLaw hook d xs ys t
  no-prop w g = λ m c e is_end p h1 b. absurd (none-some (gives-side _ (forget hook (Law hook) w) g m is_end) h1)

  -- lists
  list-end : (c : Scope) (s : Symbol) (ps : Trees F C K) (a : TokenAndSpan) (ys : List TokenAndSpan)
      → Reads hook s c (a ∷ ys) ys (listed None a.span nil) → Some nil ≡ Some ps → CoversAll hook s c (a ∷ ys) ys ps
  list-end c s ps a ys d h =
      record { tree = listed None a.span nil; read = d; same = ap erase_all (sym (inj nil ps h)) }

  hole-law : (d : Scope) (a : TokenAndSpan) (ms ys : List TokenAndSpan) (es : Tree F C K)
      → is_comma a.token ≡ true → ListLaw hook PatElements d ms ys es
      → ListLaw hook PatElements d (a ∷ ms) ys (put_first hole_e es)
  hole-law d a ms ys es h k = λ m c e ps h1 b.
      let (qs, h2, h3) = bind-some (as_elements m (comma_of es) (items_of es)) _ h1 in
      let x : put_element true hole_e qs ≡ ps = inj (put_element true hole_e qs) ps h3 in
      let y = put-bound (bound hook c) qs (subst (λ v. all_bind_names (bound hook c) v ≡ true) (sym x) b) in
      let v = k m c e qs h2 y in
      record {
        tree = listed None (span_of v.tree) (put_element true hole_e (items_of v.tree));
        read = by pat-elements-hole (took (held h (part v.read gave)));
        same = ap erase_all (sym x) ∙ put-same qs (items_of v.tree) v.same;
      }

  -- a rest that comes last, and what closes the list
  close-elements : (c : Scope) (xs ms ys : List TokenAndSpan) (p : Tree F C K) → Covers hook Rest c xs ms p
      → Closes hook is_rbracket ms ys → CoversAll hook PatElements c xs ys (cons p nil)
  close-elements c xs ms ys p v w = record {
    tree = listed None w.0.span (cons v.tree nil);
    read = by pat-elements-rest (part (subst (λ u. Reads hook Rest c xs u v.tree) w.2 v.read) (took (held w.1 gave)));
    same = joined p v.tree nil nil v.same refl;
  }

  close-params : (c : Scope) (xs ms ys : List TokenAndSpan) (p : Tree F C K) → Covers hook Rest c xs ms p
      → Closes hook is_rparen ms ys → CoversAll hook Params c xs ys (cons p nil)
  close-params c xs ms ys p v w = record {
    tree = listed None w.0.span (cons v.tree nil);
    read = by params-rest (part (subst (λ u. Reads hook Rest c xs u v.tree) w.2 v.read) (took (held w.1 gave)));
    same = joined p v.tree nil nil v.same refl;
  }

  close-props : (c : Scope) (xs ms ys : List TokenAndSpan) (p : Tree F C K) → holds_ident p ≡ true
      → Covers hook Rest c xs ms p → Closes hook is_rbrace ms ys → CoversAll hook PatProps c xs ys (cons p nil)
  close-props c xs ms ys p i v w = record {
    tree = listed None w.0.span (cons v.tree nil);
    read = by pat-props-rest (part (subst (λ u. Reads hook Rest c xs u v.tree) w.2 v.read)
        (held (sym (holds-erased v.tree) ∙ ap holds_ident (sym v.same) ∙ holds-erased p ∙ i) (took (held w.1 gave))));
    same = joined p v.tree nil nil v.same refl;
  }

  -- an item after dots
  dots-law : (d : Scope) (a : TokenAndSpan) (ms ys : List TokenAndSpan) (e : Tree F C K) → is_dots a.token ≡ true
      → AssignLaw hook d ms ys e → ItemLaw hook d (a ∷ ms) ys (spread_e a.span e)
  dots-law d a ms ys e h k = (
    refl,
    λ m c pe is_end p h1 b.
        let (y, h2) = only (is_end && not (is_assign e)) h1 in
        let (g, i) = both is_end (not (is_assign e)) y in
        let (u, h3, h4) = bind-some (as_pat m e) _ h2 in
        let x : rest_p (span_of e) (node dots a.span nil) u ≡ p =
        inj (rest_p (span_of e) (node dots a.span nil) u) p h4 in
        let z : binds_names (bound hook c) u ≡ true = subst (λ v. binds_names (bound hook c) v ≡ true) (sym x) b in
        let v = pattern-of hook (not-true (is_assign e) i) (k m c pe u h3 z) in
        let w : Covers hook Rest c (a ∷ ms) ys (rest_p (span_of e) (node dots a.span nil) u) =
        rest-of hook {a = a} (span_of e) h v in
        subst (λ v. Part hook Element c (a ∷ ms) ys is_end v) x (dotted g w),
  )

  -- one clause per production
  step-assign : {d : Scope} {r : Side F C K Assign} {xs ys : List TokenAndSpan} {t : Tree F C K} → Production Assign d r
      → Ran hook (Law hook) Assign r xs ys t → AssignLaw hook d xs ys t
  step-assign assign-level (ran-part e k ran-gave) = λ m c q p h b. alone (k m c (ap inner q) p h b)
  step-assign {d = d} assign-expr (ran-part {e = l} e k (ran-took {a = a} w)) =
      let (op, h, g) = given-ran hook (Law hook) (assign_here a.token a.span) _ w in assign-law d l op a k h g
  step-assign {d = d} assign-pattern (ran-part {e = l} e k (ran-took {a = a} (ran-held i w))) =
      let (q, h, g) = given-ran hook (Law hook) (as_literal d.context.strict l) _ w in pattern-law d l q a k i h g
  step-assign {d = d} arrow-name w = closed-assign w (λ a. quiet (arrow_name d a.token a.span) _ (λ n h b e. refl))
  step-assign arrow-params w = closed-assign w (λ hs a e. refl)
  step-assign {d = d} arrow-async-name w = closed-assign w (λ a. quiet (async_name d a.token a.span) _ (λ s h b.
      quiet (async_param d b.token b.span) _ (λ n k g e. refl)))
  step-assign {d = d} arrow-async-params w =
      closed-assign w (λ a. quiet (async_name d a.token a.span) _ (λ s h hs b e. refl))
  step-assign cond-expr w = closed-assign w (λ t a e b u. refl)
  step-assign yield-alone w = closed-assign w (λ a. refl)
  step-assign yield-expr w = closed-assign w (λ a e. refl)
  step-assign yield-star w = closed-assign w (λ a b e. refl)

  step-level : {d : Scope} {n : ℕ} {r : Side F C K (Level n)} {xs ys : List TokenAndSpan} {t : Tree F C K}
      → Production (Level n) d r → Ran hook (Law hook) (Level n) r xs ys t → PatLaw hook d xs ys t
  step-level exp-unary (ran-part e k ran-gave) = k
  step-level (level-up b) (ran-part e k ran-gave) = k
  step-level {d = d} exp-op w = closed d w (λ l a r. refl)
  step-level {d = d} private-in w = closed d w (λ a b. quiet (any_name d b.token b.span) _ (λ n h e r. refl))
  step-level {d = d} (bin-op b) w = closed d w (λ l a. quiet (operator_here d a.token a.span) _ (λ op h r. refl))

  step-unary : {d : Scope} {r : Side F C K Unary} {xs ys : List TokenAndSpan} {t : Tree F C K} → Production Unary d r
      → Ran hook (Law hook) Unary r xs ys t → PatLaw hook d xs ys t
  step-unary unary-left (ran-calm h (ran-part e k ran-gave)) = k
  step-unary {d = d} await-ident (ran-took {a = a} (ran-held h (ran-held k (ran-calm n (ran-gave {ys = ys}))))) =
      await-law d a ys h k
  step-unary {d = d} update-postfix w = closed d w (λ l a. quiet (update_here a.token a.span) _ (λ x h. refl))
  step-unary {d = d} update-prefix w = closed d w (λ a. quiet (update_here a.token a.span) _ (λ x h e. refl))
  step-unary {d = d} await-expr w = closed d w (λ a e. refl)
  step-unary {d = d} unary-op w = closed d w (λ a. quiet (prefix_here a.token a.span) _ (λ x h e. refl))

  step-lhs : {d : Scope} {b : Bool} {r : Side F C K (Lhs b)} {xs ys : List TokenAndSpan} {t : Tree F C K}
      → Production (Lhs b) d r → Ran hook (Law hook) (Lhs b) r xs ys t → PatLaw hook d xs ys t
  step-lhs lhs-left (ran-part e k ran-gave) = k
  step-lhs {d = d} new-bare w = closed d w (λ a l. refl)

  step-left : {d : Scope} {b : Bool} {r : Side F C K (Left b)} {xs ys : List TokenAndSpan} {t : Tree F C K}
      → Production (Left b) d r → Ran hook (Law hook) (Left b) r xs ys t → PatLaw hook d xs ys t
  step-left left-base (ran-part e k ran-gave) = k
  step-left {d = d} left-new w = closed d w (λ a l b es. refl)
  step-left {d = d} member-name w =
      closed d w (λ l a b. quiet (any_name d b.token b.span) _ (λ n h.
      link-closed false l (member_e (to (span_of l) n.at) l (name_e n.at n.text)) refl))
  step-left {d = d} member-private w =
      closed d w (λ l a b c. quiet (any_name d c.token c.span) _ (λ n h.
      link-closed false l (member_e (to (span_of l) n.at) l (private_e (to b.span n.at) n.text)) refl))
  step-left {d = d} member-computed w =
      closed d w (λ l a e b.
      link-closed false l (member_e (to (span_of l) b.span) l (computed_e (to a.span b.span) e)) refl)
  step-left {d = d} call w =
      closed d w (λ l a es. link-closed false l (call_e (to (span_of l) (span_of es)) l (items_of es)) refl)
  step-left {d = d} chain-name w = closed d w (λ l a b c. quiet (any_name d c.token c.span) _ (λ n h. refl))
  step-left {d = d} chain-private w = closed d w (λ l a b c u. quiet (any_name d u.token u.span) _ (λ n h. refl))
  step-left {d = d} chain-computed w = closed d w (λ l a b c e d. refl)
  step-left {d = d} chain-call w = closed d w (λ l a b c es. refl)
  step-left {d = d} tagged-tpl w = closed d w (λ l a ps. refl)

  step-base : {d : Scope} {b : Bool} {r : Side F C K (Base b)} {xs ys : List TokenAndSpan} {t : Tree F C K}
      → Production (Base b) d r → Ran hook (Law hook) (Base b) r xs ys t → PatLaw hook d xs ys t
  step-base base-primary (ran-part e k ran-gave) = k
  step-base {d = d} new-target w = closed d w (λ a b c. refl)
  step-base {d = d} super-name w = closed d w (λ a b c. quiet (any_name d c.token c.span) _ (λ n h. refl))
  step-base {d = d} super-computed w = closed d w (λ a b e c. refl)
  step-base {d = d} super-call w = closed d w (λ a b es. refl)
  step-base {d = d} import-meta w = closed d w (λ a b c. refl)
  step-base {d = d} import-call w = closed d w (λ a b es. refl)
  step-base {d = d} import-source w = closed d w (λ a b c e es. refl)

  step-primary : {d : Scope} {r : Side F C K Primary} {xs ys : List TokenAndSpan} {t : Tree F C K}
      → Spelled xs → Production Primary d r → Ran hook (Law hook) Primary r xs ys t → PatLaw hook d xs ys t
  step-primary {d = d} sp ident-expr (ran-took {a = a} w) =
      let (n, h, g) = given-ran hook (Law hook) (reference d a.token a.span) _ w in ident-law d a n h sp.0 g
  step-primary {d = d} {ys = ys} sp array-lit (ran-took {a = a} (ran-held h (ran-part {e = es} e k ran-gave))) =
      array-law d a _ ys es h k
  step-primary {d = d} {ys = ys} sp object-lit (ran-took {a = a} (ran-held h (ran-part {e = es} e k ran-gave))) =
      object-law d a _ ys es h k
  step-primary {d = d} sp async-ident (ran-took {a = a} w) =
      let (n, h, g) = given-ran hook (Law hook) (async_name d a.token a.span) _ w in async-law d a n h sp.0 g
  step-primary {d = d} sp async-call w = closed d w (λ a. quiet (async_name d a.token a.span) _ (λ n h b es. refl))
  step-primary sp primary-literal (ran-part {e = t} e k ran-gave) =
      λ m c q p h b. absurd (unbound m (bound hook c) t p k h b)
  step-primary sp primary-template (ran-part {e = t} e k ran-gave) =
      λ m c q p h b. absurd (unbound m (bound hook c) t p k h b)
  step-primary {d = d} sp this-expr w = closed d w (λ a. refl)
  step-primary {d = d} sp regex-alone w =
      closed d w (λ a. quiet (regex_of a.token a.span) _ (λ e h. (regex-closed a.token a.span a.span e h).0))
  step-primary {d = d} sp regex-slash w =
      closed d w (λ a b. quiet (regex_of b.token b.span) _ (λ e h. (regex-closed b.token b.span _ e h).1))
  step-primary {d = d} sp fn-expr w = closed d w (λ v s. refl)
  step-primary {d = d} sp class-expr w = closed d w (λ v s. refl)
  step-primary {d = d} sp paren-expr w = closed d w (λ a es. refl)
  step-primary {d = d} sp private-expr w = closed d w (λ a b. quiet (any_name d b.token b.span) _ (λ n h. refl))

  step-prop : {d : Scope} {r : Side F C K Prop} {xs ys : List TokenAndSpan} {t : Tree F C K}
      → Production Prop d r → Ran hook (Law hook) Prop r xs ys t → PropLaw hook d xs ys t
  step-prop {d = d} {ys = ys} prop-spread (ran-took {a = a} (ran-held h (ran-part {e = e} f k ran-gave))) =
      spread-law d a _ _ ys e h k
  step-prop {d = d} prop-short (ran-took {a = a} w) =
      let (n, h, g) = given-ran hook (Law hook) (any_name d a.token a.span) _ w in short-law d a n h g
  step-prop {d = d} prop-cover (ran-took {a = a} w) =
      let (n, h, g) = given-ran hook (Law hook) (any_name d a.token a.span) _ w in cover-law d a n h g
  step-prop {d = d} prop-key (ran-part {e = k} dk u (ran-part f law ran-gave)) = key-law d k dk law
  step-prop prop-generator w = no-prop w (λ a k f m i. refl)
  step-prop prop-async w = no-prop w (λ a k f m i. refl)
  step-prop prop-async-generator w = no-prop w (λ a b k f m i. refl)
  step-prop prop-setter w = no-prop w (λ a k f m i. refl)
  step-prop prop-getter w = no-prop w (λ a k f m i. refl)

  step : {s : Symbol} {d : Scope} {r : Side F C K s} {xs ys : List TokenAndSpan} {t : Answer F C K s}
      → Spelled xs → Production s d r → Ran hook (Law hook) s r xs ys t → Law hook s d xs ys t
  step {s = Assign} sp q w = step-assign q w
  step {s = Level n} sp q w = step-level q w
  step {s = Unary} sp q w = step-unary q w
  step {s = Lhs b} sp q w = step-lhs q w
  step {s = Left b} sp q w = step-left q w
  step {s = Base b} sp q w = step-base q w
  step {s = Primary} sp q w = step-primary sp q w
  step {s = Literal} sp lit w =
      gives-side (λ v. is_open v ≡ false) (forget hook (Law hook) w)
      (λ a. quiet (lit_of a.token a.span) _ (λ e h. lit-closed a.token a.span e h))
  step {s = Template b} sp template w = gives-side (λ v. is_open v ≡ false) (forget hook (Law hook) w) (λ a ps. refl)
  step {s = Item} sp item-expr (ran-part e k ran-gave) =
      (refl, λ m c q is_end p h b. plain (element-of hook (k m c q p h b)))
  step {s = Item} {d = d} {ys = ys} sp item-spread (ran-took {a = a} (ran-held h (ran-part {e = e} f k ran-gave))) =
      dots-law d a _ ys e h k
  step {s = Elements} sp elements-end (ran-took {a = a} (ran-held h (ran-gave {ys = ys}))) =
      λ m c e ps h1 b. list-end c PatElements ps a ys (by pat-elements-end (took (held h gave))) h1
  step {s = Elements} {d = d} {ys = ys} sp elements-hole
      (ran-took {a = a} (ran-held h (ran-part {e = es} f k ran-gave))) =
      hole-law d a _ ys es h k
  step {s = Elements} sp elements-more (ran-part {e = t} f k (ran-part {e = es} g l ran-gave)) =
      elements-law hook is_rbracket t es
      (λ c p ps v w. record {
        tree = put_first v.tree w.tree;
        read = by pat-elements-more (part v.read (part w.read gave));
        same = joined p v.tree ps (items_of w.tree) v.same w.same;
      })
      (λ c p v w. close-elements c _ _ _ p v w)
      k l.0 l.1
  step {s = ElementsTail} sp tail-end (ran-took {a = a} (ran-held h (ran-gave {ys = ys}))) = (
    λ m c e ps h1 b. list-end c PatElementsTail ps a ys (by pat-tail-end (took (held h gave))) h1,
    λ l. (a, h, refl),
  )
  step {s = ElementsTail} sp tail-more (ran-took {a = a} (ran-held h (ran-part {e = es} f k ran-gave))) = (
    λ m c e ps h1 b.
        let v = k m c e ps (sym (elements-behind m a.span (comma_of es) (items_of es)) ∙ h1) b in
        record { tree = v.tree; read = by pat-tail-more (took (held h (part v.read gave))); same = v.same },
    λ l. absurd (never-last a.span (comma_of es) (items_of es) l),
  )
  step {s = Args i} sp args-end (ran-took {a = a} (ran-held h (ran-gave {ys = ys}))) =
      λ m c e ps h1 b. list-end c Params ps a ys (by params-end (took (held h gave))) h1
  step {s = Args i} sp args-more (ran-part {e = t} f k (ran-part {e = es} g l ran-gave)) =
      elements-law hook is_rparen t es
      (λ c p ps v w. record {
        tree = put_first v.tree w.tree;
        read = by params-more (part v.read (part w.read gave));
        same = joined p v.tree ps (items_of w.tree) v.same w.same;
      })
      (λ c p v w. close-params c _ _ _ p v w)
      k l.0 l.1
  step {s = ArgsTail i} sp args-tail-end (ran-took {a = a} (ran-held h (ran-gave {ys = ys}))) = (
    λ m c e ps h1 b. list-end c ParamsTail ps a ys (by params-tail-end (took (held h gave))) h1,
    λ l. (a, h, refl),
  )
  step {s = ArgsTail i} sp args-tail-more
      (ran-took {a = a} (ran-held h (ran-part {e = es} f k (ran-held n ran-gave)))) = (
        λ m c e ps h1 b.
            let v = k m c e ps (sym (elements-behind m a.span (comma_of es) (items_of es)) ∙ h1) b in
            record { tree = v.tree; read = by params-tail-more (took (held h (part v.read gave))); same = v.same },
        λ l. absurd (never-last a.span (comma_of es) (items_of es) l),
      )
  step {s = Props} sp props-end (ran-took {a = a} (ran-held h (ran-gave {ys = ys}))) =
      λ m c e ps h1 b. list-end c PatProps ps a ys (by pat-props-end (took (held h gave))) h1
  step {s = Props} sp props-more (ran-part {e = t} f k (ran-part {e = es} g l ran-gave)) =
      props-law hook is_rbrace t es
      (λ c p ps v w. record {
        tree = put_first v.tree w.tree;
        read = by pat-props-more (part v.read (part w.read gave));
        same = joined p v.tree ps (items_of w.tree) v.same w.same;
      })
      (λ c p i v w. close-props c _ _ _ p i v w)
      k l.0 l.1
  step {s = PropsTail} sp props-tail-end (ran-took {a = a} (ran-held h (ran-gave {ys = ys}))) = (
    λ m c e ps h1 b. list-end c PatPropsTail ps a ys (by pat-props-tail-end (took (held h gave))) h1,
    λ l. (a, h, refl),
  )
  step {s = PropsTail} sp props-tail-more (ran-took {a = a} (ran-held h (ran-part {e = es} f k ran-gave))) = (
    λ m c e ps h1 b.
        let v = k m c e ps (sym (props-behind m a.span (comma_of es) (items_of es)) ∙ h1) b in
        record { tree = v.tree; read = by pat-props-tail-more (took (held h (part v.read gave))); same = v.same },
    λ l. absurd (never-last a.span (comma_of es) (items_of es) l),
  )
  step {s = Prop} sp q w = step-prop q w
  step {s = AfterKey} sp after-value (ran-took {a = a} (ran-held h (ran-part {e = e} f k ran-gave))) = valued h k
  step {s = AfterKey} sp after-shell (ran-part f k ran-gave) = method k
  step {s = Shell is_async is_generator} sp shell-block w =
      gives-side (λ v. (k : Tree F C K) (m : Role) (is_end : Bool) → as_prop m is_end (prop_of k v) ≡ None)
      (forget hook (Law hook) w) (λ a b v s k m is_end. refl)
  step sp q w = tt

  pub covered : {s : Symbol} {d : Scope} {xs ys : List TokenAndSpan} {t : Answer F C K s} → Spelled xs
      → Reads hook s d xs ys t → Law hook s d xs ys t
  covered sp d = every-within hook (Law hook) Spelled (λ a xs w. w.1) (λ s c r xs ys t w p e. step w p e) sp d
