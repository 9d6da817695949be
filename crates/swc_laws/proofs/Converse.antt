-- The converse of the cover law: what is read as parameters, by free names, is read in parentheses too, and is related
-- to these parameters, but for places.
use Rattle.std.specs.Prelude.{◌≡◌, Bool, true, false, not, ◌||◌, if◌then◌else◌, List, [], ◌∷◌, Option, Some, None}
use Rattle.std.proofs.Common.{refl, sym, ap, subst, ◌∙◌, arith}
use Rattle.std.proofs.Math.Bool.{and-false}
use Rattle.swc_context.specs.{Reserved.is_reserved_word, declared.span.Span.Span, declared.operator.AssignOp.AssignOp as write}
use Rattle.swc_input.specs.{declared.token.Token.Token, declared.token.Token.Token as token, declared.token.TokenAndSpan.TokenAndSpan, Kinds.at_token}
use Rattle.swc_ast.specs.Targets.{is_target as is_simple_target}
use Rattle.swc_ast.specs.Tree.{Tree, node, Trees, nil, cons, span_of, erase, erase_all, no_span, ident, array, object, array_with, object_with, default, rest, dots, key_value, assign as assign_kind}
use Rattle.swc_ast.specs.Trees.{to, items_of, comma_of, hole_e, item_e, spread_e, spread_prop_e, ident_e, array_e, object_e, is_ident, listed, put_first, behind_comma, assign_e, short_e, cover_e, key_value_e}
use Rattle.swc_ast.specs.Patterns.{array_p, object_p, default_p, rest_p, name_p, put_element, holds_ident}
use Rattle.swc_bodies.specs.Readings.{Hook, is_brace, is_function}
use Rattle.swc_grammar.specs.Rule.{sees, sees_two, gives, take, check, read}
use Rattle.swc_grammar.specs.Symbols.{Symbol, Answer, Assign, Unary, Primary, Args, ArgsTail, Elements, ElementsTail, Item, Props, PropsTail, Prop, Key, Pat, Element, Rest, PatElements, PatElementsTail, PatProps, PatPropsTail, PatProp, Params, ParamsTail, Side}
use Rattle.swc_grammar.specs.Tokens.{tk, with_in, assign_of, is_equals, is_dots, is_await, is_rbracket, is_rbrace, is_rparen, is_comma, is_lbracket, is_colon, is_lparen}
use Rattle.swc_grammar.specs.Parts.{reference, binding as binding_name, any_name, assign_here}
use Rattle.swc_grammar.specs.Patterns.{binds_names, all_bind_names, props_bind_names, prop_binds_names, any}
use Rattle.swc_grammar.specs.Cover.{Role, target, binding, ◌>>>◌, as_pat, as_elements, as_element, as_props, as_prop, as_params, as_literal, is_pattern, is_assign, is_last, is_rest_of, stays}
use Rattle.swc_grammar.specs.Grammar.{Production, ident-expr, unary-left, lhs-left, left-base, base-primary, exp-unary, array-lit, object-lit, assign-level, assign-expr, assign-pattern, item-expr, item-spread, elements-end, elements-hole, elements-more, tail-end, tail-more, props-end, props-more, props-tail-end, props-tail-more, prop-spread, prop-short, prop-cover, prop-key, after-value, key-name, key-literal, key-computed, args-end, args-more, args-tail-end, args-tail-more, pat-bind, pat-array, pat-object, element-pat, element-default, pat-rest, pat-elements-end, pat-elements-hole, pat-elements-more, pat-elements-rest, pat-tail-end, pat-tail-more, pat-props-end, pat-props-more, pat-props-rest, pat-props-tail-end, pat-props-tail-more, pat-prop-key, pat-prop-short, pat-prop-default, params-end, params-more, params-rest, params-tail-end, params-tail-more, async-ident}
use Rattle.swc_grammar.specs.Reads.{Reads, by, gave, took, held, calm, calm-two, part}
use Rattle.swc_grammar.specs.Arrows.{async_name, goes_on_async, of_arrow, is_bindable}
use Rattle.swc_grammar.specs.{Scope.Scope, Scope.at_head, Names.Spelling, Clean.first}
use Rattle.swc_grammar.proofs.Only.{lbracket-is, brace-is, equals-is, rbracket-is, rbrace-is, rparen-is, comma-is}
use Rattle.swc_grammar.proofs.Induct.{Ran, ran-gave, ran-took, ran-held, ran-part, given-ran, every, follows-given}
use Rattle.swc_grammar.proofs.{Answers.both, Levels.lift, Firsts.begins as begins-with, Meets.meets}
use Rattle.swc_laws.specs.Bound.{is_free_name}
use Rattle.swc_laws.proofs.Bindable.{reserved-in}
use Rattle.swc_laws.proofs.Freed.{freed-name, free-target, free-shorthand, Refers, other-ref, async-ref}
use Rattle.swc_laws.proofs.Covered.{joined, target-no-pattern, put-same, put-bound, elements-behind, props-behind}

-- one after another, put together
then-some : {A B : Type 0} (o : Option A) (f : A → Option B) (x : A) {r : Option B} → o ≡ Some x → f x ≡ r → o >>> f ≡ r
then-some o f x e h = ap (λ v. v >>> f) e ∙ h

equals-plain : (t : Token) → is_equals t ≡ true → assign_of t ≡ Some write.Assign
equals-plain t h = rw (equals-is t h) refl

module _ {F C K : Type 0} where
  ident-rest : (m : Role) (e : Tree F C K) → is_ident e ≡ true → is_rest_of m e ≡ true
  ident-rest (target strict) (node (ident name) s ts) h = refl
  ident-rest binding (node (ident name) s ts) h = refl
  ident-rest m (node k s ts) h = absurd cc

  stays-any : (m : Role) (p : Tree F C K) → binds_names any p ≡ true → stays m p ≡ true
  stays-any (target strict) p h = refl
  stays-any binding p h = h

  simple-no-assign : (strict : Bool) (e : Tree F C K) → is_simple_target strict e ≡ true → is_assign e ≡ false
  simple-no-assign strict (node (assign_kind op) s ts) h = absurd cc
  simple-no-assign strict (node k s ts) h = refl

  pattern-no-assign : (e : Tree F C K) → is_pattern e ≡ true → is_assign e ≡ false
  pattern-no-assign (node (array_with comma) s ts) h = refl
  pattern-no-assign (node (object_with comma) s ts) h = refl
  pattern-no-assign (node k s ts) h = absurd cc

  -- a name, which is a target anywhere, or a literal, which becomes a pattern
  data Sort (e p : Tree F C K) : Type 0 where
    simple : ((strict : Bool) → is_simple_target strict e ≡ true) → Sort e p
    literal : is_pattern e ≡ true → is_pattern p ≡ true → Sort e p

  sort-no-assign : {e p : Tree F C K} → Sort e p → is_assign e ≡ false
  sort-no-assign {e = e} (simple f) = simple-no-assign false e (f false)
  sort-no-assign {e = e} (literal h k) = pattern-no-assign e h

module _ {F C K : Type 0} (hook : Hook F C K) where
  -- a pattern, read as an expression that is related to it
  record Back (c : Scope) (xs ys : List TokenAndSpan) (q : Tree F C K) : Type 0 where
    pub tree : Tree F C K
    pub pat : Tree F C K
    pub read : Reads hook Primary (at_head (with_in c)) xs ys tree
    pub maps : (m : Role) → as_pat m tree ≡ Some pat
    pub same : erase pat ≡ erase q
    pub calm : sees (λ t. is_await t.token) xs ≡ false
    pub sort : Sort tree pat
    pub name : is_ident q ≡ true → is_ident tree ≡ true

  record BackAssign (c : Scope) (xs ys : List TokenAndSpan) (q : Tree F C K) : Type 0 where
    pub tree : Tree F C K
    pub pat : Tree F C K
    pub read : Reads hook Assign (with_in c) xs ys tree
    pub maps : (m : Role) → as_pat m tree ≡ Some pat
    pub same : erase pat ≡ erase q

  -- after dots
  record BackRest (c : Scope) (xs ys : List TokenAndSpan) (r : Tree F C K) : Type 0 where
    pub at : TokenAndSpan
    pub tail : List TokenAndSpan
    pub list : xs ≡ at ∷ tail
    pub begins : is_dots at.token ≡ true
    pub tree : Tree F C K
    pub pat : Tree F C K
    pub read : Reads hook Assign (with_in c) tail ys tree
    pub maps : (m : Role) → as_pat m tree ≡ Some pat
    pub plain : is_assign tree ≡ false
    pub same : node rest no_span (cons (node dots no_span nil) (cons (erase pat) nil)) ≡ erase r
    pub name : holds_ident r ≡ true → is_ident tree ≡ true

  record BackProp (c : Scope) (xs ys : List TokenAndSpan) (q : Tree F C K) : Type 0 where
    pub tree : Tree F C K
    pub pat : Tree F C K
    pub read : Reads hook Prop (with_in c) xs ys tree
    pub maps : (m : Role) (is_end : Bool) → as_prop m is_end tree ≡ Some pat
    pub same : erase pat ≡ erase q

  record BackList (s : Symbol) (c : Scope) (xs ys : List TokenAndSpan) (qs : Tree F C K) : Type 0 where
    pub tree : Tree F C K
    pub pats : Trees F C K
    pub read : Reads hook s (with_in c) xs ys tree
    pub maps : (m : Role) → as_elements m (comma_of tree) (items_of tree) ≡ Some pats
    pub same : erase_all pats ≡ erase_all (items_of qs)

  record BackProps (s : Symbol) (c : Scope) (xs ys : List TokenAndSpan) (qs : Tree F C K) : Type 0 where
    pub tree : Tree F C K
    pub pats : Trees F C K
    pub read : Reads hook s (with_in c) xs ys tree
    pub maps : (m : Role) → as_props m (comma_of tree) (items_of tree) ≡ Some pats
    pub same : erase_all pats ≡ erase_all (items_of qs)

  -- what is after a pattern makes no more of the name `async`
  abbrev Quiet : Scope → List TokenAndSpan → Type 0
  Quiet c ys =
      (sees (goes_on_async (at_head (with_in c))) ys ≡ false) × (sees_two (of_arrow (at_head (with_in c))) ys ≡ false)

  -- no word, and no parenthesis that opens
  quiet-sign : (c : Scope) (t : Token) (b : Bool) (s : Span) (us : List TokenAndSpan) → is_function t ≡ false
      → is_lparen t ≡ false → is_bindable (with_in c) t ≡ false → Quiet c (tk t b s ∷ us)
  quiet-sign c t b s us f l w = (rw (f, l, w) (and-false (not b)), two us)
    where
      two : (us : List TokenAndSpan) → sees_two (of_arrow (at_head (with_in c))) (tk t b s ∷ us) ≡ false
      two [] = refl
      two (u ∷ us) = rw w (and-false (not b))

  quiet-token : (c : Scope) (a : TokenAndSpan) (us : List TokenAndSpan) (t : Token) → a.token ≡ t
      → is_function t ≡ false → is_lparen t ≡ false → is_bindable (with_in c) t ≡ false → Quiet c (a ∷ us)
  quiet-token c a us t e f l w =
      subst (λ v. Quiet c (tk v a.had_line_break a.span ∷ us)) (sym e) (quiet-sign c t a.had_line_break a.span us f l w)

  quiet-equals : (c : Scope) (a : TokenAndSpan) (us : List TokenAndSpan) → is_equals a.token ≡ true → Quiet c (a ∷ us)
  quiet-equals c a us h = quiet-token c a us (token.AssignOp write.Assign) (equals-is a.token h) refl refl refl

  quiet-rbracket : (c : Scope) (a : TokenAndSpan) (us : List TokenAndSpan) → is_rbracket a.token ≡ true
      → Quiet c (a ∷ us)
  quiet-rbracket c a us h = quiet-token c a us token.RBracket (rbracket-is a.token h) refl refl refl

  quiet-rbrace : (c : Scope) (a : TokenAndSpan) (us : List TokenAndSpan) → is_rbrace a.token ≡ true → Quiet c (a ∷ us)
  quiet-rbrace c a us h = quiet-token c a us token.RBrace (rbrace-is a.token h) refl refl refl

  quiet-rparen : (c : Scope) (a : TokenAndSpan) (us : List TokenAndSpan) → is_rparen a.token ≡ true → Quiet c (a ∷ us)
  quiet-rparen c a us h = quiet-token c a us token.RParen (rparen-is a.token h) refl refl refl

  quiet-part : (c : Scope) (closer : Token → Bool)
      → ((a : TokenAndSpan) (us : List TokenAndSpan) → closer a.token ≡ true → Quiet c (a ∷ us))
      → (ms : List TokenAndSpan) → at_token (λ t. is_comma t || closer t) (first ms) ≡ true → Quiet c ms
  quiet-part c closer f [] h = absurd cc
  quiet-part c closer f (a ∷ us) h = by-comma (is_comma a.token) refl h
    where
      by-comma : (b : Bool) → is_comma a.token ≡ b → (b || closer a.token) ≡ true → Quiet c (a ∷ us)
      by-comma true e h = quiet-token c a us token.Comma (comma-is a.token e) refl refl refl
      by-comma false e h = f a us h

  abbrev Law : (s : Symbol) → Scope → List TokenAndSpan → List TokenAndSpan → Answer F C K s → Type 0
  Law Pat c xs ys q = Quiet c ys → binds_names is_free_name q ≡ true → Back c xs ys q
  Law Element c xs ys q = Quiet c ys → binds_names is_free_name q ≡ true → BackAssign c xs ys q
  Law Rest c xs ys q = Quiet c ys → binds_names is_free_name q ≡ true → BackRest c xs ys q
  Law PatElements c xs ys qs = all_bind_names is_free_name (items_of qs) ≡ true → BackList Elements c xs ys qs
  Law PatElementsTail c xs ys qs = all_bind_names is_free_name (items_of qs) ≡ true → BackList ElementsTail c xs ys qs
  Law Params c xs ys qs = all_bind_names is_free_name (items_of qs) ≡ true → BackList (Args false) c xs ys qs
  Law ParamsTail c xs ys qs = all_bind_names is_free_name (items_of qs) ≡ true → BackList (ArgsTail false) c xs ys qs
  Law PatProps c xs ys qs = props_bind_names is_free_name (items_of qs) ≡ true → BackProps Props c xs ys qs
  Law PatPropsTail c xs ys qs = props_bind_names is_free_name (items_of qs) ≡ true → BackProps PropsTail c xs ys qs
  Law PatProp c xs ys q = Quiet c ys → prop_binds_names is_free_name q ≡ true → BackProp c xs ys q
  Law s c xs ys t = Unit {0}

  -- a primary expression is an operand and an assignment expression
  as-unary : {d : Scope} {xs ys : List TokenAndSpan} {e : Tree F C K} → sees (λ t. is_await t.token) xs ≡ false
      → Reads hook Primary d xs ys e → Reads hook Unary d xs ys e
  as-unary n d =
      let left = by left-base (part (by base-primary (part d gave)) gave) in
      by unary-left (calm n (part (by lhs-left (part left gave)) gave))

  as-assign : {d : Scope} {xs ys : List TokenAndSpan} {e : Tree F C K} → sees (λ t. is_await t.token) xs ≡ false
      → Reads hook Primary (at_head d) xs ys e → Reads hook Assign d xs ys e
  as-assign n d =
      by assign-level (part (lift 1 11 (omega arith) (omega arith) (by exp-unary (part (as-unary n d) gave))) gave)

  -- names
  name-primary : (d : Scope) (a : TokenAndSpan) (n : Spelling) (ys : List TokenAndSpan) → Refers d a.token a.span n
      → sees (goes_on_async (at_head d)) ys ≡ false → sees_two (of_arrow (at_head d)) ys ≡ false
      → Reads hook Primary (at_head d) (a ∷ ys) ys (ident_e n.at n.text)
  name-primary d a n ys (other-ref e) q o =
      by ident-expr (took (follows-given (reference (at_head d) a.token a.span) _ n e gave))
  name-primary d a n ys (async-ref e) q o =
      by async-ident (took (follows-given (async_name (at_head d) a.token a.span) _ n e (calm q (calm-two o gave))))

  name-back : (c : Scope) (a : TokenAndSpan) (n : Spelling) (ys : List TokenAndSpan)
      → binding_name c a.token a.span ≡ Some n → is_free_name n.text ≡ true → Quiet c ys
      → Back c (a ∷ ys) ys (ident_e n.at n.text)
  name-back c a n ys h k q =
      let (r, w) = freed-name c a.token a.span n h k in
      record {
        tree = ident_e n.at n.text;
        pat = ident_e n.at n.text;
        read = name-primary (with_in c) a n ys r q.0 q.1;
        maps = λ m. maps-name m;
        same = refl;
        calm = w;
        sort = simple (λ strict. free-target strict n.text k);
        name = λ i. refl;
      }
    where
      maps-name : (m : Role) → as_pat m (ident_e {F = F} {C = C} {K = K} n.at n.text) ≡ Some (ident_e n.at n.text)
      maps-name (target strict) = rw (free-target strict n.text k) refl
      maps-name binding = refl

  bind-law : (c : Scope) (a : TokenAndSpan) {xs ys : List TokenAndSpan} {t : Tree F C K} (n : Spelling)
      → binding_name c a.token a.span ≡ Some n → Ran hook Law Pat (gives (ident_e n.at n.text)) xs ys t
      → Quiet c ys → binds_names is_free_name t ≡ true → Back c (a ∷ xs) ys t
  bind-law c a n h (ran-gave {ys = ys}) q b = name-back c a n ys h b q

  -- literals
  array-back : (c : Scope) (a : TokenAndSpan) (ms ys : List TokenAndSpan) (q : Tree F C K) → is_lbracket a.token ≡ true
      → BackList Elements c ms ys q → Back c (a ∷ ms) ys (array_p (to a.span (span_of q)) (items_of q))
  array-back c a ms ys q h v =
      let s = to a.span (span_of v.tree) in
      record {
        tree = array_e (comma_of v.tree) s (items_of v.tree);
        pat = array_p s v.pats;
        read = by array-lit (took (held h (part v.read gave)));
        maps = λ m. then-some (as_elements m (comma_of v.tree) (items_of v.tree)) (λ ps. Some (array_p s ps)) v.pats
            (v.maps m) refl;
        same = ap (λ w. node array no_span w) v.same;
        calm = rw (lbracket-is a.token h) refl;
        sort = literal refl refl;
        name = λ i. absurd (cc);
      }

  object-back : (c : Scope) (a : TokenAndSpan) (ms ys : List TokenAndSpan) (q : Tree F C K) → is_brace a.token ≡ true
      → BackProps Props c ms ys q → Back c (a ∷ ms) ys (object_p (to a.span (span_of q)) (items_of q))
  object-back c a ms ys q h v =
      let s = to a.span (span_of v.tree) in
      record {
        tree = object_e (comma_of v.tree) s (items_of v.tree);
        pat = object_p s v.pats;
        read = by object-lit (took (held h (part v.read gave)));
        maps = λ m. then-some (as_props m (comma_of v.tree) (items_of v.tree)) (λ ps. Some (object_p s ps)) v.pats
            (v.maps m) refl;
        same = ap (λ w. node object no_span w) v.same;
        calm = rw (brace-is a.token h) refl;
        sort = literal refl refl;
        name = λ i. absurd (cc);
      }

  -- with an initialiser
  default-back : (c : Scope) (a : TokenAndSpan) (xs us ys : List TokenAndSpan) (q r : Tree F C K)
      → is_equals a.token ≡ true → Reads hook Assign (with_in c) us ys r → Back c xs (a ∷ us) q
      → BackAssign c xs ys (default_p (to (span_of q) (span_of r)) q r)
  default-back c a xs us ys q r h d v = by-sort v.sort
    where
      by-sort : Sort v.tree v.pat → BackAssign c xs ys (default_p (to (span_of q) (span_of r)) q r)
      by-sort (simple f) =
          let s = to (span_of v.tree) (span_of r) in
          let n = target-no-pattern false v.tree (f false) in
          record {
            tree = assign_e s write.Assign v.tree r;
            pat = default_p s v.pat r;
            read = by assign-expr (part (as-unary v.calm v.read)
                (took (follows-given (assign_here a.token a.span) _ write.Assign (equals-plain a.token h)
                (held (f c.context.strict) (part d gave)))));
            maps = λ m. then-some
                (if is_pattern v.tree then (if stays m v.tree then Some v.tree else None) else as_pat m v.tree)
                (λ p. Some (default_p s p r)) v.pat (rw n (v.maps m)) refl;
            same = ap (λ w. node default no_span (cons w (cons (erase r) nil))) v.same;
          }
      by-sort (literal k j) =
          let s = to (span_of v.tree) (span_of r) in
          let g : as_literal c.context.strict v.tree ≡ Some v.pat = rw k (v.maps (target c.context.strict)) in
          let b = meets v.tree v.pat (v.maps binding) in
          record {
            tree = assign_e s write.Assign v.pat r;
            pat = default_p s v.pat r;
            read = by assign-pattern (part (as-unary v.calm v.read)
                (took (held h (follows-given (as_literal c.context.strict v.tree) _ v.pat g (part d gave)))));
            maps = λ m. then-some
                (if is_pattern v.pat then (if stays m v.pat then Some v.pat else None) else as_pat m v.pat)
                (λ p. Some (default_p s p r)) v.pat (rw (j, stays-any m v.pat b) refl) refl;
            same = ap (λ w. node default no_span (cons w (cons (erase r) nil))) v.same;
          }

  element-back : (c : Scope) (xs ys : List TokenAndSpan) (q : Tree F C K) → Back c xs ys q → BackAssign c xs ys q
  element-back c xs ys q v =
      record { tree = v.tree; pat = v.pat; read = as-assign v.calm v.read; maps = v.maps; same = v.same }

  rest-back : (c : Scope) (a : TokenAndSpan) (ms ys : List TokenAndSpan) (q : Tree F C K) → is_dots a.token ≡ true
      → Back c ms ys q → BackRest c (a ∷ ms) ys (rest_p (to a.span (span_of q)) (node dots a.span nil) q)
  rest-back c a ms ys q h v = record {
    at = a;
    tail = ms;
    list = refl;
    begins = h;
    tree = v.tree;
    pat = v.pat;
    read = as-assign v.calm v.read;
    maps = v.maps;
    plain = sort-no-assign v.sort;
    same = ap (λ w. node rest no_span (cons (node dots no_span nil) (cons w nil))) v.same;
    name = v.name;
  }

  -- lists: one more in front
  items-maps : (m : Role) (e p : Tree F C K) (es : Tree F C K) (ps : Trees F C K) → as_pat m e ≡ Some p
      → as_elements m (comma_of es) (items_of es) ≡ Some ps
      → as_elements m (comma_of es) (cons (item_e e) (items_of es)) ≡ Some (cons p ps)
  items-maps m e p es ps h k =
      then-some (as_pat m e) _ p h (then-some (as_elements m (comma_of es) (items_of es)) _ ps k refl)

  props-maps : (m : Role) (t p : Tree F C K) (es : Tree F C K) (ps : Trees F C K)
      → as_prop m (is_last (comma_of es) (items_of es)) t ≡ Some p → as_props m (comma_of es) (items_of es) ≡ Some ps
      → as_props m (comma_of es) (cons t (items_of es)) ≡ Some (cons p ps)
  props-maps m t p es ps h k =
      then-some (as_prop m (is_last (comma_of es) (items_of es)) t) _ p h
      (then-some (as_props m (comma_of es) (items_of es)) _ ps k refl)

  rest-maps : (m : Role) (s s' : Span) (e p : Tree F C K) → is_assign e ≡ false → as_pat m e ≡ Some p
      → as_elements m None (cons (spread_e s e) nil) ≡ Some (cons (rest_p (span_of e) (node dots s nil) p) nil)
  rest-maps m s s' e p n h =
      then-some (as_element m true (spread_e s e)) _ (rest_p (span_of e) (node dots s nil) p)
      (rw n (then-some (as_pat m e) _ p h refl)) refl

  end-list : (c : Scope) (s : Symbol) (a : TokenAndSpan) (ys : List TokenAndSpan)
      → Reads hook s (with_in c) (a ∷ ys) ys (listed None a.span nil)
      → BackList s c (a ∷ ys) ys (listed None a.span nil)
  end-list c s a ys d = record { tree = listed None a.span nil; pats = nil; read = d; maps = λ m. refl; same = refl }

  end-props : (c : Scope) (s : Symbol) (a : TokenAndSpan) (ys : List TokenAndSpan)
      → Reads hook s (with_in c) (a ∷ ys) ys (listed None a.span nil)
      → BackProps s c (a ∷ ys) ys (listed None a.span nil)
  end-props c s a ys d = record { tree = listed None a.span nil; pats = nil; read = d; maps = λ m. refl; same = refl }

  hole-back : (c : Scope) (a : TokenAndSpan) (ms ys : List TokenAndSpan) (qs : Tree F C K) → is_comma a.token ≡ true
      → BackList Elements c ms ys qs
      → BackList Elements c (a ∷ ms) ys (listed None (span_of qs) (put_element true hole_e (items_of qs)))
  hole-back c a ms ys qs h v = record {
    tree = put_first hole_e v.tree;
    pats = put_element true hole_e v.pats;
    read = by elements-hole (took (held h (part v.read gave)));
    maps = λ m. then-some (as_elements m (comma_of v.tree) (items_of v.tree)) _ v.pats (v.maps m) refl;
    same = put-same v.pats (items_of qs) v.same;
  }

  -- an element and the rest of a list
  elements-back : (c : Scope) (xs ms ys : List TokenAndSpan) (q qs : Tree F C K) → BackAssign c xs ms q
      → BackList ElementsTail c ms ys qs → BackList Elements c xs ys (put_first q qs)
  elements-back c xs ms ys q qs v w = record {
    tree = put_first (item_e v.tree) w.tree;
    pats = cons v.pat w.pats;
    read = by elements-more (part (by item-expr (part v.read gave)) (part w.read gave));
    maps = λ m. items-maps m v.tree v.pat w.tree w.pats (v.maps m) (w.maps m);
    same = joined v.pat q w.pats (items_of qs) v.same w.same;
  }

  args-back : (c : Scope) (xs ms ys : List TokenAndSpan) (q qs : Tree F C K) → BackAssign c xs ms q
      → BackList (ArgsTail false) c ms ys qs → BackList (Args false) c xs ys (put_first q qs)
  args-back c xs ms ys q qs v w = record {
    tree = put_first (item_e v.tree) w.tree;
    pats = cons v.pat w.pats;
    read = by args-more (part (by item-expr (part v.read gave)) (part w.read gave));
    maps = λ m. items-maps m v.tree v.pat w.tree w.pats (v.maps m) (w.maps m);
    same = joined v.pat q w.pats (items_of qs) v.same w.same;
  }

  props-back : (c : Scope) (xs ms ys : List TokenAndSpan) (q qs : Tree F C K) → BackProp c xs ms q
      → BackProps PropsTail c ms ys qs → BackProps Props c xs ys (put_first q qs)
  props-back c xs ms ys q qs v w = record {
    tree = put_first v.tree w.tree;
    pats = cons v.pat w.pats;
    read = by props-more (part v.read (part w.read gave));
    maps = λ m. props-maps m v.tree v.pat w.tree w.pats (v.maps m _) (w.maps m);
    same = joined v.pat q w.pats (items_of qs) v.same w.same;
  }

  -- a rest, and what closes the list
  item-dots : (c : Scope) (xs ms : List TokenAndSpan) (r : Tree F C K) (v : BackRest c xs ms r)
      → Reads hook Item (with_in c) xs ms (spread_e v.at.span v.tree)
  item-dots c xs ms r v =
      subst (λ u. Reads hook Item (with_in c) u ms (spread_e v.at.span v.tree)) (sym v.list)
      (by item-spread (took (held v.begins (part v.read gave))))

  elements-rest : (c : Scope) (xs : List TokenAndSpan) (a : TokenAndSpan) (ys : List TokenAndSpan) (r : Tree F C K)
      → is_rbracket a.token ≡ true → BackRest c xs (a ∷ ys) r
      → BackList Elements c xs ys (listed None a.span (cons r nil))
  elements-rest c xs a ys r h v = record {
    tree = listed None a.span (cons (spread_e v.at.span v.tree) nil);
    pats = cons (rest_p (span_of v.tree) (node dots v.at.span nil) v.pat) nil;
    read = by elements-more (part (item-dots c xs (a ∷ ys) r v) (part (by tail-end (took (held h gave))) gave));
    maps = λ m. rest-maps m v.at.span v.at.span v.tree v.pat v.plain (v.maps m);
    same = ap (λ w. cons w nil) v.same;
  }

  params-rest-back : (c : Scope) (xs : List TokenAndSpan) (a : TokenAndSpan) (ys : List TokenAndSpan) (r : Tree F C K)
      → is_rparen a.token ≡ true → BackRest c xs (a ∷ ys) r
      → BackList (Args false) c xs ys (listed None a.span (cons r nil))
  params-rest-back c xs a ys r h v = record {
    tree = listed None a.span (cons (spread_e v.at.span v.tree) nil);
    pats = cons (rest_p (span_of v.tree) (node dots v.at.span nil) v.pat) nil;
    read = by args-more (part (item-dots c xs (a ∷ ys) r v) (part (by args-tail-end (took (held h gave))) gave));
    maps = λ m. rest-maps m v.at.span v.at.span v.tree v.pat v.plain (v.maps m);
    same = ap (λ w. cons w nil) v.same;
  }

  prop-dots : (c : Scope) (xs ms : List TokenAndSpan) (r : Tree F C K) (v : BackRest c xs ms r)
      → Reads hook Prop (with_in c) xs ms (spread_prop_e v.at.span v.tree)
  prop-dots c xs ms r v =
      subst (λ u. Reads hook Prop (with_in c) u ms (spread_prop_e v.at.span v.tree)) (sym v.list)
      (by prop-spread (took (held v.begins (part v.read gave))))

  props-rest-back : (c : Scope) (xs : List TokenAndSpan) (a : TokenAndSpan) (ys : List TokenAndSpan) (r : Tree F C K)
      → is_rbrace a.token ≡ true → holds_ident r ≡ true → BackRest c xs (a ∷ ys) r
      → BackProps Props c xs ys (listed None a.span (cons r nil))
  props-rest-back c xs a ys r h i v =
      let s = to v.at.span (span_of v.tree) in
      record {
        tree = listed None a.span (cons (spread_prop_e v.at.span v.tree) nil);
        pats = cons (rest_p s (node dots v.at.span nil) v.pat) nil;
        read = by props-more (part (prop-dots c xs (a ∷ ys) r v) (part (by props-tail-end (took (held h gave))) gave));
        maps = λ m. then-some (as_prop m true (spread_prop_e v.at.span v.tree)) _
            (rest_p s (node dots v.at.span nil) v.pat)
            (rw (ident-rest m v.tree (v.name i)) (then-some (as_pat m v.tree) _ v.pat (v.maps m) refl)) refl;
        same = ap (λ w. cons w nil) v.same;
      }

  -- properties
  key-out : (c : Scope) {xs ys : List TokenAndSpan} {k : Tree F C K} → Reads hook Key c xs ys k
      → Reads hook Key (with_in c) xs ys k
  key-out c (by key-name (took {a = a} d)) = by key-name (took d)
  key-out c (by key-literal d) = by key-literal d
  key-out c (by key-computed d) = by key-computed d

  key-back : (c : Scope) (k : Tree F C K) (a : TokenAndSpan) (xs ms ys : List TokenAndSpan) (q : Tree F C K)
      → Reads hook Key c xs (a ∷ ms) k → is_colon a.token ≡ true → BackAssign c ms ys q
      → BackProp c xs ys (key_value_e (to (span_of k) (span_of q)) k q)
  key-back c k a xs ms ys q d h v =
      let s = to (span_of k) (span_of v.tree) in
      record {
        tree = key_value_e s k v.tree;
        pat = key_value_e s k v.pat;
        read = by prop-key (part (key-out c d) (part (by after-value (took (held h (part v.read gave)))) gave));
        maps = λ m is_end. then-some (as_pat m v.tree) (λ p. Some (key_value_e s k p)) v.pat (v.maps m) refl;
        same = ap (λ w. node key_value no_span (cons (erase k) (cons w nil))) v.same;
      }

  name-out : (c : Scope) (t : Token) (s : Span) (n : Spelling) → any_name c t s ≡ Some n
      → any_name (with_in c) t s ≡ Some n
  name-out c (token.Word w) s n h = h
  name-out c t s n h = absurd cc

  short-back : (c : Scope) (a : TokenAndSpan) (ys : List TokenAndSpan) (n : Spelling)
      → any_name c a.token a.span ≡ Some n → not (is_reserved_word c.context n.text) ≡ true
      → BackProp c (a ∷ ys) ys (name_p n.at (ident_e n.at n.text) hole_e)
  short-back c a ys n h r = record {
    tree = short_e n.at n.text;
    pat = name_p n.at (ident_e n.at n.text) hole_e;
    read = by prop-short (took (follows-given (any_name (with_in c) a.token a.span) _ n (name-out c a.token a.span n h)
        (held (ap not (reserved-in c.context n.text) ∙ r) gave)));
    maps = λ m is_end. refl;
    same = refl;
  }

  cover-back : (c : Scope) (a b : TokenAndSpan) (us ys : List TokenAndSpan) (n : Spelling) (e : Tree F C K)
      → any_name c a.token a.span ≡ Some n → is_free_name n.text ≡ true → is_equals b.token ≡ true
      → Reads hook Assign (with_in c) us ys e
      → BackProp c (a ∷ (b ∷ us)) ys (name_p (to n.at (span_of e)) (ident_e n.at n.text) e)
  cover-back c a b us ys n e h k q d = record {
    tree = cover_e (to n.at (span_of e)) (ident_e n.at n.text) e;
    pat = name_p (to n.at (span_of e)) (ident_e n.at n.text) e;
    read = by prop-cover (took (follows-given (any_name (with_in c) a.token a.span) _ n (name-out c a.token a.span n h)
        (held (ap not (reserved-in c.context n.text) ∙ free-shorthand c.context n.text k)
        (took (held q (part d gave))))));
    maps = λ m is_end. refl;
    same = refl;
  }

  short-law : (c : Scope) (a : TokenAndSpan) {xs ys : List TokenAndSpan} {t : Tree F C K} (n : Spelling)
      → any_name c a.token a.span ≡ Some n → Ran hook Law PatProp (check (not (is_reserved_word c.context n.text))
      (gives (name_p n.at (ident_e n.at n.text) hole_e))) xs ys t → BackProp c (a ∷ xs) ys t
  short-law c a n h (ran-held r (ran-gave {ys = ys})) = short-back c a ys n h r

  cover-law : (c : Scope) (a : TokenAndSpan) {xs ys : List TokenAndSpan} {t : Tree F C K} (n : Spelling)
      → any_name c a.token a.span ≡ Some n
      → Ran hook Law PatProp (take (λ b. check (is_equals b.token) (read Assign (with_in c) (λ e.
      gives (name_p (to n.at (span_of e)) (ident_e n.at n.text) e))))) xs ys t
      → prop_binds_names is_free_name t ≡ true → BackProp c (a ∷ xs) ys t
  cover-law c a {ys = ys} n h (ran-took {a = b} {xs = us} (ran-held q (ran-part {e = e} d u ran-gave))) k =
      cover-back c a b us ys n e h k q d

  rest-binds : (q : Tree F C K) → holds_ident q ≡ true → prop_binds_names is_free_name q ≡ true
      → binds_names is_free_name q ≡ true
  rest-binds (node rest s (cons d (cons p ts))) i h = (both (is_ident p) (binds_names is_free_name p) h).1
  rest-binds q i h = absurd cc

  -- one clause per production
  step : (s : Symbol) (c : Scope) (r : Side F C K s) (xs ys : List TokenAndSpan) (t : Answer F C K s)
      → Production s c r → Ran hook Law s r xs ys t → Law s c xs ys t
  step s c r xs ys t pat-bind (ran-took {a = a} w) = λ q b.
      let (n, h, g) = given-ran hook Law (binding_name c a.token a.span) _ w in bind-law c a n h g q b
  step s c r xs ys t pat-array (ran-took {a = a} (ran-held h (ran-part {e = q} d k ran-gave))) = λ e b.
      array-back c a _ ys q h (k b)
  step s c r xs ys t pat-object (ran-took {a = a} (ran-held h (ran-part {e = q} d k ran-gave))) = λ e b.
      object-back c a _ ys q h (k b)
  step s c r xs ys t element-pat (ran-part d k ran-gave) = λ e b. element-back c xs ys t (k e b)
  step s c r xs ys t element-default
      (ran-part {e = q} d k (ran-took {a = a} {xs = us} (ran-held h (ran-part {e = e} f u ran-gave)))) =
      λ z b. default-back c a xs us ys q e h f (k (quiet-equals c a us h) b)
  step s c r xs ys t pat-rest (ran-took {a = a} (ran-held h (ran-part {e = q} d k ran-gave))) = λ e b.
      rest-back c a _ ys q h (k e b)
  step s c r xs ys t pat-elements-end (ran-took {a = a} (ran-held h ran-gave)) = λ b.
      end-list c Elements a ys (by elements-end (took (held h gave)))
  step s c r xs ys t pat-elements-hole (ran-took {a = a} (ran-held h (ran-part {e = qs} d k ran-gave))) = λ b.
      hole-back c a _ ys qs h (k (put-bound is_free_name (items_of qs) b))
  step s c r xs ys t pat-elements-more (ran-part {e = q} {ms = ms} d k (ran-part {e = qs} f l ran-gave)) = λ b.
      let (x, y) = both (binds_names is_free_name q) (all_bind_names is_free_name (items_of qs)) b in
      let z = quiet-part c is_rbracket (λ a us h. quiet-rbracket c a us h) ms (begins-with f) in
      elements-back c xs ms ys q qs (k z x) (l y)
  step s c r xs ys t pat-elements-rest (ran-part {e = q} d k (ran-took {a = a} (ran-held h ran-gave))) = λ b.
      let (x, y) = both (binds_names is_free_name q) true b in
      elements-rest c xs a ys q h (k (quiet-rbracket c a ys h) x)
  step s c r xs ys t pat-tail-end (ran-took {a = a} (ran-held h ran-gave)) = λ b.
      end-list c ElementsTail a ys (by tail-end (took (held h gave)))
  step s c r xs ys t pat-tail-more (ran-took {a = a} (ran-held h (ran-part {e = qs} d k ran-gave))) = λ b.
      let v = k b in record {
        tree = behind_comma a.span v.tree;
        pats = v.pats;
        read = by tail-more (took (held h (part v.read gave)));
        maps = λ m. elements-behind m a.span (comma_of v.tree) (items_of v.tree) ∙ v.maps m;
        same = v.same;
      }
  step s c r xs ys t params-end (ran-took {a = a} (ran-held h ran-gave)) = λ b.
      end-list c (Args false) a ys (by args-end (took (held h gave)))
  step s c r xs ys t params-more (ran-part {e = q} {ms = ms} d k (ran-part {e = qs} f l ran-gave)) = λ b.
      let (x, y) = both (binds_names is_free_name q) (all_bind_names is_free_name (items_of qs)) b in
      let z = quiet-part c is_rparen (λ a us h. quiet-rparen c a us h) ms (begins-with f) in
      args-back c xs ms ys q qs (k z x) (l y)
  step s c r xs ys t params-rest (ran-part {e = q} d k (ran-took {a = a} (ran-held h ran-gave))) = λ b.
      let (x, y) = both (binds_names is_free_name q) true b in
      params-rest-back c xs a ys q h (k (quiet-rparen c a ys h) x)
  step s c r xs ys t params-tail-end (ran-took {a = a} (ran-held h ran-gave)) = λ b.
      end-list c (ArgsTail false) a ys (by args-tail-end (took (held h gave)))
  step s c r xs ys t params-tail-more (ran-took {a = a} (ran-held h (ran-part {e = qs} d k ran-gave))) = λ b.
      let v = k b in record {
        tree = behind_comma a.span v.tree;
        pats = v.pats;
        read = by args-tail-more (took (held h (part v.read (held refl gave))));
        maps = λ m. elements-behind m a.span (comma_of v.tree) (items_of v.tree) ∙ v.maps m;
        same = v.same;
      }
  step s c r xs ys t pat-props-end (ran-took {a = a} (ran-held h ran-gave)) = λ b.
      end-props c Props a ys (by props-end (took (held h gave)))
  step s c r xs ys t pat-props-more (ran-part {e = q} {ms = ms} d k (ran-part {e = qs} f l ran-gave)) = λ b.
      let (x, y) = both (prop_binds_names is_free_name q) (props_bind_names is_free_name (items_of qs)) b in
      let z = quiet-part c is_rbrace (λ a us h. quiet-rbrace c a us h) ms (begins-with f) in
      props-back c xs ms ys q qs (k z x) (l y)
  step s c r xs ys t pat-props-rest (ran-part {e = q} d k (ran-held i (ran-took {a = a} (ran-held h ran-gave)))) = λ b.
      let (x, y) = both (prop_binds_names is_free_name q) true b in
      props-rest-back c xs a ys q h i (k (quiet-rbrace c a ys h) (rest-binds q i x))
  step s c r xs ys t pat-props-tail-end (ran-took {a = a} (ran-held h ran-gave)) = λ b.
      end-props c PropsTail a ys (by props-tail-end (took (held h gave)))
  step s c r xs ys t pat-props-tail-more (ran-took {a = a} (ran-held h (ran-part {e = qs} d k ran-gave))) = λ b.
      let v = k b in record {
        tree = behind_comma a.span v.tree;
        pats = v.pats;
        read = by props-tail-more (took (held h (part v.read gave)));
        maps = λ m. props-behind m a.span (comma_of v.tree) (items_of v.tree) ∙ v.maps m;
        same = v.same;
      }
  step s c r xs ys t pat-prop-key
      (ran-part {e = k} f u (ran-took {a = a} {xs = ms} (ran-held h (ran-part {e = q} d l ran-gave)))) =
      λ e b. key-back c k a xs ms ys q f h (l e b)
  step s c r xs ys t pat-prop-short (ran-took {a = a} w) = λ e b.
      let (n, h, g) = given-ran hook Law (any_name c a.token a.span) _ w in short-law c a n h g
  step s c r xs ys t pat-prop-default (ran-took {a = a} w) = λ e b.
      let (n, h, g) = given-ran hook Law (any_name c a.token a.span) _ w in cover-law c a n h g b
  step s c r xs ys t p d = tt

  returned : {s : Symbol} {c : Scope} {xs ys : List TokenAndSpan} {t : Answer F C K s} → Reads hook s c xs ys t
      → Law s c xs ys t
  returned d = every hook Law step d

  -- what is read as parameters is read in parentheses
  pub converse : (c : Scope) (xs ys : List TokenAndSpan) (qs : Tree F C K) → Reads hook Params c xs ys qs
      → all_bind_names is_free_name (items_of qs) ≡ true
      → (es : Tree F C K) × (ps : Trees F C K) × Reads hook (Args false) (with_in c) xs ys es × (as_params es ≡ Some ps)
      × (erase_all ps ≡ erase_all (items_of qs))
  converse c xs ys qs d b = let v = returned d b in (v.tree, v.pats, v.read, v.maps binding, v.same)
