-- Patterns and parameters: which production is picked, and that it may be run.
use Rattle.std.specs.Prelude.{◌≡◌, Bool, true, false, not, ◌&&◌, ◌||◌, List, [], ◌∷◌, Option, Some, None}
use Rattle.std.proofs.Common.{refl, sym as sym_path, subst, ◌∙◌}
use Rattle.swc_context.specs.declared.span.Span.{Span}
use Rattle.swc_input.specs.{declared.token.Token.Token, declared.token.Token.Token as token, declared.token.TokenAndSpan.TokenAndSpan, Kinds.at_token}
use Rattle.swc_ast.specs.Tree.{Tree}
use Rattle.swc_bodies.specs.Readings.{Hook}
use Rattle.swc_grammar.specs.Tokens.{tk, is_comma, is_rbracket, is_rbrace, is_dots, is_rparen, is_colon, is_equals, is_question, is_assign, ends_prop}
use Rattle.swc_grammar.specs.Symbols.{Pat, Element, PatElements, PatElementsTail, PatProps, PatPropsTail, PatProp, Params, ParamsTail, Key, Side}
use Rattle.swc_grammar.specs.Parts.{binding, any_name, key_lit_of}
use Rattle.swc_grammar.specs.Grammar.{Production, key-name, key-literal, key-computed, pat-bind, pat-array, pat-object, pat-elements-end, pat-elements-hole, pat-elements-more, pat-elements-rest, pat-tail-end, pat-tail-more, pat-props-end, pat-props-more, pat-props-rest, pat-props-tail-end, pat-props-tail-more, pat-prop-key, pat-prop-short, pat-prop-default, params-end, params-more, params-rest, params-tail-end, params-tail-more}
use Rattle.swc_grammar.specs.Reads.{Reads, by, Follows, took, held, part}
use Rattle.swc_grammar.specs.Clean.{first, sym, defaults, ends_unary, no_assign_at, ends_assign, Stop, pick, pat, pat_elements, pat_tail, pat_props, pat_props_tail, pat_prop, params, params_tail, run}
use Rattle.swc_grammar.specs.{Scope.Scope, Names.Spelling, Firsts.begins_pat, Firsts.begins_key}
use Rattle.swc_grammar.proofs.Only.{brace-is, comma-is, dots-is, equals-is, lbracket-is, rbrace-is, rbracket-is, rparen-is}
use Rattle.swc_grammar.proofs.Firsts.{given-held, begins, name-first, or-left}
use Rattle.swc_grammar.proofs.Complete.Sides.{Ready, ready-given, gave-all, checked-gave, next-passes, last}
use Rattle.swc_grammar.proofs.{Answers.both, Knot.knot}

-- What a list's part, dots or a key begins with doesn't close the list, nor is it another of these.
no-list-first : (c : Scope) (xs : List TokenAndSpan) → at_token (begins_pat c) (first xs) ≡ true
    → (at_token is_comma (first xs) ≡ false) × (at_token is_rbracket (first xs) ≡ false)
    × (at_token is_dots (first xs) ≡ false) × (at_token is_rparen (first xs) ≡ false)
no-list-first c [] h = absurd cc
no-list-first c (a ∷ us) h = by-token a.token h
  where
    by-token : (t : Token) → begins_pat c t ≡ true
        → (is_comma t ≡ false) × (is_rbracket t ≡ false) × (is_dots t ≡ false) × (is_rparen t ≡ false)
    by-token token.Comma h = absurd cc
    by-token token.RBracket h = absurd cc
    by-token token.DotDotDot h = absurd cc
    by-token token.RParen h = absurd cc
    by-token t h = (refl, refl, refl, refl)

dots-first : (xs : List TokenAndSpan) → at_token is_dots (first xs) ≡ true
    → (at_token is_comma (first xs) ≡ false) × (at_token is_rbracket (first xs) ≡ false)
    × (at_token is_rbrace (first xs) ≡ false) × (at_token is_rparen (first xs) ≡ false)
dots-first [] h = absurd cc
dots-first (a ∷ us) h = rw (dots-is a.token h) (refl, refl, refl, refl)

no-brace-key : (xs : List TokenAndSpan) → at_token begins_key (first xs) ≡ true
    → (at_token is_rbrace (first xs) ≡ false) × (at_token is_dots (first xs) ≡ false)
no-brace-key [] h = (refl, refl)
no-brace-key (a ∷ us) h = by-token a.token h
  where
    by-token : (t : Token) → begins_key t ≡ true → (is_rbrace t ≡ false) × (is_dots t ≡ false)
    by-token token.RBrace h = absurd cc
    by-token token.DotDotDot h = absurd cc
    by-token t h = (refl, refl)

-- no `=` comes next
no-equals-at : (o : Option TokenAndSpan) → no_assign_at o ≡ true → at_token is_equals o ≡ false
no-equals-at None h = refl
no-equals-at (Some a) h = by-token a.token h
  where
    by-token : (t : Token) → (not (is_question t) && not (is_assign t)) ≡ true → is_equals t ≡ false
    by-token (token.AssignOp o) h = absurd cc
    by-token t h = refl

pub no-equals : (ys : List TokenAndSpan) → ends_assign ys ≡ true → at_token is_equals (first ys) ≡ false
no-equals ys h = no-equals-at (first ys) (both (ends_unary ys) (no_assign_at (first ys)) h).1

equals-colon : (o : Option TokenAndSpan) → at_token is_equals o ≡ true → at_token is_colon o ≡ false
equals-colon None h = absurd cc
equals-colon (Some a) h = rw (equals-is a.token h) refl

-- no element and no property goes on with what is after it in its list
quiet-element : (c : Scope) (a : TokenAndSpan) (us : List TokenAndSpan)
    → ((is_comma a.token || is_rbracket a.token) || is_rparen a.token) ≡ true → Stop Element c (a ∷ us)
quiet-element c a us h = by-token a.token a.had_line_break a.span h
  where
    by-token : (t : Token) (b : Bool) (s : Span) → ((is_comma t || is_rbracket t) || is_rparen t) ≡ true
        → Stop Element c (tk t b s ∷ us)
    by-token token.Comma b s h = (refl, λ op k. absurd cc)
    by-token token.RBracket b s h = (refl, λ op k. absurd cc)
    by-token token.RParen b s h = (refl, λ op k. absurd cc)
    by-token t b s h = absurd cc

params-ends : (t : Token) → (is_comma t || is_rparen t) ≡ true → ((is_comma t || is_rbracket t) || is_rparen t) ≡ true
params-ends token.Comma h = refl
params-ends token.RParen h = refl
params-ends t h = absurd cc

quiet-pat-prop : (c : Scope) (a : TokenAndSpan) (us : List TokenAndSpan) → ends_prop a.token ≡ true
    → Stop PatProp c (a ∷ us)
quiet-pat-prop c a us h = by-token a.token a.had_line_break a.span h
  where
    by-token : (t : Token) (b : Bool) (s : Span) → ends_prop t ≡ true → Stop PatProp c (tk t b s ∷ us)
    by-token token.Comma b s h = (refl, λ op k. absurd cc, refl)
    by-token token.RBrace b s h = (refl, λ op k. absurd cc, refl)
    by-token t b s h = absurd cc

module _ {F C K : Type 0} (hook : Hook F C K) where
  bind-picks : (c : Scope) (t : Token) (b : Bool) (s : Span) (us : List TokenAndSpan) (n : Spelling)
      → binding c t s ≡ Some n → pat {F = F} {C = C} {K = K} c (tk t b s ∷ us) ≡ pick pat-bind
  bind-picks c (token.Word w) b s us n h = refl
  bind-picks c t b s us n h = absurd cc

  pub picked-pat : {c : Scope} {r : Side F C K Pat} {xs ys : List TokenAndSpan} {t : Tree F C K}
      (p : Production Pat c r) → Follows hook Pat r xs ys t → pat c xs ≡ pick p
  picked-pat {c = c} pat-bind (took {a = a} {xs = us} d) =
      let (n, h, k) = given-held (binding c a.token a.span) _ d in
      bind-picks c a.token a.had_line_break a.span us n h
  picked-pat pat-array (took {a = a} (held h d)) = rw (lbracket-is a.token h) refl
  picked-pat pat-object (took {a = a} (held h d)) = rw (brace-is a.token h) refl

  pub picked-pat-elements : {c : Scope} {r : Side F C K PatElements} {xs ys : List TokenAndSpan} {t : Tree F C K}
      (p : Production PatElements c r) → Follows hook PatElements r xs ys t → pat_elements c xs ≡ pick p
  picked-pat-elements pat-elements-end (took {a = a} (held h d)) = rw (rbracket-is a.token h) refl
  picked-pat-elements pat-elements-hole (took {a = a} (held h d)) = rw (comma-is a.token h) refl
  picked-pat-elements {c = c} pat-elements-more (part {xs = xs} e d) =
      let (x, y, z, w) = no-list-first c xs (begins e) in rw (x, y, z) refl
  picked-pat-elements pat-elements-rest (part {xs = xs} e d) =
      let (x, y, z, w) = dots-first xs (begins e) in rw (x, y, begins e) refl

  pub picked-pat-tail : {c : Scope} {r : Side F C K PatElementsTail} {xs ys : List TokenAndSpan} {t : Tree F C K}
      (p : Production PatElementsTail c r) → Follows hook PatElementsTail r xs ys t → pat_tail c xs ≡ pick p
  picked-pat-tail pat-tail-end (took {a = a} (held h d)) = rw (rbracket-is a.token h) refl
  picked-pat-tail pat-tail-more (took {a = a} (held h d)) = rw (comma-is a.token h) refl

  pub picked-pat-props : {c : Scope} {r : Side F C K PatProps} {xs ys : List TokenAndSpan} {t : Tree F C K}
      (p : Production PatProps c r) → Follows hook PatProps r xs ys t → pat_props c xs ≡ pick p
  picked-pat-props pat-props-end (took {a = a} (held h d)) = rw (rbrace-is a.token h) refl
  picked-pat-props pat-props-more (part {xs = xs} e d) = let (x, y) = no-brace-key xs (begins e) in rw (x, y) refl
  picked-pat-props pat-props-rest (part {xs = xs} e d) =
      let (x, y, z, w) = dots-first xs (begins e) in rw (z, begins e) refl

  pub picked-pat-props-tail : {c : Scope} {r : Side F C K PatPropsTail} {xs ys : List TokenAndSpan} {t : Tree F C K}
      (p : Production PatPropsTail c r) → Follows hook PatPropsTail r xs ys t → pat_props_tail c xs ≡ pick p
  picked-pat-props-tail pat-props-tail-end (took {a = a} (held h d)) = rw (rbrace-is a.token h) refl
  picked-pat-props-tail pat-props-tail-more (took {a = a} (held h d)) = rw (comma-is a.token h) refl

  -- a property whose key is a word, by what is after that; any other, by its first token
  key-pat-picks : {c : Scope} {xs ms : List TokenAndSpan} {k : Tree F C K} → Reads hook Key c xs ms k
      → at_token is_colon (first ms) ≡ true → pat_prop {F = F} {C = C} {K = K} c xs ≡ pick pat-prop-key
  key-pat-picks {c = c} {ms = ms} (by key-name (took {a = a} {xs = us} d)) g =
      let (n, h, k) = given-held (any_name c a.token a.span) _ d in
      let f = subst (λ v. at_token is_colon (first v) ≡ true) (sym_path (gave-all hook k)) g in
      rw (name-first c a.token a.span n h, f) refl
  key-pat-picks {c = c} (by key-literal (took {a = a} {xs = us} d)) g =
      let (e, h, k) = given-held (key_lit_of a.token a.span) _ d in
      by-token a.token a.had_line_break a.span e h
    where
      by-token : (t : Token) (b : Bool) (s : Span) (e : Tree F C K) → key_lit_of t s ≡ Some e
          → pat_prop {F = F} {C = C} {K = K} c (tk t b s ∷ us) ≡ pick pat-prop-key
      by-token (token.Num raw) b s e h = refl
      by-token (token.BigInt raw) b s e h = refl
      by-token (token.Str value raw) b s e h = refl
      by-token t b s e h = absurd cc
  key-pat-picks (by key-computed (took {a = a} (held h d))) g = rw (lbracket-is a.token h) refl

  pub picked-pat-prop : {c : Scope} {r : Side F C K PatProp} {xs ys : List TokenAndSpan} {t : Tree F C K}
      (p : Production PatProp c r) → Stop PatProp c ys → Follows hook PatProp r xs ys t → pat_prop c xs ≡ pick p
  picked-pat-prop pat-prop-key stop (part e (took (held h d))) = key-pat-picks e h
  picked-pat-prop {c = c} {ys = ys} pat-prop-short stop (took {a = a} {xs = us} d) =
      let (n, h, k) = given-held (any_name c a.token a.span) _ d in
      let e = sym_path (checked-gave hook k) in
      let x = subst (λ v. at_token is_colon (first v) ≡ false) e stop.2 in
      let y = subst (λ v. at_token is_equals (first v) ≡ false) e (no-equals ys stop.0) in
      rw (name-first c a.token a.span n h, x, y) refl
  picked-pat-prop {c = c} pat-prop-default stop (took {a = a} {xs = us} d) =
      let (n, h, k) = given-held (any_name c a.token a.span) _ d in
      let e = next-passes hook is_equals k in
      rw (name-first c a.token a.span n h, equals-colon (first us) e, e) refl

  pub picked-params : {c : Scope} {r : Side F C K Params} {xs ys : List TokenAndSpan} {t : Tree F C K}
      (p : Production Params c r) → Follows hook Params r xs ys t → params c xs ≡ pick p
  picked-params params-end (took {a = a} (held h d)) = rw (rparen-is a.token h) refl
  picked-params {c = c} params-more (part {xs = xs} e d) =
      let (x, y, z, w) = no-list-first c xs (begins e) in rw (w, z) refl
  picked-params params-rest (part {xs = xs} e d) =
      let (x, y, z, w) = dots-first xs (begins e) in rw (w, begins e) refl

  pub picked-params-tail : {c : Scope} {r : Side F C K ParamsTail} {xs ys : List TokenAndSpan} {t : Tree F C K}
      (p : Production ParamsTail c r) → Follows hook ParamsTail r xs ys t → params_tail c xs ≡ pick p
  picked-params-tail params-tail-end (took {a = a} (held h d)) = rw (rparen-is a.token h) refl
  picked-params-tail params-tail-more (took {a = a} (held h d)) = rw (comma-is a.token h) refl

  pub ready-pat : {c : Scope} {r : Side F C K Pat} (ys : List TokenAndSpan) → Production Pat c r → Ready (Some 2) ys r
  ready-pat ys (pat-bind {c = c}) = λ a. ready-given _ _ (binding c a.token a.span) _ (λ n h. tt)
  ready-pat ys pat-array = λ a h. (refl, λ e. (tt, tt))
  ready-pat ys pat-object = λ a h. (refl, λ e. (tt, tt))

  pub ready-pat-elements : {c : Scope} {r : Side F C K PatElements} (ys : List TokenAndSpan)
      → Production PatElements c r → Ready (Some 4) ys r
  ready-pat-elements ys pat-elements-end = λ a h. tt
  ready-pat-elements ys pat-elements-hole = λ a h. (refl, λ e. (tt, tt))
  ready-pat-elements ys (pat-elements-more {c = c}) = (
    refl,
    λ p. (
      λ a us h. quiet-element c a us (or-left (is_comma a.token || is_rbracket a.token) (is_rparen a.token) h),
      (refl, λ es. (tt, tt)),
    ),
  )
  ready-pat-elements ys pat-elements-rest = (refl, λ p. (λ a us h. tt, λ a h. tt))

  pub ready-pat-tail : {c : Scope} {r : Side F C K PatElementsTail} (ys : List TokenAndSpan)
      → Production PatElementsTail c r → Ready (Some 2) ys r
  ready-pat-tail ys pat-tail-end = λ a h. tt
  ready-pat-tail ys pat-tail-more = λ a h. (refl, λ e. (tt, tt))

  pub ready-pat-props : {c : Scope} {r : Side F C K PatProps} (ys : List TokenAndSpan) → Production PatProps c r
      → Ready (Some 5) ys r
  ready-pat-props ys pat-props-end = λ a h. tt
  ready-pat-props ys (pat-props-more {c = c}) = (refl, λ p. (λ a us h. quiet-pat-prop c a us h, (refl, λ ps. (tt, tt))))
  ready-pat-props ys pat-props-rest = (refl, λ p. (λ i a us h. tt, λ i a h. tt))

  pub ready-pat-props-tail : {c : Scope} {r : Side F C K PatPropsTail} (ys : List TokenAndSpan)
      → Production PatPropsTail c r → Ready (Some 2) ys r
  ready-pat-props-tail ys pat-props-tail-end = λ a h. tt
  ready-pat-props-tail ys pat-props-tail-more = λ a h. (refl, λ ps. (tt, tt))

  pub ready-pat-prop : {c : Scope} {r : Side F C K PatProp} (ys : List TokenAndSpan) → Stop PatProp c ys
      → Production PatProp c r → Ready (Some 4) ys r
  ready-pat-prop ys stop pat-prop-key = (refl, λ k. (λ a us h. tt, λ a h. (refl, λ p. ((stop.0, stop.1), tt))))
  ready-pat-prop ys stop (pat-prop-short {c = c}) = λ a. ready-given _ _ (any_name c a.token a.span) _ (λ n h r. tt)
  ready-pat-prop ys stop (pat-prop-default {c = c}) = λ a. ready-given _ _ (any_name c a.token a.span) _
      (λ n h b k. (refl, λ e. ((stop.0, stop.1), tt)))

  pub ready-params : {c : Scope} {r : Side F C K Params} (ys : List TokenAndSpan) → Production Params c r
      → Ready (Some 4) ys r
  ready-params ys params-end = λ a h. tt
  ready-params ys (params-more {c = c}) =
      (refl, λ p. (λ a us h. quiet-element c a us (params-ends a.token h), (refl, λ es. (tt, tt))))
  ready-params ys params-rest = (refl, λ p. (λ a us h. tt, λ a h. tt))

  pub ready-params-tail : {c : Scope} {r : Side F C K ParamsTail} (ys : List TokenAndSpan) → Production ParamsTail c r
      → Ready (Some 2) ys r
  ready-params-tail ys params-tail-end = λ a h. tt
  ready-params-tail ys params-tail-more = λ a h. (refl, λ e. (tt, tt))

  -- a pattern, at `=`
  pub element-reads : (c : Scope) (xs ms : List TokenAndSpan) (p : Tree F C K)
      → run hook (sym Pat) c xs ≡ Some (p, ms) → run hook (sym Element) c xs ≡ run hook (defaults p) c ms
  element-reads c xs ms p d = knot hook (sym Element) c xs ∙ rw d (last hook (Some 3) (defaults p) c ms refl)
