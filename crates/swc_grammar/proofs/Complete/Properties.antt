-- Properties of objects, and their keys: which production is picked, and that it may be run.
use Rattle.std.specs.Prelude.{◌≡◌, ℕ, Bool, true, false, ◌||◌, List, [], ◌∷◌, Option, Some, None, codes}
use Rattle.swc_context.specs.{Texts.is_text, declared.span.Span.Span, declared.word.Word.Word as word}
use Rattle.std.proofs.Common.{refl, sym as sym_path, subst}
use Rattle.std.proofs.lemmas.Bool.{eqb-true}
use Rattle.swc_input.specs.{declared.token.Token.Token, declared.token.Token.Token as token, declared.token.TokenAndSpan.TokenAndSpan, Kinds.at_token}
use Rattle.swc_ast.specs.Tree.{Tree}
use Rattle.swc_bodies.specs.Readings.{Hook, is_async}
use Rattle.swc_grammar.specs.Tokens.{tk, with_in, is_rbrace, is_lparen, is_colon, is_star, is_equals, is_question, is_word, is_get, is_set, ends_prop, follows_key}
use Rattle.swc_grammar.specs.Symbols.{Props, PropsTail, Prop, Key, AfterKey, Side}
use Rattle.swc_grammar.specs.Grammar.{Production, props-end, props-more, props-tail-end, props-tail-more, prop-spread, prop-short, prop-cover, prop-key, prop-generator, prop-async, prop-async-generator, prop-getter, prop-setter, after-value, after-shell, key-name, key-literal, key-computed}
use Rattle.swc_grammar.specs.Reads.{Reads, by, Follows, took, held, part}
use Rattle.swc_grammar.specs.Clean.{first, Stop, Choice, pick, props, props_tail, prop, key, after_key, prop_word}
use Rattle.swc_grammar.specs.{Scope.Scope, Parts.any_name, Parts.key_lit_of, Firsts.begins_key, Firsts.begins_prop}
use Rattle.swc_grammar.proofs.Only.{colon-is, comma-is, dots-is, equals-is, lbracket-is, lparen-is, rbrace-is, star-is}
use Rattle.swc_grammar.proofs.Firsts.{given-held, begins, name-first, async-word, get-word, set-word}
use Rattle.swc_grammar.proofs.Complete.Stops.{ends-prop-stop, expr-stop, quiet-rbracket}
use Rattle.swc_grammar.proofs.Complete.Sides.{Ready, ready-given, gave-all, checked-gave, next-passes, checked-next}
use Rattle.swc_grammar.proofs.{Answers.both, Complete.Bools.or-right}

-- Tests of the token after the first one of a property: at most one holds.
equals-apart : (o : Option TokenAndSpan) → at_token is_equals o ≡ true → at_token ends_prop o ≡ false
equals-apart None h = refl
equals-apart (Some a) h = rw (equals-is a.token h) refl

follows-apart : (o : Option TokenAndSpan) → at_token follows_key o ≡ true
    → (at_token ends_prop o ≡ false) × (at_token is_equals o ≡ false)
follows-apart None h = absurd cc
follows-apart (Some a) h = by-token a.token h
  where
    by-token : (t : Token) → follows_key t ≡ true → (ends_prop t ≡ false) × (is_equals t ≡ false)
    by-token token.Colon h = (refl, refl)
    by-token token.LParen h = (refl, refl)
    by-token t h = absurd cc

-- a token that begins a key, or `*`
abbrev begins_method : Token → Bool
begins_method t = begins_key t || is_star t

method-apart : (o : Option TokenAndSpan) → at_token begins_method o ≡ true
    → (at_token ends_prop o ≡ false) × (at_token is_equals o ≡ false) × (at_token follows_key o ≡ false)
    × (at_token is_question o ≡ false)
method-apart None h = absurd cc
method-apart (Some a) h = by-token a.token h
  where
    by-token : (t : Token) → begins_method t ≡ true
        → (ends_prop t ≡ false) × (is_equals t ≡ false) × (follows_key t ≡ false) × (is_question t ≡ false)
    by-token token.Comma h = absurd cc
    by-token token.RBrace h = absurd cc
    by-token (token.AssignOp o) h = absurd cc
    by-token token.Colon h = absurd cc
    by-token token.LParen h = absurd cc
    by-token token.QuestionMark h = absurd cc
    by-token t h = (refl, refl, refl, refl)

key-begins-method : (o : Option TokenAndSpan) → at_token begins_key o ≡ true
    → (at_token begins_method o ≡ true) × (at_token is_star o ≡ false)
key-begins-method None h = absurd cc
key-begins-method (Some a) h = by-token a.token h
  where
    by-token : (t : Token) → begins_key t ≡ true → (begins_method t ≡ true) × (is_star t ≡ false)
    by-token (token.BinOp b) h = absurd cc
    by-token t h = rw h (refl, refl)

star-begins-method : (o : Option TokenAndSpan) → at_token is_star o ≡ true → at_token begins_method o ≡ true
star-begins-method None h = absurd cc
star-begins-method (Some a) h = or-right (begins_key a.token) (is_star a.token) h

-- the words `get` and `async` are two
not-get : (w : List ℕ) → is_text w (codes "async") ≡ true → is_text w (codes "get") ≡ false
not-get [] h = absurd cc
not-get (x ∷ xs) h =
    let (a, rest) = both _ _ h in
    let same : x ≡ 97 = eqb-true x 97 a in
    rw same refl

not-get-token : (t : Token) → is_async t ≡ true → is_get t ≡ false
not-get-token (token.Word (word.Ident w)) h = not-get w h
not-get-token t h = absurd cc

-- nor are `set` and `async` one, or `set` and `get`
not-set : (w : List ℕ) → is_text w (codes "async") ≡ true → is_text w (codes "set") ≡ false
not-set [] h = absurd cc
not-set (x ∷ xs) h =
    let (a, rest) = both _ _ h in
    let same : x ≡ 97 = eqb-true x 97 a in
    rw same refl

not-set-token : (t : Token) → is_async t ≡ true → is_set t ≡ false
not-set-token (token.Word (word.Ident w)) h = not-set w h
not-set-token t h = absurd cc

set-not-get : (w : List ℕ) → is_text w (codes "set") ≡ true → is_text w (codes "get") ≡ false
set-not-get [] h = absurd cc
set-not-get (x ∷ xs) h =
    let (a, rest) = both _ _ h in
    let same : x ≡ 115 = eqb-true x 115 a in
    rw same refl

set-not-get-token : (t : Token) → is_set t ≡ true → is_get t ≡ false
set-not-get-token (token.Word (word.Ident w)) h = set-not-get w h
set-not-get-token t h = absurd cc

-- properties, keys and methods
not-brace-first : (xs : List TokenAndSpan) → at_token begins_prop (first xs) ≡ true
    → at_token is_rbrace (first xs) ≡ false
not-brace-first [] h = refl
not-brace-first (a ∷ us) h = by-token a.token h
  where
    by-token : (t : Token) → begins_prop t ≡ true → is_rbrace t ≡ false
    by-token token.RBrace h = absurd cc
    by-token t h = refl

not-colon-first : (xs : List TokenAndSpan) → at_token is_lparen (first xs) ≡ true → at_token is_colon (first xs) ≡ false
not-colon-first [] h = refl
not-colon-first (a ∷ us) h = rw (lparen-is a.token h) refl

module _ {F C K : Type 0} (hook : Hook F C K) where
  pub picked-props : {c : Scope} {r : Side F C K Props} {xs ys : List TokenAndSpan} {t : Tree F C K}
      (p : Production Props c r) → Follows hook Props r xs ys t → props c xs ≡ pick p
  picked-props props-end (took {a = a} (held h d)) = rw (rbrace-is a.token h) refl
  picked-props {c = c} props-more (part {xs = xs} e d) = rw (not-brace-first xs (begins e)) refl

  pub picked-props-tail : {c : Scope} {r : Side F C K PropsTail} {xs ys : List TokenAndSpan} {t : Tree F C K}
      (p : Production PropsTail c r) → Follows hook PropsTail r xs ys t → props_tail c xs ≡ pick p
  picked-props-tail props-tail-end (took {a = a} (held h d)) = rw (rbrace-is a.token h) refl
  picked-props-tail props-tail-more (took {a = a} (held h d)) = rw (comma-is a.token h) refl

  key-word : (c : Scope) (t : Token) (b : Bool) (s : Span) (us : List TokenAndSpan) → is_word t ≡ true
      → key {F = F} {C = C} {K = K} c (tk t b s ∷ us) ≡ pick key-name
  key-word c (token.Word w) b s us h = refl
  key-word c t b s us h = absurd cc

  key-lit-token : (c : Scope) (t : Token) (b : Bool) (s : Span) (us : List TokenAndSpan) (e : Tree F C K)
      → key_lit_of t s ≡ Some e → key {F = F} {C = C} {K = K} c (tk t b s ∷ us) ≡ pick key-literal
  key-lit-token c (token.Num raw) b s us e h = refl
  key-lit-token c (token.BigInt raw) b s us e h = refl
  key-lit-token c (token.Str value raw) b s us e h = refl
  key-lit-token c t b s us e h = absurd cc

  pub picked-key : {c : Scope} {r : Side F C K Key} {xs ys : List TokenAndSpan} {t : Tree F C K}
      (p : Production Key c r) → Follows hook Key r xs ys t → key c xs ≡ pick p
  picked-key {c = c} key-name (took {a = a} {xs = us} d) =
      let (n, h, k) = given-held (any_name c a.token a.span) _ d in
      key-word c a.token a.had_line_break a.span us (name-first c a.token a.span n h)
  picked-key {c = c} key-literal (took {a = a} {xs = us} d) =
      let (e, h, k) = given-held (key_lit_of a.token a.span) _ d in
      key-lit-token c a.token a.had_line_break a.span us e h
  picked-key key-computed (took {a = a} (held h d)) = rw (lbracket-is a.token h) refl

  pub picked-after : {c : Scope} {r : Side F C K AfterKey} {xs ys : List TokenAndSpan} {t : Tree F C K}
      (p : Production AfterKey c r) → Follows hook AfterKey r xs ys t → after_key c xs ≡ pick p
  picked-after after-value (took {a = a} (held h d)) = rw (colon-is a.token h) refl
  picked-after after-shell (part {xs = xs} e d) = rw (not-colon-first xs (begins e)) refl

  -- a property that begins with a word, by what is after it
  word-picks : (c : Scope) (a : TokenAndSpan) (us : List TokenAndSpan) (x : Choice F C K Prop c)
      → is_word a.token ≡ true → prop_word {F = F} {C = C} {K = K} {c = c} (Some a) (first us) ≡ x → prop c (a ∷ us) ≡ x
  word-picks c a us x h e = by-token a.token a.had_line_break a.span h e
    where
      by-token : (t : Token) (b : Bool) (s : Span) → is_word t ≡ true
          → prop_word {F = F} {C = C} {K = K} {c = c} (Some (tk t b s)) (first us) ≡ x → prop c (tk t b s ∷ us) ≡ x
      by-token (token.Word w) b s h e = e
      by-token t b s h e = absurd cc

  async-picks : (c : Scope) (a : TokenAndSpan) (us : List TokenAndSpan) → is_async a.token ≡ true
      → at_token begins_key (first us) ≡ true → prop {F = F} {C = C} {K = K} c (a ∷ us) ≡ pick prop-async
  async-picks c a us h g =
      let (m, n) = key-begins-method (first us) g in
      let (x, y, z, q) = method-apart (first us) m in
      word-picks c a us (pick prop-async) (async-word a.token h)
      (rw (x, y, z, q, not-get-token a.token h, not-set-token a.token h, h, n) refl)

  async-star-picks : (c : Scope) (a : TokenAndSpan) (us : List TokenAndSpan) → is_async a.token ≡ true
      → at_token is_star (first us) ≡ true → prop {F = F} {C = C} {K = K} c (a ∷ us) ≡ pick prop-async-generator
  async-star-picks c a us h g =
      let (x, y, z, q) = method-apart (first us) (star-begins-method (first us) g) in
      word-picks c a us (pick prop-async-generator) (async-word a.token h)
      (rw (x, y, z, q, not-get-token a.token h, not-set-token a.token h, h, g) refl)

  get-picks : (c : Scope) (a : TokenAndSpan) (us : List TokenAndSpan) → is_get a.token ≡ true
      → at_token begins_key (first us) ≡ true → prop {F = F} {C = C} {K = K} c (a ∷ us) ≡ pick prop-getter
  get-picks c a us h g =
      let (x, y, z, q) = method-apart (first us) (key-begins-method (first us) g).0 in
      word-picks c a us (pick prop-getter) (get-word a.token h) (rw (x, y, z, q, h) refl)

  set-picks : (c : Scope) (a : TokenAndSpan) (us : List TokenAndSpan) → is_set a.token ≡ true
      → at_token begins_key (first us) ≡ true → prop {F = F} {C = C} {K = K} c (a ∷ us) ≡ pick prop-setter
  set-picks c a us h g =
      let (x, y, z, q) = method-apart (first us) (key-begins-method (first us) g).0 in
      word-picks c a us (pick prop-setter) (set-word a.token h) (rw (x, y, z, q, set-not-get-token a.token h, h) refl)

  -- a key is a word, or the property is picked by its first token
  key-picks : {c : Scope} {xs ms : List TokenAndSpan} {k : Tree F C K} → Reads hook Key c xs ms k
      → at_token follows_key (first ms) ≡ true → prop {F = F} {C = C} {K = K} c xs ≡ pick prop-key
  key-picks {c = c} {ms = ms} (by key-name (took {a = a} {xs = us} d)) g =
      let (n, h, k) = given-held (any_name c a.token a.span) _ d in
      let same = gave-all hook k in
      let f = subst (λ v. at_token follows_key (first v) ≡ true) (sym_path same) g in
      let (x, y) = follows-apart (first us) f in
      word-picks c a us (pick prop-key) (name-first c a.token a.span n h) (rw (x, y, f) refl)
  key-picks {c = c} (by key-literal (took {a = a} {xs = us} d)) g =
      let (e, h, k) = given-held (key_lit_of a.token a.span) _ d in
      by-token a.token a.had_line_break a.span e h
    where
      by-token : (t : Token) (b : Bool) (s : Span) (e : Tree F C K) → key_lit_of t s ≡ Some e
          → prop {F = F} {C = C} {K = K} c (tk t b s ∷ us) ≡ pick prop-key
      by-token (token.Num raw) b s e h = refl
      by-token (token.BigInt raw) b s e h = refl
      by-token (token.Str value raw) b s e h = refl
      by-token t b s e h = absurd cc
  key-picks (by key-computed (took {a = a} (held h d))) g = rw (lbracket-is a.token h) refl

  pub picked-prop : {c : Scope} {r : Side F C K Prop} {xs ys : List TokenAndSpan} {t : Tree F C K}
      (p : Production Prop c r) → Stop Prop c ys → Follows hook Prop r xs ys t → prop c xs ≡ pick p
  picked-prop prop-spread stop (took {a = a} (held h d)) = rw (dots-is a.token h) refl
  picked-prop prop-generator stop (took {a = a} (held h d)) = rw (star-is a.token h) refl
  picked-prop {c = c} prop-short stop (took {a = a} {xs = us} d) =
      let (n, h, k) = given-held (any_name c a.token a.span) _ d in
      let e = subst (λ v. at_token ends_prop (first v) ≡ true) (sym_path (checked-gave hook k)) stop in
      word-picks c a us (pick prop-short) (name-first c a.token a.span n h) (rw e refl)
  picked-prop {c = c} prop-cover stop (took {a = a} {xs = us} d) =
      let (n, h, k) = given-held (any_name c a.token a.span) _ d in
      let e = checked-next hook is_equals k in
      word-picks c a us (pick prop-cover) (name-first c a.token a.span n h) (rw (equals-apart (first us) e, e) refl)
  picked-prop prop-key stop (part e (part e' d)) = key-picks e (begins e')
  picked-prop {c = c} prop-async stop (took {a = a} {xs = us} (held h (part e d))) = async-picks c a us h (begins e)
  picked-prop {c = c} prop-async-generator stop (took {a = a} {xs = us} (held h d)) =
      async-star-picks c a us h (next-passes hook is_star d)
  picked-prop {c = c} prop-getter stop (took {a = a} {xs = us} (held h (part e d))) = get-picks c a us h (begins e)
  picked-prop {c = c} prop-setter stop (took {a = a} {xs = us} (held h (part e d))) = set-picks c a us h (begins e)

  pub ready-props : {c : Scope} {r : Side F C K Props} (ys : List TokenAndSpan) → Production Props c r
      → Ready (Some 5) ys r
  ready-props ys props-end = λ a h. tt
  ready-props ys props-more = (refl, λ p. (λ a us h. h, (refl, λ ps. (tt, tt))))

  pub ready-props-tail : {c : Scope} {r : Side F C K PropsTail} (ys : List TokenAndSpan) → Production PropsTail c r
      → Ready (Some 2) ys r
  ready-props-tail ys props-tail-end = λ a h. tt
  ready-props-tail ys props-tail-more = λ a h. (refl, λ ps. (tt, tt))

  pub ready-prop : {c : Scope} {r : Side F C K Prop} (ys : List TokenAndSpan) → Stop Prop c ys → Production Prop c r
      → Ready (Some 4) ys r
  ready-prop ys stop (prop-spread {c = c}) = λ a h. (refl, λ e. (ends-prop-stop (with_in c) ys stop, tt))
  ready-prop ys stop (prop-short {c = c}) = λ a. ready-given _ _ (any_name c a.token a.span) _ (λ n h r. tt)
  ready-prop ys stop (prop-cover {c = c}) = λ a. ready-given _ _ (any_name c a.token a.span) _
      (λ n h r b k. (refl, λ e. (ends-prop-stop (with_in c) ys stop, tt)))
  ready-prop ys stop (prop-key {c = c}) =
      (refl, λ k. (λ a us h. tt, (refl, λ x. (ends-prop-stop (with_in c) ys stop, tt))))
  ready-prop ys stop prop-generator = λ a h. (refl, λ k. (λ b us g. tt, (refl, λ f. (tt, tt))))
  ready-prop ys stop prop-async = λ a h. (refl, λ k. (λ b us g. tt, (refl, λ f. (tt, tt))))
  ready-prop ys stop prop-async-generator = λ a h b j. (refl, λ k. (λ d us g. tt, (refl, λ f. (tt, tt))))
  ready-prop ys stop prop-getter = λ a h. (refl, λ k. (λ b us g. tt, (refl, λ f. (λ n. tt, λ n. tt))))
  ready-prop ys stop prop-setter = λ a h. (refl, λ k. (λ b us g. tt, (refl, λ f. (λ n. tt, λ n. tt))))

  pub ready-key : {c : Scope} {r : Side F C K Key} (ys : List TokenAndSpan) → Production Key c r → Ready (Some 3) ys r
  ready-key ys (key-name {c = c}) = λ a. ready-given _ _ (any_name c a.token a.span) _ (λ n h. tt)
  ready-key ys key-literal = λ a. ready-given _ _ (key_lit_of a.token a.span) _ (λ e h. tt)
  ready-key ys (key-computed {c = c}) =
      λ a h. (refl, λ e. (λ b us g. (expr-stop (with_in c) (b ∷ us) (quiet-rbracket (with_in c) b us g)).0, λ b g. tt))

  pub ready-after : {c : Scope} {r : Side F C K AfterKey} (ys : List TokenAndSpan) → Stop AfterKey c ys
      → Production AfterKey c r → Ready (Some 3) ys r
  ready-after ys stop after-value = λ a h. (refl, λ e. (stop, tt))
  ready-after ys stop after-shell = (refl, λ f. (tt, tt))
