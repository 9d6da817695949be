-- Primary expressions and templates: which production is picked, and that it may be run.
use Rattle.std.specs.Prelude.{◌≡◌, Bool, true, false, List, [], ◌∷◌, ◌++◌, Option, Some, None, codes, not, ◌&&◌, ◌||◌}
use Rattle.swc_context.specs.{Texts.is_text, declared.operator.AssignOp.AssignOp as assign, declared.operator.BinOpToken.BinOpToken as sign, declared.span.Span.Span, declared.word.Keyword.Keyword as keyword, declared.word.Word.Word as word}
use Rattle.std.proofs.Common.{refl, sym as sym_path, subst, ◌∙◌}
use Rattle.swc_input.specs.{declared.token.Token.Token, declared.token.Token.Token as token, declared.token.TokenAndSpan.TokenAndSpan, Kinds.at_token}
use Rattle.swc_ast.specs.Tree.{Tree}
use Rattle.swc_bodies.specs.Readings.{Hook, begins as begins_own, begins_function, is_function_here, is_function, is_async, is_class}
use Rattle.swc_grammar.specs.Scope.{Scope}
use Rattle.swc_grammar.specs.Tokens.{tk, with_in, is_reference, is_backquote, is_dollar_brace, is_slash, is_lparen}
use Rattle.swc_grammar.specs.Symbols.{Primary, Parts, Side, Symbol, Answer}
use Rattle.swc_grammar.specs.Parts.{reference, any_name, regex_of, text_of}
use Rattle.swc_grammar.specs.Grammar.{Production, ident-expr, paren-expr, primary-template, parts-end, parts-more, regex-alone, regex-slash, primary-literal, this-expr, array-lit, fn-expr, class-expr, object-lit, private-expr, async-ident, async-call}
use Rattle.swc_grammar.specs.Reads.{Follows, took, held, part, heard, calm}
use Rattle.swc_grammar.specs.Clean.{first, parts, pick, primary, is_lit, async_primary, is_lparen_here, Choice, chosen, pick_apart, plan, exec, run, no_arrow}
use Rattle.swc_grammar.specs.Rule.{take, check, peek, sees}
use Rattle.swc_grammar.specs.Arrows.{async_name, goes_on_async, is_bindable, before_of}
use Rattle.swc_grammar.proofs.Only.{backquote-is, brace-is, class-is, dollar-brace-is, hash-is, lbracket-is, lparen-is, this-is}
use Rattle.swc_grammar.proofs.Firsts.{given-held, begins, reference-first, async-token}
use Rattle.swc_grammar.proofs.Complete.Bools.{and-false, either-more, if-on, if-off}
use Rattle.swc_grammar.proofs.Complete.Sides.{Ready, ready-given, next-passes}
use Rattle.swc_grammar.proofs.{Answers.both, Complete.Stops.quiet-rbrace, Binds.apart-reads}

-- as a body begins, so does a list that goes on with more
here-more : (ts us : List TokenAndSpan) → is_function_here ts ≡ true → is_function_here (ts ++ us) ≡ true
here-more [] us h = absurd cc
here-more (t ∷ ts) us h = h

pub function-more : (ts us : List TokenAndSpan) → begins_function ts ≡ true → begins_function (ts ++ us) ≡ true
function-more [] us h = absurd cc
function-more (t ∷ ts) us h =
    either-more (is_function t.token) (is_async t.token) (is_function_here ts) (is_function_here (ts ++ us))
    (here-more ts us) h

class-more : (ts us : List TokenAndSpan) → begins_own is_class ts ≡ true → begins_own is_class (ts ++ us) ≡ true
class-more [] us h = absurd cc
class-more (t ∷ ts) us h = h

dollar-alone : (o : Option TokenAndSpan) → at_token is_dollar_brace o ≡ true → at_token is_backquote o ≡ false
dollar-alone None h = refl
dollar-alone (Some a) h = rw (dollar-brace-is a.token h) refl

module _ {F C K : Type 0} (hook : Hook F C K) where
  -- regular expressions
  regex-picks : (c : Scope) (t : Token) (b : Bool) (s : Span) (us : List TokenAndSpan) (e : Tree F C K)
      → regex_of t s ≡ Some e → primary {F = F} {C = C} {K = K} c (tk t b s ∷ us) ≡ pick regex-alone
  regex-picks c (token.Regex exp flags) b s us e h = refl
  regex-picks c t b s us e h = absurd cc

  slash-picks : (c : Scope) (t : Token) (b : Bool) (s : Span) (us : List TokenAndSpan) → is_slash t ≡ true
      → primary {F = F} {C = C} {K = K} c (tk t b s ∷ us) ≡ pick regex-slash
  slash-picks c (token.BinOp sign.Div) b s us h = refl
  slash-picks c (token.AssignOp assign.DivAssign) b s us h = refl
  slash-picks c t b s us h = absurd cc

  -- templates
  template-picks : (c : Scope) (xs : List TokenAndSpan) → at_token is_backquote (first xs) ≡ true
      → primary {F = F} {C = C} {K = K} c xs ≡ pick primary-template
  template-picks c [] h = absurd cc
  template-picks c (a ∷ us) h = rw (backquote-is a.token h) refl

  lit-token : (c : Scope) (t : Token) (b : Bool) (s : Span) (us : List TokenAndSpan) → is_lit t ≡ true
      → primary {F = F} {C = C} {K = K} c (tk t b s ∷ us) ≡ pick primary-literal
  lit-token c (token.Word word.Null) b s us h = refl
  lit-token c (token.Word word.True) b s us h = refl
  lit-token c (token.Word word.False) b s us h = refl
  lit-token c (token.Num raw) b s us h = refl
  lit-token c (token.BigInt raw) b s us h = refl
  lit-token c (token.Str value raw) b s us h = refl
  lit-token c t b s us h = absurd cc

  pub lit-picks : (c : Scope) (xs : List TokenAndSpan) → at_token is_lit (first xs) ≡ true
      → primary {F = F} {C = C} {K = K} c xs ≡ pick primary-literal
  lit-picks c [] h = absurd cc
  lit-picks c (a ∷ us) h = lit-token c a.token a.had_line_break a.span us h

  -- functions and classes, by the tokens that come first
  fn-token : (c : Scope) (t : Token) (b : Bool) (s : Span) (us : List TokenAndSpan)
      → begins_function (tk t b s ∷ us) ≡ true → primary {F = F} {C = C} {K = K} c (tk t b s ∷ us) ≡ pick fn-expr
  fn-token c (token.Word (word.Keyword keyword.Function)) b s us h = refl
  fn-token c (token.Word (word.Ident w)) b s us h =
      let (async, here) = both (is_text w (codes "async")) (is_function_here us) h in
      rw (async, here, and-false (is_reference c.context (word.Ident w))) refl
  fn-token c t b s us h = absurd cc

  pub fn-picks : (c : Scope) (xs : List TokenAndSpan) → begins_function xs ≡ true
      → primary {F = F} {C = C} {K = K} c xs ≡ pick fn-expr
  fn-picks c [] h = absurd cc
  fn-picks c (a ∷ us) h = fn-token c a.token a.had_line_break a.span us h

  pub class-picks : (c : Scope) (xs : List TokenAndSpan) → begins_own is_class xs ≡ true
      → primary {F = F} {C = C} {K = K} c xs ≡ pick class-expr
  class-picks c [] h = absurd cc
  class-picks c (a ∷ us) h = rw (class-is a.token h) refl

  -- `async`, by what is after it
  calm-case : (l f g p q : Bool) → (not l && (f || (g && (p || q)))) ≡ false
      → ((f && not l) ≡ false) × ((g && (not l && p)) ≡ false)
  calm-case true f g p q h = (and-false f, and-false g)
  calm-case false true g p q h = absurd cc
  calm-case false false true true q h = absurd cc
  calm-case false false true false q h = (refl, refl)
  calm-case false false false p q h = (refl, refl)

  pub calm-async : (c : Scope) (us : List TokenAndSpan) → sees (goes_on_async c) us ≡ false
      → (is_function_here us ≡ false) × ((c.head && is_lparen_here (first us)) ≡ false)
  calm-async c [] h = (refl, and-false c.head)
  calm-async c (t ∷ ts) h =
      calm-case t.had_line_break (is_function t.token) c.head (is_lparen t.token)
      (is_bindable c t.token && not (before_of c t.token)) h

  must-calm : {s : Symbol} {p : TokenAndSpan → Bool} {r : Side F C K s} {xs ys : List TokenAndSpan}
      {t : Answer F C K s} → Follows hook s (peek p r) xs ys t → sees p xs ≡ false
  must-calm (calm h d) = h

  no-function : (t : Token) (b : Bool) → is_lparen t ≡ true → (is_function t && b) ≡ false
  no-function t b h = rw (lparen-is t h) refl

  listed-next : {s : Symbol} {b : Bool} {r : TokenAndSpan → Side F C K s} (xs : List TokenAndSpan)
      {ys : List TokenAndSpan} {t : Answer F C K s}
      → Follows hook s (check b (take (λ a. check (not a.had_line_break) (check (is_lparen a.token) (r a))))) xs ys t
      → (b ≡ true) × (is_function_here xs ≡ false) × (is_lparen_here (first xs) ≡ true)
  listed-next xs (held x (took {a = a} (held h (held k d)))) =
      (x, no-function a.token (not a.had_line_break) k, rw (h, k) refl)

  pub async-picks-primary : (c : Scope) (a : TokenAndSpan) (us : List TokenAndSpan) → is_async a.token ≡ true
      → is_function_here us ≡ false → primary {F = F} {C = C} {K = K} c (a ∷ us) ≡ async_primary c (first us)
  async-picks-primary c a us h f = by-token a.token a.had_line_break a.span h
    where
      by-token : (t : Token) (b : Bool) (s : Span) → is_async t ≡ true
          → primary {F = F} {C = C} {K = K} c (tk t b s ∷ us) ≡ async_primary c (first us)
      by-token (token.Word (word.Ident w)) b s h = rw (h, f, and-false (is_reference c.context (word.Ident w))) refl
      by-token t b s h = absurd cc

  -- how a production is picked: after a list no `=>` may come next
  abbrev pub picking : {c : Scope} {r : Side F C K Primary} → Production Primary c r → Choice F C K Primary c
  picking paren-expr = pick_apart paren-expr
  picking async-call = pick_apart async-call
  picking p = pick p

  pub picked-reads : {c : Scope} {r : Side F C K Primary} (xs ys : List TokenAndSpan) (t : Tree F C K)
      (p : Production Primary c r) → no_arrow ys ≡ true → exec hook (run hook) (Some 8) (plan r) xs ≡ Some (t, ys)
      → exec hook (run hook) (Some 8) (chosen (picking p)) xs ≡ Some (t, ys)
  picked-reads {r = r} xs ys t paren-expr n d = apart-reads hook (run hook) (Some 8) (plan r) xs t ys d n
  picked-reads {r = r} xs ys t async-call n d = apart-reads hook (run hook) (Some 8) (plan r) xs t ys d n
  picked-reads xs ys t p n d = d

  pub picked-primary : {c : Scope} {r : Side F C K Primary} {xs ys : List TokenAndSpan} {t : Tree F C K}
      (p : Production Primary c r) → Follows hook Primary r xs ys t → primary c xs ≡ picking p
  picked-primary {c = c} ident-expr (took {a = a} d) =
      let (n, h, k) = given-held (reference c a.token a.span) _ d in rw (reference-first c a.token a.span n h).0 refl
  picked-primary {c = c} async-ident (took {a = a} {xs = us} d) =
      let (n, h, k) = given-held (async_name c a.token a.span) _ d in
      let (x, y) = calm-async c us (must-calm k) in
      async-picks-primary c a us (async-token c a.token a.span n h) x
      ∙ if-off (c.head && is_lparen_here (first us)) (pick_apart async-call) (pick async-ident) y
  picked-primary {c = c} async-call (took {a = a} {xs = us} d) =
      let (n, h, k) = given-held (async_name c a.token a.span) _ d in
      let (x, y, z) = listed-next us k in
      async-picks-primary c a us (async-token c a.token a.span n h) y
      ∙ if-on (c.head && is_lparen_here (first us)) (pick_apart async-call) (pick async-ident) (rw (x, z) refl)
  picked-primary {c = c} primary-literal (part {xs = xs} e d) = lit-picks c xs (begins e)
  picked-primary {c = c} regex-alone (took {a = a} {xs = us} d) =
      let (e, h, k) = given-held (regex_of a.token a.span) _ d in
      regex-picks c a.token a.had_line_break a.span us e h
  picked-primary {c = c} regex-slash (took {a = a} {xs = us} (held h d)) =
      slash-picks c a.token a.had_line_break a.span us h
  picked-primary {c = c} primary-template (part {xs = xs} e d) = template-picks c xs (begins e)
  picked-primary this-expr (took {a = a} (held h d)) = rw (this-is a.token h) refl
  picked-primary array-lit (took {a = a} (held h d)) = rw (lbracket-is a.token h) refl
  picked-primary {c = c} fn-expr (heard {ms = ms} h d) =
      subst (λ v. primary {F = F} {C = C} {K = K} c v ≡ pick fn-expr) (sym_path h.list)
      (fn-picks c (h.own ++ ms) (function-more h.own ms h.begins))
  picked-primary {c = c} class-expr (heard {ms = ms} h d) =
      subst (λ v. primary {F = F} {C = C} {K = K} c v ≡ pick class-expr) (sym_path h.list)
      (class-picks c (h.own ++ ms) (class-more h.own ms h.begins))
  picked-primary object-lit (took {a = a} (held h d)) = rw (brace-is a.token h) refl
  picked-primary paren-expr (took {a = a} (held h d)) = rw (lparen-is a.token h) refl
  picked-primary private-expr (took {a = a} (held h d)) = rw (hash-is a.token h) refl

  pub ready-primary : {c : Scope} {r : Side F C K Primary} (ys : List TokenAndSpan) → Production Primary c r
      → Ready (Some 8) ys r
  ready-primary ys (ident-expr {c = c}) = λ a. ready-given _ _ (reference c a.token a.span) _ (λ n h. tt)
  ready-primary ys (async-ident {c = c}) = λ a. ready-given _ _ (async_name c a.token a.span) _ (λ n h. tt)
  ready-primary ys (async-call {c = c}) = λ a. ready-given _ _ (async_name c a.token a.span) _
      (λ n h k b l p. (refl, λ es. (λ q. tt, λ q. tt)))
  ready-primary ys regex-alone = λ a. ready-given _ _ (regex_of a.token a.span) _ (λ e h. tt)
  ready-primary ys regex-slash = λ a h b. ready-given _ _ (regex_of b.token b.span) _ (λ e k. tt)
  ready-primary ys primary-template = (refl, λ e. (tt, tt))
  ready-primary ys this-expr = λ a h. tt
  ready-primary ys primary-literal = (refl, λ e. (tt, tt))
  ready-primary ys array-lit = λ a h. (refl, λ e. (tt, tt))
  ready-primary ys object-lit = λ a h. (refl, λ e. (tt, tt))
  ready-primary ys fn-expr = λ v s. tt
  ready-primary ys class-expr = λ v s. tt
  ready-primary ys paren-expr = λ a h. (refl, λ es. (λ n. tt, λ n. tt))
  ready-primary ys (private-expr {c = c}) = λ a h b. ready-given _ _ (any_name c b.token b.span) _ (λ n h1 x. tt)

  pub ready-parts : {c : Scope} {is_tagged : Bool} {r : Side F C K (Parts is_tagged)} (ys : List TokenAndSpan)
      → Production (Parts is_tagged) c r → Ready (Some 6) ys r
  ready-parts ys (parts-end {is_tagged = is_tagged}) =
      λ a. ready-given _ _ (text_of is_tagged true a.token a.span) _ (λ t h b k. tt)
  ready-parts ys (parts-more {c = c} {is_tagged = is_tagged}) =
      λ a. ready-given _ _ (text_of is_tagged false a.token a.span) _
      (λ t h b k. (refl, λ e. (λ d us j. quiet-rbrace (with_in c) d us j, λ d j. (refl, λ ps. (tt, tt)))))

  pub picked-parts : {c : Scope} {is_tagged : Bool} {r : Side F C K (Parts is_tagged)} {xs ys : List TokenAndSpan}
      {t : Tree F C K} (p : Production (Parts is_tagged) c r)
      → Follows hook (Parts is_tagged) r xs ys t → parts is_tagged c xs ≡ pick p
  picked-parts (parts-end {is_tagged = is_tagged}) (took {a = a} d) =
      let (t, h, k) = given-held (text_of is_tagged true a.token a.span) _ d in
      rw (next-passes hook is_backquote k) refl
  picked-parts (parts-more {is_tagged = is_tagged}) (took {a = a} {xs = us} d) =
      let (t, h, k) = given-held (text_of is_tagged false a.token a.span) _ d in
      rw (dollar-alone (first us) (next-passes hook is_dollar_brace k)) refl
