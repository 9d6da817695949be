-- What a reading begins with; so it takes a token at least.
use Rattle.std.specs.Prelude.{◌≡◌, Bool, true, false, ◌&&◌, ◌||◌, not, suc, ◌≤◌, length, List, ◌∷◌, ◌++◌, [], Option, Some, None, codes, if◌then◌else◌}
use Rattle.std.proofs.Common.{refl, sym, ap, subst, arith}
use Rattle.std.proofs.lemmas.List.{length-append}
use Rattle.swc_context.specs.{Contexts.arrow_body, Texts.is_text, Texts.is_one_of, declared.operator.AssignOp.AssignOp as assign, declared.operator.BinOpToken.BinOpToken as sign, declared.operator.UnaryOp.UnaryOp, declared.operator.UpdateOp.UpdateOp, declared.span.Span.Span, declared.word.Keyword.Keyword as keyword, declared.word.Word.Word as word, declared.word.Word.Word, Words.word_text, Reserved.strict_binding_words}
use Rattle.swc_input.specs.{declared.token.Token.Token, declared.token.Token.Token as token, declared.token.TokenAndSpan.TokenAndSpan, Kinds.at_token}
use Rattle.swc_ast.specs.Tree.{Tree}
use Rattle.swc_grammar.specs.Scope.{Scope, in_context}
use Rattle.swc_grammar.specs.Rule.{Rule, gives, never, take, check, peek, read, hear, given, ◌>>=◌, peek_two}
use Rattle.swc_grammar.specs.Symbols.{Symbol, Answer, Body, Value, begins_body, Side, ArrowBody}
use Rattle.swc_grammar.specs.Names.{Spelling, may_refer, may_bind}
use Rattle.swc_grammar.specs.Tokens.{prefix_of, is_reference, ref_ok, is_put_off, is_comma, is_rbracket, is_lbracket, is_dots, is_rbrace, is_colon, is_lparen, is_rparen, is_star, is_word, is_get, is_set, is_new, is_super, is_import, is_slash, is_update, is_await, is_yield, yield_ok, opening, is_operand_opening, is_yield_opening}
use Rattle.swc_grammar.specs.Parts.{reference, binding, any_name, lit_of, regex_of, text_of, key_lit_of, with_place, prefix_here, update_here}
use Rattle.swc_grammar.specs.Grammar.{Production, ident-expr, lit, paren-expr, unary-left, unary-op, exp-unary, base-primary, super-name, super-computed, super-call, import-meta, import-call, import-source, left-base, member-name, member-private, member-computed, call, args-end, args-more, args-tail-end, args-tail-more, lhs-left, new-bare, left-new, new-target, chain-name, chain-private, chain-computed, chain-call, tagged-tpl, arguments, primary-template, template, parts-end, parts-more, regex-alone, regex-slash, exp-op, primary-literal, this-expr, array-lit, elements-end, elements-hole, elements-more, tail-end, tail-more, item-expr, item-spread, fn-expr, class-expr, object-lit, props-end, props-more, props-tail-end, props-tail-more, prop-spread, prop-short, prop-cover, prop-key, prop-generator, prop-async, prop-async-generator, prop-getter, prop-setter, after-value, after-shell, shell-block, key-name, key-literal, key-computed, level-up, bin-op, private-expr, private-in, assign-level, update-postfix, update-prefix, await-expr, await-ident, cond-expr, assign-expr, yield-alone, yield-expr, yield-star, exprs-one, exprs-more, seq-expr, pat-bind, pat-array, pat-object, element-pat, element-default, pat-rest, pat-elements-end, pat-elements-hole, pat-elements-more, pat-elements-rest, pat-tail-end, pat-tail-more, pat-props-end, pat-props-more, pat-props-rest, pat-props-tail-end, pat-props-tail-more, pat-prop-key, pat-prop-short, pat-prop-default, params-end, params-more, params-rest, params-tail-end, params-tail-more, assign-pattern, covered-params, async-ident, async-call, arrow-async-name, arrow-async-params, arrow-name, arrow-params, body-block, body-expr}
use Rattle.swc_grammar.specs.Reads.{Reads, by, Follows, gave, took, held, calm, part, heard, calm-two}
use Rattle.swc_grammar.specs.Clean.{first, is_lit, is_identifier, is_alone}
use Rattle.swc_grammar.specs.Firsts.{is_first, starts, begins_primary, begins_left, is_left_word, begins_operand, begins_expression, begins_key, begins_prop, is_text_token, begins_pat, is_name_bound}
use Rattle.swc_grammar.specs.Arrows.{arrow_name, binds_alone, async_name, is_arrow_word}
use Rattle.swc_bodies.specs.Readings.{Hook, is_brace, is_function, is_async, is_class, is_function_here, begins as begins_own, begins_function}
use Rattle.swc_grammar.proofs.Only.{backquote-is, brace-is, class-is, colon-is, comma-is, dots-is, hash-is, import-is, lbracket-is, lparen-is, new-is, rbrace-is, rbracket-is, rparen-is, star-is, super-is, this-is}
use Rattle.swc_grammar.proofs.{Answers.both, Bodies.body-some, Cut.follows-length}

-- X holds where the rest of a side, after the token that it tests, can be followed
abbrev pub Under : {F C K A : Type 0} → Type 0 → Rule Symbol (Answer F C K) Body (Value F C K) A → Type 0
Under X (check b r) = b ≡ true → Under X r
Under X never = Unit {0}
Under X r = X

-- the tokens with which a side begins pass the test P
abbrev pub Opens : {F C K A : Type 0} → (Token → Bool) → Rule Symbol (Answer F C K) Body (Value F C K) A → Type 0
Opens P (gives a) = ⊥
Opens P never = Unit {0}
Opens P (take f) = (a : TokenAndSpan) → Under (P a.token ≡ true) (f a)
Opens P (check b r) = b ≡ true → Opens P r
Opens P (peek p r) = Opens P r
Opens P (peek_two p r) = Opens P r
Opens P (read s c f) = (t : Token) → starts s c t ≡ true → P t ≡ true
Opens P (hear b c f) = (own : List TokenAndSpan) → begins_body b own ≡ true → at_token P (first own) ≡ true

pub or-left : (a b : Bool) → a ≡ true → (a || b) ≡ true
or-left true b h = refl
or-left false b h = absurd cc

pub or-right : (a b : Bool) → b ≡ true → (a || b) ≡ true
or-right true b h = refl
or-right false b h = h

pub lit-first : {F C K : Type 0} (t : Token) (s : Span) (e : Tree F C K) → lit_of t s ≡ Some e → is_lit t ≡ true
lit-first (token.Word word.Null) s e h = refl
lit-first (token.Word word.True) s e h = refl
lit-first (token.Word word.False) s e h = refl
lit-first (token.Num raw) s e h = refl
lit-first (token.BigInt raw) s e h = refl
lit-first (token.Str value raw) s e h = refl
lit-first t s e h = absurd cc

-- a token with which a primary expression begins, in any context
by-first : (c : Scope) (t : Token) → is_first t ≡ true → begins_primary c t ≡ true
by-first c t h = or-right (is_identifier c.context t) (is_first t) h

pub lit-is-first : (t : Token) → is_lit t ≡ true → is_first t ≡ true
lit-is-first (token.Word word.Null) h = refl
lit-is-first (token.Word word.True) h = refl
lit-is-first (token.Word word.False) h = refl
lit-is-first (token.Num raw) h = refl
lit-is-first (token.BigInt raw) h = refl
lit-is-first (token.Str value raw) h = refl
lit-is-first t h = absurd cc

pub regex-first : {F C K : Type 0} (t : Token) (s : Span) (e : Tree F C K) → regex_of t s ≡ Some e → is_first t ≡ true
regex-first (token.Regex exp flags) s e h = refl
regex-first t s e h = absurd cc

slash-first : (t : Token) → is_slash t ≡ true → is_first t ≡ true
slash-first (token.BinOp sign.Div) h = refl
slash-first (token.AssignOp assign.DivAssign) h = refl
slash-first t h = absurd cc

-- a text of a template
pub text-first : {F C K : Type 0} (is_tagged is_last : Bool) (t : Token) (s : Span) (e : Tree F C K)
    → text_of is_tagged is_last t s ≡ Some e → is_text_token t ≡ true
text-first is_tagged is_last (token.Template raw cooked) s e h = refl
text-first is_tagged is_last t s e h = absurd cc

-- a function begins with `function` or `async`, a class with `class`
is-first-of-function : (t : Token) (b : Bool) → (is_function t || (is_async t && b)) ≡ true → is_first t ≡ true
is-first-of-function (token.Word (word.Keyword keyword.Function)) b h = refl
is-first-of-function (token.Word (word.Ident w)) b h = (both (is_text w (codes "async")) b h).0
is-first-of-function t b h = absurd cc

function-first : (c : Scope) (own : List TokenAndSpan) → begins_function own ≡ true
    → at_token (begins_primary c) (first own) ≡ true
function-first c [] h = absurd cc
function-first c (t ∷ ts) h = by-first c t.token (is-first-of-function t.token (is_function_here ts) h)

class-first : (c : Scope) (own : List TokenAndSpan) → begins_own is_class own ≡ true
    → at_token (begins_primary c) (first own) ≡ true
class-first c [] h = absurd cc
class-first c (t ∷ ts) h = by-first c t.token (rw (class-is t.token h) refl)

passed : {A : Type 0} (b : Bool) (a x : A) → (if b then Some a else None) ≡ Some x → b ≡ true
passed true a x h = refl
passed false a x h = absurd cc

pub placed-op : {A : Type 0} (o : Option A) (s : Span) (op : A) (s' : Span) → with_place o s ≡ Some (op, s')
    → o ≡ Some op
placed-op None s op s' h = absurd cc
placed-op {A = A} (Some op') s op s' h =
    let x : A × Span = (op', s) in
    let y : A × Span = (op, s') in
    let same : x ≡ y = cc in
    ap (λ v. Some v.0) same

at-every : (Q P : Token → Bool) (o : Option TokenAndSpan) → ((t : Token) → Q t ≡ true → P t ≡ true)
    → at_token Q o ≡ true → at_token P o ≡ true
at-every Q P None f h = absurd cc
at-every Q P (Some t) f h = f t.token h

pub reference-first : (c : Scope) (t : Token) (s : Span) (n : Spelling) → reference c t s ≡ Some n
    → (is_identifier c.context t ≡ true) × (begins_primary c t ≡ true)
reference-first c (token.Word w) s n h =
    let k = passed (may_refer c.context w && not (is_put_off w)) _ n h in
    let (a, b) = both (may_refer c.context w) (not (is_put_off w)) k in
    let (d, e) = both (is_reference c.context w) (ref_ok c.context w) a in
    let own : is_identifier c.context (token.Word w) ≡ true = rw (d, b) refl in
    (own, or-left (is_identifier c.context (token.Word w)) (is_first (token.Word w)) own)
reference-first c t s n h = absurd cc

-- arrow functions
pub put-token : (w : Word) → is_put_off w ≡ true → is_async (token.Word w) ≡ true
put-token (word.Ident w) h = h
put-token w h = absurd cc

put-first : (w : Word) → is_put_off w ≡ true → is_first (token.Word w) ≡ true
put-first (word.Ident w) h = h
put-first w h = absurd cc

pub async-token : (c : Scope) (t : Token) (s : Span) (n : Spelling) → async_name c t s ≡ Some n → is_async t ≡ true
async-token c (token.Word w) s n h =
    put-token w (both (may_refer c.context w) (is_put_off w) (passed (may_refer c.context w && is_put_off w) _ n h)).1
async-token c t s n h = absurd cc

pub async-first : (c : Scope) (t : Token) (s : Span) (n : Spelling) → async_name c t s ≡ Some n
    → begins_primary c t ≡ true
async-first c (token.Word w) s n h =
    by-first c (token.Word w)
    (put-first w (both (may_refer c.context w) (is_put_off w) (passed (may_refer c.context w && is_put_off w) _ n h)).1)
async-first c t s n h = absurd cc

joined : (a b : Bool) → a ≡ true → b ≡ true → (a && b) ≡ true
joined a b h k = rw (h, k) refl

-- a reference that an arrow may come after, whether it may be bound or not
pub alone-first : (c : Scope) (t : Token) → is_alone c.context t ≡ true → begins_primary c t ≡ true
alone-first c (token.Word w) h = by-word (is_put_off w) refl (both (is_reference c.context w) (is_arrow_word w) h).0
  where
    by-word : (y : Bool) → is_put_off w ≡ y → is_reference c.context w ≡ true → begins_primary c (token.Word w) ≡ true
    by-word true e a = by-first c (token.Word w) (put-first w e)
    by-word false e a =
        let own : is_identifier c.context (token.Word w) ≡ true = rw (a, e) refl in
        or-left (is_identifier c.context (token.Word w)) (is_first (token.Word w)) own
alone-first c t h = absurd cc

pub arrow-alone : (c : Scope) (t : Token) (s : Span) (n : Spelling) → arrow_name c t s ≡ Some n
    → is_alone c.context t ≡ true
arrow-alone c (token.Word w) s n h =
    let (a, b) =
    both (may_refer c.context w) (binds_alone c.context w)
    (passed (may_refer c.context w && binds_alone c.context w) _ n h) in
    joined (is_reference c.context w) (is_arrow_word w) (both (is_reference c.context w) (ref_ok c.context w) a).0
    (both (is_arrow_word w) (not ((c.context.module && c.context.strict) && is_one_of
    (word_text w) strict_binding_words)) b).0
arrow-alone c t s n h = absurd cc

block-first : (c : Scope) (is_async : Bool) (own : List TokenAndSpan) → begins_own is_brace own ≡ true
    → at_token (starts (ArrowBody is_async) c) (first own) ≡ true
block-first c is_async [] h = absurd cc
block-first c is_async (t ∷ ts) h =
    or-left (is_brace t.token) (begins_expression (in_context (arrow_body is_async) c) t.token) h

-- patterns
pub binding-first : (c : Scope) (t : Token) (s : Span) (n : Spelling) → binding c t s ≡ Some n → begins_pat c t ≡ true
binding-first c (token.Word w) s n h =
    or-left (may_bind c.context w) (is_lbracket (token.Word w) || is_brace (token.Word w))
    (passed (may_bind c.context w) _ n h)
binding-first c t s n h = absurd cc

pat-sign : (c : Scope) (t : Token) → (is_lbracket t || is_brace t) ≡ true → begins_pat c t ≡ true
pat-sign c t h = or-right (is_name_bound c t) (is_lbracket t || is_brace t) h

-- keys and properties
pub name-first : (c : Scope) (t : Token) (s : Span) (n : Spelling) → any_name c t s ≡ Some n → is_word t ≡ true
name-first c (token.Word w) s n h = refl
name-first c t s n h = absurd cc

pub word-key : (t : Token) → is_word t ≡ true → begins_key t ≡ true
word-key (token.Word w) h = refl
word-key t h = absurd cc

pub key-lit-first : {F C K : Type 0} (t : Token) (s : Span) (e : Tree F C K) → key_lit_of t s ≡ Some e
    → begins_key t ≡ true
key-lit-first (token.Num raw) s e h = refl
key-lit-first (token.BigInt raw) s e h = refl
key-lit-first (token.Str value raw) s e h = refl
key-lit-first t s e h = absurd cc

key-prop : (t : Token) → begins_key t ≡ true → begins_prop t ≡ true
key-prop t h = or-left (begins_key t) (is_dots t || is_star t) h

pub async-word : (t : Token) → is_async t ≡ true → is_word t ≡ true
async-word (token.Word w) h = refl
async-word t h = absurd cc

pub get-word : (t : Token) → is_get t ≡ true → is_word t ≡ true
get-word (token.Word w) h = refl
get-word t h = absurd cc

pub set-word : (t : Token) → is_set t ≡ true → is_word t ≡ true
set-word (token.Word w) h = refl
set-word t h = absurd cc

word-prop : (t : Token) → is_word t ≡ true → begins_prop t ≡ true
word-prop t h = key-prop t (word-key t h)

first-own : (P : Token → Bool) (own us : List TokenAndSpan) → suc 0 ≤ length own → at_token P (first own) ≡ true
    → at_token P (first (own ++ us)) ≡ true
first-own P [] us h k = absurd (omega arith)
first-own P (t ∷ ts) us h k = k

-- the words that begin left-hand sides
new-first : (c : Scope) (t : Token) → is_new t ≡ true → begins_left c t ≡ true
new-first c t h = or-right (begins_primary c t) (is_left_word t) (rw (new-is t h) refl)

super-first : (c : Scope) (t : Token) → is_super t ≡ true → begins_left c t ≡ true
super-first c t h = or-right (begins_primary c t) (is_left_word t) (rw (super-is t h) refl)

import-first : (c : Scope) (t : Token) → is_import t ≡ true → begins_left c t ≡ true
import-first c t h = or-right (begins_primary c t) (is_left_word t) (rw (import-is t h) refl)

-- what binary operators join, and any expression
operand-left : (c : Scope) (t : Token) → begins_left c t ≡ true → begins_operand c t ≡ true
operand-left c t h = or-left (begins_left c t) (is_operand_opening (opening t)) h

by-operand : (c : Scope) (t : Token) → is_operand_opening (opening t) ≡ true → begins_operand c t ≡ true
by-operand c t h = or-right (begins_left c t) (is_operand_opening (opening t)) h

pub prefix-opens : (t : Token) (op : UnaryOp) → prefix_of t ≡ Some op → is_operand_opening (opening t) ≡ true
prefix-opens (token.Word (word.Keyword keyword.Delete)) op h = refl
prefix-opens (token.Word (word.Keyword keyword.Void)) op h = refl
prefix-opens (token.Word (word.Keyword keyword.TypeOf)) op h = refl
prefix-opens (token.BinOp sign.Add) op h = refl
prefix-opens (token.BinOp sign.Sub) op h = refl
prefix-opens token.Tilde op h = refl
prefix-opens token.Bang op h = refl
prefix-opens t op h = absurd cc

operand-prefix : (c : Scope) (t : Token) (s : Span) (x : UnaryOp × Span) → prefix_here t s ≡ Some x
    → begins_operand c t ≡ true
operand-prefix c t s x h = by-operand c t (prefix-opens t x.0 (placed-op (prefix_of t) s x.0 x.1 h))

pub update-first : (t : Token) (s : Span) (x : UpdateOp × Span) → update_here t s ≡ Some x → is_update t ≡ true
update-first token.PlusPlus s x h = refl
update-first token.MinusMinus s x h = refl
update-first t s x h = absurd cc

update-opens : (t : Token) → is_update t ≡ true → is_operand_opening (opening t) ≡ true
update-opens token.PlusPlus h = refl
update-opens token.MinusMinus h = refl
update-opens t h = absurd cc

operand-update : (c : Scope) (t : Token) (s : Span) (x : UpdateOp × Span) → update_here t s ≡ Some x
    → begins_operand c t ≡ true
operand-update c t s x h = by-operand c t (update-opens t (update-first t s x h))

operand-await : (c : Scope) (t : Token) → is_await t ≡ true → begins_operand c t ≡ true
operand-await c t h = by-operand c t (await-opens t h)
  where
    await-opens : (t : Token) → is_await t ≡ true → is_operand_opening (opening t) ≡ true
    await-opens (token.Word (word.Keyword keyword.Await)) h = refl
    await-opens t h = absurd cc

expression-operand : (c : Scope) (t : Token) → begins_operand c t ≡ true → begins_expression c t ≡ true
expression-operand c t h = or-left (begins_operand c t) (is_yield_opening (opening t) && c.context.in_generator) h

expression-yield : (c : Scope) (t : Token) → is_yield t ≡ true → (c.context.in_generator && yield_ok c.context) ≡ true
    → begins_expression c t ≡ true
expression-yield c t h k =
    let (g, o) = both c.context.in_generator (yield_ok c.context) k in
    or-right (begins_operand c t) (is_yield_opening (opening t) && c.context.in_generator)
    (rw (yield-opens t h, g) refl)
  where
    yield-opens : (t : Token) → is_yield t ≡ true → is_yield_opening (opening t) ≡ true
    yield-opens (token.Word (word.Keyword keyword.Yield)) h = refl
    yield-opens t h = absurd cc

module _ {F C K : Type 0} where
  pub under-given : {A D : Type 0} (X : Type 0) (o : Option A) (k : A → Rule Symbol (Answer F C K) Body (Value F C K) D)
      → ((x : A) → o ≡ Some x → Under X (k x)) → Under X (given o >>= k)
  under-given X None k f = tt
  under-given X (Some x) k f = f x refl

  no-never : {hook : Hook F C K} {s : Symbol} {xs ys : List TokenAndSpan} {t : Answer F C K s} {X : Type 0}
      → Follows hook s never xs ys t → X
  no-never d = elim d [ ]

  pub given-held : {hook : Hook F C K} {s : Symbol} {A : Type 0} {xs ys : List TokenAndSpan} {t : Answer F C K s}
      (o : Option A) (k : A → Side F C K s)
      → Follows hook s (given o >>= k) xs ys t → (x : A) × (o ≡ Some x) × Follows hook s (k x) xs ys t
  given-held None k d = no-never d
  given-held (Some x) k d = (x, refl, d)

  pub under-held : {hook : Hook F C K} {s : Symbol} {X : Type 0} {r : Side F C K s} {xs ys : List TokenAndSpan}
      {t : Answer F C K s} → Follows hook s r xs ys t → Under X r → X
  under-held gave h = h
  under-held (took d) h = h
  under-held (held b d) h = under-held d (h b)
  under-held (calm b d) h = h
  under-held (calm-two b d) h = h
  under-held (part e d) h = h
  under-held (heard e d) h = h

  -- one clause per production
  opens : {s : Symbol} {c : Scope} {r : Side F C K s} → Production s c r → Opens (starts s c) r
  opens (ident-expr {c = c}) =
      λ a. under-given _ (reference c a.token a.span) _ (λ n h. (reference-first c a.token a.span n h).1)
  opens (async-ident {c = c}) =
      λ a. under-given _ (async_name c a.token a.span) _ (λ n h. async-first c a.token a.span n h)
  opens (async-call {c = c}) =
      λ a. under-given _ (async_name c a.token a.span) _ (λ n h k. async-first c a.token a.span n h)
  opens lit = λ a. under-given _ (lit_of a.token a.span) _ (λ e h. lit-first a.token a.span e h)
  opens (this-expr {c = c}) = λ a h. by-first c a.token (rw (this-is a.token h) refl)
  opens (primary-literal {c = c}) = λ t h. by-first c t (lit-is-first t h)
  opens (array-lit {c = c}) = λ a h. by-first c a.token (rw (lbracket-is a.token h) refl)
  opens (elements-end {c = c}) = λ a h. rw (rbracket-is a.token h) refl
  opens (elements-hole {c = c}) = λ a h. rw (comma-is a.token h) refl
  opens (elements-more {c = c}) = λ t h. or-left (begins_expression c t || is_dots t) (is_comma t || is_rbracket t) h
  opens (tail-end {c = c}) = λ a h. rw (rbracket-is a.token h) refl
  opens (tail-more {c = c}) = λ a h. rw (comma-is a.token h) refl
  opens (item-expr {c = c}) = λ t h. or-left (begins_expression c t) (is_dots t) h
  opens (item-spread {c = c}) = λ a h. rw (dots-is a.token h) refl
  opens (fn-expr {c = c}) = λ own h. function-first c own h
  opens (class-expr {c = c}) = λ own h. class-first c own h
  opens (object-lit {c = c}) = λ a h. by-first c a.token (rw (brace-is a.token h) refl)
  opens (props-end {c = c}) = λ a h. rw (rbrace-is a.token h) refl
  opens props-more = λ t h. or-left (begins_prop t) (is_rbrace t) h
  opens (props-tail-end {c = c}) = λ a h. rw (rbrace-is a.token h) refl
  opens (props-tail-more {c = c}) = λ a h. rw (comma-is a.token h) refl
  opens prop-spread = λ a h. rw (dots-is a.token h) refl
  opens (prop-short {c = c}) = λ a. under-given _ (any_name c a.token a.span) _
      (λ n h r. word-prop a.token (name-first c a.token a.span n h))
  opens (prop-cover {c = c}) = λ a. under-given _ (any_name c a.token a.span) _
      (λ n h r. word-prop a.token (name-first c a.token a.span n h))
  opens prop-key = λ t h. key-prop t h
  opens prop-generator = λ a h. rw (star-is a.token h) refl
  opens prop-async = λ a h. word-prop a.token (async-word a.token h)
  opens prop-async-generator = λ a h. word-prop a.token (async-word a.token h)
  opens prop-getter = λ a h. word-prop a.token (get-word a.token h)
  opens prop-setter = λ a h. word-prop a.token (set-word a.token h)
  opens (after-value {c = c}) = λ a h. rw (colon-is a.token h) refl
  opens after-shell = λ t h. or-right (is_colon t) (is_lparen t) h
  opens shell-block = λ a h. h
  opens (key-name {c = c}) = λ a. under-given _ (any_name c a.token a.span) _
      (λ n h. word-key a.token (name-first c a.token a.span n h))
  opens key-literal = λ a. under-given _ (key_lit_of a.token a.span) _ (λ e h. key-lit-first a.token a.span e h)
  opens key-computed = λ a h. rw (lbracket-is a.token h) refl
  opens (paren-expr {c = c}) = λ a h. by-first c a.token (rw (lparen-is a.token h) refl)
  opens (regex-alone {c = c}) =
      λ a. under-given _ (regex_of a.token a.span) _ (λ e h. by-first c a.token (regex-first a.token a.span e h))
  opens (regex-slash {c = c}) = λ a h. by-first c a.token (slash-first a.token h)
  opens (primary-template {c = c}) = λ t h. by-first c t (rw (backquote-is t h) refl)
  opens template = λ a h. h
  opens (parts-end {is_tagged = is_tagged}) = λ a. under-given _ (text_of is_tagged true a.token a.span) _
      (λ t h. text-first is_tagged true a.token a.span t h)
  opens (parts-more {is_tagged = is_tagged}) = λ a. under-given _ (text_of is_tagged false a.token a.span) _
      (λ t h. text-first is_tagged false a.token a.span t h)
  opens lhs-left = λ t h. h
  opens (new-bare {c = c}) = λ a h. new-first c a.token h
  opens left-base = λ t h. h
  opens (left-new {c = c}) = λ a h. new-first c a.token h
  opens (base-primary {c = c}) = λ t h. or-left (begins_primary c t) (is_left_word t) h
  opens (new-target {c = c}) = λ a h. new-first c a.token h
  opens (super-name {c = c}) = λ a h. super-first c a.token h
  opens (super-computed {c = c}) = λ a h. super-first c a.token h
  opens (super-call {c = c}) = λ a h. super-first c a.token h
  opens (import-meta {c = c}) = λ a h. import-first c a.token h
  opens (import-call {c = c}) = λ a h. import-first c a.token h
  opens (import-source {c = c}) = λ a h. import-first c a.token h
  opens member-name = λ t h. h
  opens member-private = λ t h. h
  opens member-computed = λ t h. h
  opens call = λ t h. h
  opens chain-name = λ t h. h
  opens chain-private = λ t h. h
  opens chain-computed = λ t h. h
  opens chain-call = λ t h. h
  opens tagged-tpl = λ t h. h
  opens arguments = λ a h. h
  opens (args-end {c = c} {i = i}) = λ a h. rw (rparen-is a.token h) refl
  opens (args-more {c = c}) = λ t h. or-left (begins_expression c t || is_dots t) (is_rparen t) h
  opens (args-tail-end {c = c} {i = i}) = λ a h. rw (rparen-is a.token h) refl
  opens (args-tail-more {c = c} {i = i}) = λ a h. rw (comma-is a.token h) refl
  opens (unary-left {c = c}) = λ t h. operand-left c t h
  opens (update-postfix {c = c}) = λ t h. operand-left c t h
  opens (update-prefix {c = c}) = λ a. under-given _ (update_here a.token a.span) _
      (λ x h. operand-update c a.token a.span x h)
  opens (await-expr {c = c}) = λ a h k. operand-await c a.token h
  opens (await-ident {c = c}) = λ a h k. operand-await c a.token h
  opens (unary-op {c = c}) = λ a. under-given _ (prefix_here a.token a.span) _
      (λ x h. operand-prefix c a.token a.span x h)
  opens exp-unary = λ t h. h
  opens exp-op = λ t h. h
  opens (level-up b) = λ t h. h
  opens (bin-op b) = λ t h. h
  opens (private-expr {c = c}) = λ a h. by-first c a.token (rw (hash-is a.token h) refl)
  opens (private-in {c = c}) = λ a h. operand-left c a.token (or-left (begins_primary c a.token) (is_left_word a.token)
      (by-first c a.token (rw (hash-is a.token h) refl)))
  opens (assign-level {c = c}) = λ t h. expression-operand c t h
  opens (cond-expr {c = c}) = λ t h. expression-operand c t h
  opens (assign-expr {c = c}) = λ t h. expression-operand c t h
  opens (yield-alone {c = c}) = λ a h k. expression-yield c a.token h k
  opens (yield-expr {c = c}) = λ a h k. expression-yield c a.token h k
  opens (yield-star {c = c}) = λ a h k. expression-yield c a.token h k
  opens (assign-pattern {c = c}) = λ t h. expression-operand c t h
  opens exprs-one = λ t h. h
  opens exprs-more = λ t h. h
  opens seq-expr = λ t h. h
  opens (pat-bind {c = c}) = λ a. under-given _ (binding c a.token a.span) _ (λ n h. binding-first c a.token a.span n h)
  opens (pat-array {c = c}) = λ a h. pat-sign c a.token (rw (lbracket-is a.token h) refl)
  opens (pat-object {c = c}) = λ a h. pat-sign c a.token (rw (brace-is a.token h) refl)
  opens element-pat = λ t h. h
  opens element-default = λ t h. h
  opens pat-rest = λ a h. h
  opens (pat-elements-end {c = c}) = λ a h. rw (rbracket-is a.token h) refl
  opens (pat-elements-hole {c = c}) = λ a h. rw (comma-is a.token h) refl
  opens (pat-elements-more {c = c}) = λ t h.
      or-left (begins_pat c t || is_dots t) (is_comma t || is_rbracket t) (or-left (begins_pat c t) (is_dots t) h)
  opens (pat-elements-rest {c = c}) = λ t h.
      or-left (begins_pat c t || is_dots t) (is_comma t || is_rbracket t) (or-right (begins_pat c t) (is_dots t) h)
  opens (pat-tail-end {c = c}) = λ a h. rw (rbracket-is a.token h) refl
  opens (pat-tail-more {c = c}) = λ a h. rw (comma-is a.token h) refl
  opens (pat-props-end {c = c}) = λ a h. rw (rbrace-is a.token h) refl
  opens pat-props-more = λ t h. or-left (begins_key t || is_dots t) (is_rbrace t) (or-left (begins_key t) (is_dots t) h)
  opens pat-props-rest = λ t h.
      or-left (begins_key t || is_dots t) (is_rbrace t) (or-right (begins_key t) (is_dots t) h)
  opens (pat-props-tail-end {c = c}) = λ a h. rw (rbrace-is a.token h) refl
  opens (pat-props-tail-more {c = c}) = λ a h. rw (comma-is a.token h) refl
  opens pat-prop-key = λ t h. h
  opens (pat-prop-short {c = c}) = λ a. under-given _ (any_name c a.token a.span) _
      (λ n h r. word-key a.token (name-first c a.token a.span n h))
  opens (pat-prop-default {c = c}) = λ a. under-given _ (any_name c a.token a.span) _
      (λ n h. word-key a.token (name-first c a.token a.span n h))
  opens (params-end {c = c}) = λ a h. rw (rparen-is a.token h) refl
  opens (params-more {c = c}) = λ t h.
      or-left (begins_pat c t || is_dots t) (is_rparen t) (or-left (begins_pat c t) (is_dots t) h)
  opens (params-rest {c = c}) = λ t h.
      or-left (begins_pat c t || is_dots t) (is_rparen t) (or-right (begins_pat c t) (is_dots t) h)
  opens (params-tail-end {c = c}) = λ a h. rw (rparen-is a.token h) refl
  opens (params-tail-more {c = c}) = λ a h. rw (comma-is a.token h) refl
  opens covered-params = λ a h. h
  opens (arrow-name {c = c}) = λ a. under-given _ (arrow_name c a.token a.span) _
      (λ n h. expression-operand c a.token (operand-left c a.token
      (or-left (begins_primary c a.token) (is_left_word a.token)
      (alone-first c a.token (arrow-alone c a.token a.span n h)))))
  opens (arrow-params {c = c}) =
      λ t h. expression-operand c t (operand-left c t (or-left (begins_primary c t) (is_left_word t)
      (by-first c t (rw (lparen-is t h) refl))))
  opens (arrow-async-name {c = c}) = λ a. under-given _ (async_name c a.token a.span) _
      (λ n h. expression-operand c a.token (operand-left c a.token
      (or-left (begins_primary c a.token) (is_left_word a.token)
      (async-first c a.token a.span n h))))
  opens (arrow-async-params {c = c}) = λ a. under-given _ (async_name c a.token a.span) _
      (λ n h. expression-operand c a.token (operand-left c a.token
      (or-left (begins_primary c a.token) (is_left_word a.token)
      (async-first c a.token a.span n h))))
  opens (body-block {c = c} {is_async = is_async}) = λ own h. block-first c is_async own h
  opens (body-expr {c = c} {is_async = is_async}) =
      λ t h. or-right (is_brace t) (begins_expression (in_context (arrow_body is_async) c) t) h

  mutual
    pub begins : {hook : Hook F C K} {s : Symbol} {c : Scope} {xs ys : List TokenAndSpan} {t : Answer F C K s}
        → Reads hook s c xs ys t → at_token (starts s c) (first xs) ≡ true
    begins (by {s = s} {c = c} p d) = begins-side d (starts s c) (opens p)

    begins-side : {hook : Hook F C K} {s : Symbol} {r : Side F C K s} {xs ys : List TokenAndSpan} {t : Answer F C K s}
        → Follows hook s r xs ys t → (P : Token → Bool) → Opens P r → at_token P (first xs) ≡ true
    begins-side gave P o = absurd o
    begins-side (took {a = a} d) P o = under-held d (o a)
    begins-side (held b d) P o = begins-side d P (o b)
    begins-side (calm b d) P o = begins-side d P o
    begins-side (calm-two b d) P o = begins-side d P o
    begins-side (part {xs = xs} e d) P o = at-every _ P (first xs) o (begins e)
    begins-side (heard {b = b} {ms = ms} h d) P o =
        subst (λ v. at_token P (first v) ≡ true) (sym h.list)
        (first-own P h.own ms (body-some b h.own h.begins) (o h.own h.begins))

  -- so a token at least is taken
  abbrev Leads : {A : Type 0} → Rule Symbol (Answer F C K) Body (Value F C K) A → Type 0
  Leads (gives a) = ⊥
  Leads (check b r) = Leads r
  Leads (peek p r) = Leads r
  Leads (peek_two p r) = Leads r
  Leads x = Unit {0}

  leads : {s : Symbol} {c : Scope} {r : Side F C K s} → Production s c r → Leads r
  leads ident-expr = tt
  leads lit = tt
  leads this-expr = tt
  leads primary-literal = tt
  leads array-lit = tt
  leads elements-end = tt
  leads elements-hole = tt
  leads elements-more = tt
  leads tail-end = tt
  leads tail-more = tt
  leads item-expr = tt
  leads item-spread = tt
  leads fn-expr = tt
  leads class-expr = tt
  leads object-lit = tt
  leads props-end = tt
  leads props-more = tt
  leads props-tail-end = tt
  leads props-tail-more = tt
  leads prop-spread = tt
  leads prop-short = tt
  leads prop-cover = tt
  leads prop-key = tt
  leads prop-generator = tt
  leads prop-async = tt
  leads prop-async-generator = tt
  leads prop-getter = tt
  leads prop-setter = tt
  leads after-value = tt
  leads after-shell = tt
  leads shell-block = tt
  leads key-name = tt
  leads key-literal = tt
  leads key-computed = tt
  leads paren-expr = tt
  leads regex-alone = tt
  leads regex-slash = tt
  leads primary-template = tt
  leads template = tt
  leads parts-end = tt
  leads parts-more = tt
  leads lhs-left = tt
  leads new-bare = tt
  leads left-base = tt
  leads left-new = tt
  leads base-primary = tt
  leads new-target = tt
  leads super-name = tt
  leads super-computed = tt
  leads super-call = tt
  leads import-meta = tt
  leads import-call = tt
  leads import-source = tt
  leads member-name = tt
  leads member-private = tt
  leads member-computed = tt
  leads call = tt
  leads chain-name = tt
  leads chain-private = tt
  leads chain-computed = tt
  leads chain-call = tt
  leads tagged-tpl = tt
  leads arguments = tt
  leads args-end = tt
  leads args-more = tt
  leads args-tail-end = tt
  leads args-tail-more = tt
  leads unary-left = tt
  leads update-postfix = tt
  leads update-prefix = tt
  leads await-expr = tt
  leads await-ident = tt
  leads unary-op = tt
  leads exp-unary = tt
  leads exp-op = tt
  leads (level-up b) = tt
  leads (bin-op b) = tt
  leads private-expr = tt
  leads private-in = tt
  leads assign-level = tt
  leads cond-expr = tt
  leads assign-expr = tt
  leads yield-alone = tt
  leads yield-expr = tt
  leads yield-star = tt
  leads assign-pattern = tt
  leads exprs-one = tt
  leads exprs-more = tt
  leads seq-expr = tt
  leads pat-bind = tt
  leads pat-array = tt
  leads pat-object = tt
  leads element-pat = tt
  leads element-default = tt
  leads pat-rest = tt
  leads pat-elements-end = tt
  leads pat-elements-hole = tt
  leads pat-elements-more = tt
  leads pat-elements-rest = tt
  leads pat-tail-end = tt
  leads pat-tail-more = tt
  leads pat-props-end = tt
  leads pat-props-more = tt
  leads pat-props-rest = tt
  leads pat-props-tail-end = tt
  leads pat-props-tail-more = tt
  leads pat-prop-key = tt
  leads pat-prop-short = tt
  leads pat-prop-default = tt
  leads params-end = tt
  leads params-more = tt
  leads params-rest = tt
  leads params-tail-end = tt
  leads params-tail-more = tt
  leads covered-params = tt
  leads arrow-name = tt
  leads arrow-params = tt
  leads async-ident = tt
  leads async-call = tt
  leads arrow-async-name = tt
  leads arrow-async-params = tt
  leads body-block = tt
  leads body-expr = tt

  mutual
    pub takes : {hook : Hook F C K} {s : Symbol} {c : Scope} {xs ys : List TokenAndSpan} {t : Answer F C K s}
        → Reads hook s c xs ys t → suc (length ys) ≤ length xs
    takes (by p d) = takes-side d (leads p)

    takes-side : {hook : Hook F C K} {s : Symbol} {r : Side F C K s} {xs ys : List TokenAndSpan} {t : Answer F C K s}
        → Follows hook s r xs ys t → Leads r → suc (length ys) ≤ length xs
    takes-side gave l = absurd l
    takes-side (took d) l = let k = follows-length d in omega arith
    takes-side (held h d) l = takes-side d l
    takes-side (calm h d) l = takes-side d l
    takes-side (calm-two h d) l = takes-side d l
    takes-side (part e d) l = let j = takes e in let k = follows-length d in omega arith
    takes-side (heard {b = b} {ms = ms} {ys = ys} h d) l =
        let some = body-some b h.own h.begins in
        let n = length-append h.own ms in
        let k = follows-length d in
        subst (λ v. suc (length ys) ≤ length v) (sym h.list) (omega arith)
