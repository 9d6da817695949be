-- Bindings by free names are references, and valid simple targets.
use Rattle.std.specs.Prelude.{◌≡◌, ℕ, Bool, true, false, not, ◌&&◌, ◌||◌, List, Option, Some, None, codes}
use Rattle.std.proofs.Common.{refl, sym, ap, subst}
use Rattle.std.proofs.{lemmas.Bool.not-true, Math.Bool.and-false}
use Rattle.swc_context.specs.Reserved.{is_reserved_shorthand, is_reserved_word, strict_binding_words, strict_reserved, strict_names}
use Rattle.swc_context.specs.Words.{word_of, word_text, keyword_of, keyword_or_name}
use Rattle.swc_context.specs.{Texts.is_text, Texts.is_one_of, declared.context.Context.Context, declared.span.Span.Span, declared.word.Keyword.Keyword, declared.word.Keyword.Keyword as keyword, declared.word.Word.Word, declared.word.Word.Word as word}
use Rattle.swc_input.specs.declared.token.Token.{Token, Token as token}
use Rattle.swc_grammar.specs.Names.{Spelling, spelling, may_refer, may_bind}
use Rattle.swc_grammar.specs.Tokens.{include_in, with_in, is_await, is_put_off}
use Rattle.swc_grammar.specs.{Scope.Scope, Parts.reference, Parts.binding, Arrows.async_name}
use Rattle.swc_grammar.proofs.Answers.{only, inj, both, choose}
use Rattle.swc_laws.specs.Bound.{is_free_name, is_free_word}

-- a reference, which is `async` or another
pub data Refers (c : Scope) (t : Token) (s : Span) (n : Spelling) : Type 0 where
  other-ref : reference c t s ≡ Some n → Refers c t s n
  async-ref : async_name c t s ≡ Some n → Refers c t s n

refers : (c : Scope) (w : Word) (s : Span) (n : Spelling) → may_refer c.context w ≡ true
    → Some (spelling (word_text w) s) ≡ Some n → Refers c (token.Word w) s n
refers c w s n h e = by-word (is_put_off w) refl
  where
    by-word : (z : Bool) → is_put_off w ≡ z → Refers c (token.Word w) s n
    by-word true z = async-ref (rw (h, z, e) refl)
    by-word false z = other-ref (rw (h, z, e) refl)

either-not : (a b : Bool) → not (a || b) ≡ true → (not a ≡ true) × (not b ≡ true)
either-not true b h = absurd cc
either-not false b h = (refl, h)

-- a name that spells no keyword is its own word
name-word : (o : Option Keyword) (n v : List ℕ) → keyword_or_name o n ≡ word.Ident v → n ≡ v
name-word None n v h = cc
name-word (Some k) n v h = absurd cc

word-name : (n v : List ℕ) → word_of n ≡ word.Ident v → n ≡ v
word-name n v h = choose (is_text n (codes "null")) _ _ (λ x. x ≡ word.Ident v) h (λ z k. absurd cc)
    (λ z k. choose (is_text n (codes "true")) _ _ (λ x. x ≡ word.Ident v) k (λ y j. absurd cc)
    (λ y j. choose (is_text n (codes "false")) _ _ (λ x. x ≡ word.Ident v) j (λ w i. absurd cc)
    (λ w i. name-word (keyword_of n) n v i)))

-- what a free name isn't
free-words : (n : List ℕ) (w : Word) → word_of n ≡ w → is_free_word w ≡ true
    → (not (is_text n (codes "enum")) ≡ true) × (not (is_one_of n strict_names) ≡ true)
free-words n (word.Ident v) h k =
    let e = word-name n v h in
    let (x, y) = both (not (is_text v (codes "enum"))) (not (is_one_of v strict_names)) k in
    let a = subst (λ u. not (is_text u (codes "enum")) ≡ true) (sym e) x in
    let b = subst (λ u. not (is_one_of u strict_names) ≡ true) (sym e) y in
    (a, b)
free-words n w h k = absurd cc

free-parts : (n : List ℕ) → is_free_name n ≡ true
    → (not (is_text n (codes "enum")) ≡ true) × (not (is_one_of n strict_names) ≡ true)
    × (not (is_one_of n strict_binding_words) ≡ true)
free-parts n h =
    let (x, y) = both (is_free_word (word_of n)) _ h in
    let (a, b) = free-words n (word_of n) refl x in
    (a, b, y)

name-refers : (e g r o s x y : Bool) → ((not e && not g) && (r && not o)) ≡ true → not (x || y) ≡ true
    → (not (e || (s && y)) && r) ≡ true
name-refers e g r o s x y h k =
    let (a, b) = both (not e && not g) (r && not o) h in
    let (d, f) = both (not e) (not g) a in
    let (i, l) = both r (not o) b in
    let (m, n) = either-not x y k in
    rw (not-true e d, not-true y n, and-false s, i) refl

binding-refers : (c : Context) (w : Word) → may_bind c w ≡ true → is_free_name (word_text w) ≡ true
    → may_refer (include_in c) w ≡ true
binding-refers c (word.Ident name) h k =
    let (a, b, e) = free-parts name k in
    name-refers (is_text name (codes "enum")) (c.in_generator && is_text name (codes "yield")) _
    (c.module && is_one_of name strict_binding_words) c.strict (is_text name (codes "static"))
    (is_one_of name strict_reserved) h b
binding-refers c (word.Keyword keyword.Let) h k = absurd cc
binding-refers c (word.Keyword keyword.Yield) h k = absurd cc
binding-refers c (word.Keyword keyword.Await) h k = absurd cc
binding-refers c w h k = absurd cc

pub freed-name : (c : Scope) (t : Token) (s : Span) (n : Spelling) → binding c t s ≡ Some n
    → is_free_name n.text ≡ true → Refers (with_in c) t s n × (is_await t ≡ false)
freed-name c (token.Word w) s n h k =
    let (a, b) = only (may_bind c.context w) h in
    let e : word_text w ≡ n.text = ap (λ v. v.text) (inj (spelling (word_text w) s) n b) in
    let i : is_free_name (word_text w) ≡ true = subst (λ v. is_free_name v ≡ true) (sym e) k in
    (refers (with_in c) w s n (binding-refers c.context w a i) b, no-await w i)
  where
    no-await : (w : Word) → is_free_name (word_text w) ≡ true → is_await (token.Word w) ≡ false
    no-await (word.Keyword keyword.Await) h = absurd cc
    no-await w h = refl
freed-name c t s n h k = absurd cc

pub free-target : (strict : Bool) (n : List ℕ) → is_free_name n ≡ true
    → not (strict && is_one_of n strict_binding_words) ≡ true
free-target strict n h =
    let (a, b, e) = free-parts n h in rw (not-true (is_one_of n strict_binding_words) e, and-false strict) refl

shorthand-free : (c : Context) (n : List ℕ) (w : Word) → is_free_word w ≡ true → not (is_reserved_shorthand c w) ≡ true
shorthand-free c n (word.Ident v) h =
    let (a, b) = both (not (is_text v (codes "enum"))) (not (is_one_of v strict_names)) h in
    let (d, e) = either-not (is_text v (codes "static")) (is_one_of v strict_reserved) b in
    rw (not-true (is_text v (codes "enum")) a, not-true (is_one_of v strict_reserved) e, and-false c.strict) refl
shorthand-free c n w h = absurd cc

pub free-shorthand : (c : Context) (n : List ℕ) → is_free_name n ≡ true → not (is_reserved_word c n) ≡ true
free-shorthand c n h = let (x, y) = both (is_free_word (word_of n)) _ h in shorthand-free c n (word_of n) x
