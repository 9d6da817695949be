-- References are bindings, but for the names that the cover law excepts.
use Rattle.std.specs.Prelude.{◌≡◌, ℕ, Bool, true, false, not, ◌&&◌, ◌||◌, List, [], ◌∷◌, Some, codes}
use Rattle.std.proofs.Common.{refl, sym, ap, subst, ◌∙◌}
use Rattle.std.proofs.lemmas.Bool.{eqb-true}
use Rattle.swc_context.specs.Reserved.{is_reserved_word, strict_binding_words, strict_reserved}
use Rattle.swc_context.specs.{Words.word_of, Words.word_text, Texts.is_text, Texts.is_one_of, declared.context.Context.Context, declared.span.Span.Span, declared.word.Word.Word, declared.word.Word.Word as word, declared.word.Keyword.Keyword as keyword}
use Rattle.swc_input.specs.declared.token.Token.{Token, Token as token}
use Rattle.swc_grammar.specs.Names.{Spelling, spelling, may_refer, may_bind}
use Rattle.swc_grammar.specs.Parts.{reference, binding, any_name}
use Rattle.swc_grammar.specs.Tokens.{include_in, with_in, is_put_off, is_await, await_ident_ok}
use Rattle.swc_grammar.specs.{Scope.Scope, Arrows.async_name}
use Rattle.swc_grammar.proofs.Answers.{only, inj, both}
use Rattle.swc_laws.specs.Bound.{may_be_bound, is_name, is_spelled}

not-either : (e x : Bool) → not (e || x) ≡ true → not e ≡ true
not-either true x h = absurd cc
not-either false x h = refl

and-no : (a : Bool) → not (a && false) ≡ true
and-no true = refl
and-no false = refl

text-is : (w text : List ℕ) → is_text w text ≡ true → w ≡ text
text-is [] [] h = refl
text-is [] (y ∷ ys) h = absurd cc
text-is (x ∷ xs) [] h = absurd cc
text-is (x ∷ xs) (y ∷ ys) h =
    let (a, b) = both _ _ h in
    let e : x ≡ y = eqb-true x y a in
    rw (e, text-is xs ys b) refl

-- a name that is well spelled isn't `yield`
no-yield : (name : List ℕ) → is_name (word_of name) ≡ true → is_text name (codes "yield") ≡ false
no-yield name h = by-test (is_text name (codes "yield")) refl
  where
    by-test : (b : Bool) → is_text name (codes "yield") ≡ b → b ≡ false
    by-test true e =
        let k : is_name (word_of (codes "yield")) ≡ true =
        subst (λ v. is_name (word_of v) ≡ true) (text-is name (codes "yield") e) h in
        absurd cc
    by-test false e = refl

name-case : (e x r put o g s : Bool) → ((not (e || x) && r) && not put) ≡ true → (not o && not s) ≡ true → g ≡ true
    → ((not e && g) && (r && not o)) ≡ true
name-case e x r put o g s h k n =
    let (a, b) = both (not (e || x) && r) (not put) h in
    let (d, f) = both (not (e || x)) r a in
    let (i, j) = both (not o) (not s) k in
    rw (not-either e x d, n, f, i) refl

let-case : (r m : Bool) → ((true && r) && true) ≡ true → (true && (r && not (m && false))) ≡ true
let-case true m h = and-no m
let-case false m h = absurd cc

yield-case : (g s r m : Bool) → ((not (g || s) && r) && true) ≡ true → (not g && (r && not (m && false))) ≡ true
yield-case g s r m h =
    let (a, b) = both (not (g || s) && r) true h in
    let (d, f) = both (not (g || s)) r a in
    rw (not-either g s d, f, and-no m) refl

await-case : (a b s m f : Bool) → ((not ((a || b) || s) && (not (m && true) && f)) && true) ≡ true
    → (not ((a || b) || m) && ((not (m && true) && f) && not (m && false))) ≡ true
await-case true b s m f h = absurd cc
await-case false true s m f h = absurd cc
await-case false false true m f h = absurd cc
await-case false false false true f h = absurd cc
await-case false false false false true h = refl
await-case false false false false false h = absurd cc

add-true : (a : Bool) → a ≡ true → (a && true) ≡ true
add-true a h = rw h refl

reference-binds : (c : Context) (w : Word) → may_refer (include_in c) w ≡ true
    → may_be_bound c (word_text w) ≡ true → is_spelled (token.Word w) ≡ true → may_bind c w ≡ true
reference-binds c (word.Ident name) h k z =
    name-case (is_text name (codes "enum")) (c.strict && is_one_of name strict_reserved) _
    false (c.module && is_one_of name strict_binding_words)
    (not (c.in_generator && is_text name (codes "yield"))) (c.in_static_block && is_text name (codes "await"))
    (add-true _ h) k
    (ap (λ v. not (c.in_generator && v)) (no-yield name z) ∙ and-no c.in_generator)
reference-binds c (word.Keyword keyword.Let) h k z = let-case _ c.module (add-true _ h)
reference-binds c (word.Keyword keyword.Yield) h k z = yield-case c.in_generator c.strict _ c.module (add-true _ h)
reference-binds c (word.Keyword keyword.Await) h k z =
    await-case c.in_async c.in_static_block c.strict c.module _ (add-true _ h)
reference-binds c w h k z = absurd cc

pub bound-name : (c : Scope) (t : Token) (s : Span) (n : Spelling) → reference (with_in c) t s ≡ Some n
    → may_be_bound c.context n.text ≡ true → is_spelled t ≡ true → binding c t s ≡ Some n
bound-name c (token.Word w) s n h k z =
    let (a, b) = only (may_refer (include_in c.context) w && not (is_put_off w)) h in
    let e : word_text w ≡ n.text = ap (λ v. v.text) (inj (spelling (word_text w) s) n b) in
    let (d, g) = both (may_refer (include_in c.context) w) (not (is_put_off w)) a in
    let f = reference-binds c.context w d (subst (λ v. may_be_bound c.context v ≡ true) (sym e) k) z in
    rw (f, b) refl
bound-name c t s n h k z = absurd cc

pub bound-async : (c : Scope) (t : Token) (s : Span) (n : Spelling) → async_name (with_in c) t s ≡ Some n
    → may_be_bound c.context n.text ≡ true → is_spelled t ≡ true → binding c t s ≡ Some n
bound-async c (token.Word w) s n h k z =
    let (a, b) = only (may_refer (include_in c.context) w && is_put_off w) h in
    let e : word_text w ≡ n.text = ap (λ v. v.text) (inj (spelling (word_text w) s) n b) in
    let (d, g) = both (may_refer (include_in c.context) w) (is_put_off w) a in
    let f = reference-binds c.context w d (subst (λ v. may_be_bound c.context v ≡ true) (sym e) k) z in
    rw (f, b) refl
bound-async c t s n h k z = absurd cc

await-bound-case : (a b m r f : Bool) → not (a || m) ≡ true → not (b && true) ≡ true
    → (not ((a || b) || m) && ((not (m && true) && f) && not (m && false))) ≡ f
await-bound-case true b m r f h k = absurd cc
await-bound-case false true m r f h k = absurd cc
await-bound-case false false true r f h k = absurd cc
await-bound-case false false false r true h k = refl
await-bound-case false false false r false h k = refl

-- the identifier `await` of an operand
pub bound-await : (c : Scope) (t : Token) (s : Span) → is_await t ≡ true → await_ident_ok c.context ≡ true
    → may_be_bound c.context (codes "await") ≡ true → binding c t s ≡ Some (spelling (codes "await") s)
bound-await c (token.Word (word.Keyword keyword.Await)) s h k b =
    let (x, y) = both (not (c.context.module && false)) _ b in
    let e = await-bound-case c.context.in_async c.context.in_static_block c.context.module true
    (not (c.context.in_class_field && false)) k y in
    let f : may_bind c.context (word.Keyword keyword.Await) ≡ true = e ∙ and-no c.context.in_class_field in
    rw f refl
bound-await c t s h k b = absurd cc

-- what doesn't depend on whether `in` is an operator
pub name-in : (c : Scope) (t : Token) (s : Span) (n : Spelling) → any_name (with_in c) t s ≡ Some n
    → any_name c t s ≡ Some n
name-in c (token.Word w) s n h = h
name-in c t s n h = absurd cc

pub reserved-in : (c : Context) (name : List ℕ) → is_reserved_word (include_in c) name ≡ is_reserved_word c name
reserved-in c name = refl
