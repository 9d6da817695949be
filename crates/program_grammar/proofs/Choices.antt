-- The tokens to come choose the production of which a derivation begins with them.
use Rattle.std.specs.Prelude.{◌≡◌, Bool, true, false, not, ◌&&◌, ◌||◌, if◌then◌else◌, List, [], ◌∷◌, Some, codes}
use Rattle.std.proofs.Common.{refl, subst, sym as sym_path}
use Rattle.swc_context.specs.{Texts.is_text, declared.span.Span.Span, declared.word.Keyword.Keyword as keyword, declared.word.Word.Word, declared.word.Word.Word as word}
use Rattle.swc_input.specs.{declared.token.Token.Token, declared.token.Token.Token as token, declared.token.TokenAndSpan.TokenAndSpan}
use Rattle.swc_bodies.specs.Readings.{is_brace, is_class, is_function, is_async, begins_function}
use Rattle.swc_grammar.specs.Scope.{Scope}
use Rattle.swc_grammar.specs.Rule.{given, ◌>>=◌, sees, sees_two}
use Rattle.swc_grammar.specs.{ForHead.is_semi, Arrows.is_of, Firsts.begins_expression, Names.Spelling, Tokens.tk, Tokens.is_star, Tokens.is_comma, Tokens.is_colon, Tokens.is_rbrace, Tokens.is_in, Tokens.is_import, Tokens.is_lparen, Tokens.is_dot, Tokens.is_rparen, Tokens.is_await, Parts.binding}
use Rattle.swc_grammar.proofs.Only.{brace-is, class-is, import-is, colon-is, comma-is}
use Rattle.program_grammar.specs.Tokens.{is_if, is_do, is_while, is_for, is_with, is_continue, is_break, is_return, is_throw, is_debugger, is_switch, is_default, is_try, is_finally, is_var, is_let, is_const, is_extends, is_export, is_from, is_str, ends_list, is_async_function, is_let_declaration, is_let_here, begins_keyword, is_labelled, goes_on_let, begins_other, begins_other_two, is_import_declaration, is_renamed, label, export_name_of, is_modifier, Getter, is_modifier_here}
use Rattle.program_grammar.specs.Symbols.{Symbol, Side}
use Rattle.program_grammar.specs.Grammar.{begins_declaration, name_scope, Production, string-first, no-string, items-end, items-more, item-statement, st-block, st-var, st-let, st-const, st-empty, st-expression, st-if, st-do, st-while, st-for, for-await, for-plain, head-declared, head-empty, head-other, head-let, head-const, head-value-none, head-value-some, each-of, maybe-none, maybe-some, st-continue, st-break, st-return, st-with, st-switch, clauses-more, clause-default, st-labelled, st-throw, st-try, handlers-finally, st-debugger, st-function, st-class, function-name, class-name, class-unnamed, members-semicolon, members-more, modifier-some, modifier-none, member-keyed, accessor-get, accessor-other, item-import, import-alone, import-names, import-first, import-first-more, import-list, import-names-more, import-tail-more, import-name, import-renamed, attributes-more, attributes-tail-more, item-export, export-list, export-default-item, export-declared, default-function, default-class, default-expression, export-names-more, export-tail-more, from-some}
use Rattle.program_grammar.specs.Clean.{pick, choose, statement, declared, begins_head, begins_a_function}
use Rattle.program_grammar.proofs.Knot.{Sides}
use Rattle.program_grammar.proofs.Guard.{ends, some, guard, given-guard}
use Rattle.program_grammar.proofs.Words.{semi-is, if-is, do-is, while-is, for-is, with-is, continue-is, break-is, return-is, throw-is, debugger-is, switch-is, try-is, var-is, let-is, const-is, default-is, finally-is}

both : (a b : Bool) → (a && b) ≡ true → (a ≡ true) × (b ≡ true)
both true true h = (refl, refl)
both true false h = cc
both false b h = cc

head-of : (a b : Bool) → (a && b) ≡ true → a ≡ true
head-of true b h = refl
head-of false b h = cc

is-on : (b : Bool) → not (not b) ≡ true → b ≡ true
is-on true h = refl
is-on false h = cc

-- by tests of what comes next
module _ {A : Type 0} where
  one-on : (x : Bool) (p q : A) → x ≡ true → (if x then p else q) ≡ p
  one-on true p q h = refl
  one-on false p q h = cc

  one-off : (x : Bool) (p q : A) → x ≡ false → (if x then p else q) ≡ q
  one-off true p q h = cc
  one-off false p q h = refl

  on : (x y : Bool) (p q : A) → (x && y) ≡ true → (if x then p else q) ≡ p
  on true y p q h = refl
  on false y p q h = cc

  on-not : (x y : Bool) (p q : A) → (not (not x) && y) ≡ true → (if x then p else q) ≡ p
  on-not true y p q h = refl
  on-not false y p q h = cc

  off : (x y : Bool) (p q : A) → (not x && y) ≡ true → (if x then p else q) ≡ q
  off true y p q h = cc
  off false y p q h = refl

  -- the second of two is looked at first
  off-two : (x z y : Bool) (p q r : A) → (not (x || z) && y) ≡ true → (if z then p else (if x then q else r)) ≡ r
  off-two true z y p q r h = cc
  off-two false true y p q r h = cc
  off-two false false y p q r h = refl

  off-first : (x z y : Bool) (p q : A) → (not (x || z) && y) ≡ true → (if x then p else q) ≡ q
  off-first true z y p q h = cc
  off-first false z y p q h = refl

  -- one test of a token, and one of two
  off-both : (x z y : Bool) (p q r : A) → (not x && (not z && y)) ≡ true → (if x then p else (if z then q else r)) ≡ r
  off-both true z y p q r h = cc
  off-both false true y p q r h = cc
  off-both false false y p q r h = refl

  off-three : (x u z y : Bool) (p q r : A) → (not (x || u) && (not z && y)) ≡ true
      → (if x || z then p else (if u then q else r)) ≡ r
  off-three true u z y p q r h = cc
  off-three false true z y p q r h = cc
  off-three false false true y p q r h = cc
  off-three false false false y p q r h = refl

  off-head : (s x u z y : Bool) (p q r : A) → (not (s || (x || u)) && (not z && y)) ≡ true
      → (if x || (u || z) then p else (if s then q else r)) ≡ r
  off-head true x u z y p q r h = cc
  off-head false true u z y p q r h = cc
  off-head false false true z y p q r h = cc
  off-head false false false true y p q r h = cc
  off-head false false false false y p q r h = refl

  fourth : (d f n : Bool) (x y z w : A) → not (f || (d || n)) ≡ true
      → (if d then x else (if f then y else (if n then z else w))) ≡ w
  fourth true true n x y z w h = cc
  fourth true false n x y z w h = cc
  fourth false true n x y z w h = cc
  fourth false false true x y z w h = cc
  fourth false false false x y z w h = refl

  not-on : (x : Bool) (p q : A) → not x ≡ true → (if x then p else q) ≡ q
  not-on true p q h = cc
  not-on false p q h = refl

  on-pair : (x z y : Bool) (p q : A) → (x && (z && y)) ≡ true → (if x && z then p else q) ≡ p
  on-pair true true y p q h = refl
  on-pair true false y p q h = cc
  on-pair false z y p q h = cc

  two-on : (x z : Bool) (p q r : A) → x ≡ false → z ≡ true → (if x then p else (if z then q else r)) ≡ q
  two-on true z p q r h k = cc
  two-on false true p q r h k = refl
  two-on false false p q r h k = cc

  three-off : (x y z : Bool) (p q r s : A) → x ≡ false → y ≡ false → z ≡ false
      → (if x then p else (if y then q else (if z then r else s))) ≡ s
  three-off true y z p q r s h k l = cc
  three-off false true z p q r s h k l = cc
  three-off false false true p q r s h k l = cc
  three-off false false false p q r s h k l = refl

  neither-of : (x : Bool) (p q : A) → (if x && false then p else q) ≡ q
  neither-of true p q = refl
  neither-of false p q = refl

no-right : (x : Bool) → (x && false) ≡ true → ⊥
no-right true h = cc
no-right false h = cc

-- a name is a word
binding-word : (c : Scope) (t : Token) (s : Span) (n : Spelling) → binding c t s ≡ Some n
    → (w : Word) × (t ≡ token.Word w)
binding-word c (token.Word w) s n h = (w, refl)
binding-word c t s n h = cc

-- no expression begins with the word of a statement
keyword-apart : (c : Scope) (t : Token) → begins_expression c t ≡ true → begins_keyword t ≡ false
keyword-apart c (token.Word (word.Keyword keyword.If)) h = cc
keyword-apart c (token.Word (word.Keyword keyword.While)) h = cc
keyword-apart c (token.Word (word.Keyword keyword.With)) h = cc
keyword-apart c (token.Word (word.Keyword keyword.Do)) h = cc
keyword-apart c (token.Word (word.Keyword keyword.For)) h = cc
keyword-apart c (token.Word (word.Keyword keyword.Switch)) h = cc
keyword-apart c (token.Word (word.Keyword keyword.Try)) h = cc
keyword-apart c (token.Word (word.Keyword keyword.Break)) h = cc
keyword-apart c (token.Word (word.Keyword keyword.Continue)) h = cc
keyword-apart c (token.Word (word.Keyword keyword.Return)) h = cc
keyword-apart c (token.Word (word.Keyword keyword.Throw)) h = cc
keyword-apart c (token.Word (word.Keyword keyword.Debugger)) h = cc
keyword-apart c (token.Word (word.Keyword keyword.Var)) h = cc
keyword-apart c (token.Word (word.Keyword keyword.Const)) h = cc
keyword-apart c t h = refl

module _ {F C K : Type 0} where
  bound-word : {A : Type 0} (k : List TokenAndSpan → Bool) (c : Scope) (a : TokenAndSpan) (us : List TokenAndSpan)
      (f : Spelling → Sides F C K A) → guard k (given (binding c a.token a.span) >>= f) us ≡ true
      → (w : Word) × (a.token ≡ token.Word w)
  bound-word k c a us f g =
      let (n, o, h) = given-guard k (binding c a.token a.span) f us g in binding-word c a.token a.span n o

  -- ---- statements
  pub expression-so : {b : Bool} (c : Scope) (t : Token) (l : Bool) (s : Span) (us : List TokenAndSpan)
      → begins_keyword t ≡ false → not (begins_other (tk t l s)) ≡ true
      → not (sees_two (begins_other_two b) (tk t l s ∷ us)) ≡ true
      → statement {F = F} {C = C} {K = K} b c (tk t l s ∷ us) ≡ pick st-expression
  expression-so c (token.Word (word.Keyword keyword.If)) l s us h o d = cc
  expression-so c (token.Word (word.Keyword keyword.While)) l s us h o d = cc
  expression-so c (token.Word (word.Keyword keyword.With)) l s us h o d = cc
  expression-so c (token.Word (word.Keyword keyword.Do)) l s us h o d = cc
  expression-so c (token.Word (word.Keyword keyword.For)) l s us h o d = cc
  expression-so c (token.Word (word.Keyword keyword.Switch)) l s us h o d = cc
  expression-so c (token.Word (word.Keyword keyword.Try)) l s us h o d = cc
  expression-so c (token.Word (word.Keyword keyword.Break)) l s us h o d = cc
  expression-so c (token.Word (word.Keyword keyword.Continue)) l s us h o d = cc
  expression-so c (token.Word (word.Keyword keyword.Return)) l s us h o d = cc
  expression-so c (token.Word (word.Keyword keyword.Throw)) l s us h o d = cc
  expression-so c (token.Word (word.Keyword keyword.Debugger)) l s us h o d = cc
  expression-so c (token.Word (word.Keyword keyword.Var)) l s us h o d = cc
  expression-so c (token.Word (word.Keyword keyword.Const)) l s us h o d = cc
  expression-so c (token.Word (word.Keyword keyword.Class)) l s us h o d = cc
  expression-so c (token.Word (word.Keyword keyword.Function)) l s us h o d = cc
  expression-so c token.LBrace l s us h o d = cc
  expression-so c token.Semi l s us h o d = cc
  expression-so {b = b} c t l s [] h o d = refl
  expression-so {b = b} c t l s (u ∷ us) h o d =
      fourth (is_let_here b (tk t l s) u) (is_async_function (tk t l s) u) (is_labelled (tk t l s) u)
      (declared b (tk t l s ∷ (u ∷ us))) (pick st-function) (pick st-labelled) (pick st-expression) d

  pub labelled-so : {b : Bool} (c : Scope) (t : Token) (l : Bool) (s : Span) (l' : Bool) (s' : Span)
      (us : List TokenAndSpan) (n : Spelling)
      → label c t s ≡ Some n
      → statement {F = F} {C = C} {K = K} b c (tk t l s ∷ (tk token.Colon l' s' ∷ us)) ≡ pick st-labelled
  labelled-so c (token.Word (word.Keyword keyword.If)) l s l' s' us n h = cc
  labelled-so c (token.Word (word.Keyword keyword.While)) l s l' s' us n h = cc
  labelled-so c (token.Word (word.Keyword keyword.With)) l s l' s' us n h = cc
  labelled-so c (token.Word (word.Keyword keyword.Do)) l s l' s' us n h = cc
  labelled-so c (token.Word (word.Keyword keyword.For)) l s l' s' us n h = cc
  labelled-so c (token.Word (word.Keyword keyword.Switch)) l s l' s' us n h = cc
  labelled-so c (token.Word (word.Keyword keyword.Try)) l s l' s' us n h = cc
  labelled-so c (token.Word (word.Keyword keyword.Break)) l s l' s' us n h = cc
  labelled-so c (token.Word (word.Keyword keyword.Continue)) l s l' s' us n h = cc
  labelled-so c (token.Word (word.Keyword keyword.Return)) l s l' s' us n h = cc
  labelled-so c (token.Word (word.Keyword keyword.Throw)) l s l' s' us n h = cc
  labelled-so c (token.Word (word.Keyword keyword.Debugger)) l s l' s' us n h = cc
  labelled-so c (token.Word (word.Keyword keyword.Var)) l s l' s' us n h = cc
  labelled-so c (token.Word (word.Keyword keyword.Const)) l s l' s' us n h = cc
  labelled-so c (token.Word (word.Keyword keyword.Class)) l s l' s' us n h = cc
  labelled-so c (token.Word (word.Keyword keyword.Function)) l s l' s' us n h = cc
  labelled-so c (token.Word (word.Ident w)) l s l' s' us n h =
      neither-of (is_text w (codes "async")) (pick st-function) (pick st-labelled)
  labelled-so c (token.Word w) l s l' s' us n h = refl
  labelled-so c t l s l' s' us n h = cc

  pub function-so : {b : Bool} (c : Scope) (t : Token) (l : Bool) (s : Span) (u : TokenAndSpan) (us : List TokenAndSpan)
      → begins_function (tk t l s ∷ (u ∷ us)) ≡ true
      → statement {F = F} {C = C} {K = K} b c (tk t l s ∷ (u ∷ us)) ≡ pick st-function
  function-so c (token.Word (word.Keyword keyword.Function)) l s u us h = refl
  function-so c (token.Word (word.Ident w)) l s u us h =
      one-on (is_text w (codes "async") && (is_function u.token && not u.had_line_break)) _ _ h
  function-so c t l s u us h = cc

  pub function-alone : {b : Bool} (c : Scope) (t : Token) (l : Bool) (s : Span)
      → begins_function (tk t l s ∷ []) ≡ true
      → statement {F = F} {C = C} {K = K} b c (tk t l s ∷ []) ≡ pick st-function
  function-alone c (token.Word (word.Keyword keyword.Function)) l s h = refl
  function-alone c (token.Word (word.Ident w)) l s h = absurd (no-right (is_text w (codes "async")) h)
  function-alone c t l s h = cc

declaration-apart : (t : Token) → begins_declaration t ≡ true
    → (is_star t ≡ false) × (is_brace t ≡ false) × (is_default t ≡ false)
declaration-apart (token.Word (word.Keyword keyword.Var)) h = (refl, refl, refl)
declaration-apart (token.Word (word.Keyword keyword.Let)) h = (refl, refl, refl)
declaration-apart (token.Word (word.Keyword keyword.Const)) h = (refl, refl, refl)
declaration-apart (token.Word (word.Keyword keyword.Class)) h = (refl, refl, refl)
declaration-apart (token.Word (word.Keyword keyword.Function)) h = (refl, refl, refl)
declaration-apart (token.Word (word.Ident w)) h = (refl, refl, refl)
declaration-apart t h = cc

of-apart : (t : Token) → is_of t ≡ true → is_in t ≡ false
of-apart (token.Word (word.Ident w)) h = refl
of-apart t h = cc

names-apart : (t : Token) → (is_star t || is_brace t) ≡ true → is_str t ≡ false
names-apart (token.Str value raw) h = cc
names-apart t h = refl

function-here : (xs : List TokenAndSpan) → begins_function xs ≡ true → begins_a_function xs ≡ true
function-here [] h = cc
function-here (a ∷ []) h = by-test (is_function a.token) (is_async a.token) h
  where
    by-test : (x y : Bool) → (x || (y && false)) ≡ true → (x || false) ≡ true
    by-test true y h = refl
    by-test false true h = cc
    by-test false false h = cc
function-here (a ∷ (b ∷ us)) h = h

import-declared : (a b : TokenAndSpan) → is_import_declaration a b ≡ true
    → not (is_lparen b.token || is_dot b.token) ≡ true
import-declared a b h = (both (is_import a.token) _ h).1

labelled-here : {F C K : Type 0} {b : Bool} (c : Scope) (a : TokenAndSpan) (us : List TokenAndSpan) (n : Spelling)
    → label c a.token a.span ≡ Some n → sees (λ d. is_colon d.token) us ≡ true
    → statement {F = F} {C = C} {K = K} b c (a ∷ us) ≡ pick st-labelled
labelled-here c a [] n o h = cc
labelled-here {F = F} {C = C} {K = K} {b = b} c a (d ∷ us) n o h =
    subst (λ v. statement {F = F} {C = C} {K = K} b c (a ∷ (tk v d.had_line_break d.span ∷ us)) ≡ pick st-labelled)
    (sym_path (colon-is d.token h))
    (labelled-so c a.token a.had_line_break a.span d.had_line_break d.span us n o)

pub chosen-so : {F C K : Type 0} {s : Symbol} {c : Scope} {r : Side F C K s} (p : Production s c r)
    (xs : List TokenAndSpan) → ends s xs ≡ true → guard (ends s) r xs ≡ true
    → choose {F = F} {C = C} {K = K} s c xs ≡ pick p
chosen-so string-first (a ∷ us) e g = on-not (is_str a.token) _ _ _ g
chosen-so no-string (a ∷ us) e g = off (is_str a.token) _ _ _ g
chosen-so items-end (a ∷ us) e g = on-not (ends_list a) _ _ _ g
chosen-so items-more (a ∷ us) e g = off (ends_list a) _ _ _ g
chosen-so (item-statement {m = false}) xs e g = refl
chosen-so (item-statement {m = true}) (a ∷ []) e g = off (is_export a.token) _ _ _ g
chosen-so (item-statement {m = true}) (a ∷ (b ∷ us)) e g =
    off-both (is_export a.token) (is_import_declaration a b) _ _ _ _ g
chosen-so st-block (a ∷ []) e g =
    rw (brace-is a.token (is-on (is_brace a.token) (head-of (not (not (is_brace a.token))) _ g))) refl
chosen-so st-block (a ∷ (b ∷ us)) e g =
    rw (brace-is a.token (is-on (is_brace a.token) (head-of (not (not (is_brace a.token))) _ g))) refl
chosen-so st-var (a ∷ us) e g = rw (var-is a.token (head-of (is_var a.token) _ g)) refl
chosen-so st-let (a ∷ []) e g = let (x, y) = both (is_let a.token) _ g in cc
chosen-so st-let (a ∷ (b ∷ us)) e g =
    let (x, y) = both (not (not (is_let_here false a b))) _ g in
    let (z, w) = both (is_let a.token) (goes_on_let b.token && true) (is-on (is_let_here false a b) x) in
    rw (let-is a.token z, w) refl
chosen-so st-const (a ∷ us) e g = rw (const-is a.token (head-of (is_const a.token) _ g)) refl
chosen-so st-empty (a ∷ []) e g = rw (semi-is a.token (head-of (is_semi a.token) _ g)) refl
chosen-so st-empty (a ∷ (b ∷ us)) e g = rw (semi-is a.token (head-of (is_semi a.token) _ g)) refl
chosen-so {c = c} (st-expression {b = b}) (a ∷ us) e g =
    let (x, y) = both (not (begins_other a)) _ g in
    let (z, w) = both (not (sees_two (begins_other_two b) (a ∷ us))) _ y in
    expression-so c a.token a.had_line_break a.span us (keyword-apart c a.token w) x z
chosen-so st-if (a ∷ us) e g = rw (if-is a.token (head-of (is_if a.token) _ g)) refl
chosen-so st-do (a ∷ us) e g = rw (do-is a.token (head-of (is_do a.token) _ g)) refl
chosen-so st-while (a ∷ us) e g = rw (while-is a.token (head-of (is_while a.token) _ g)) refl
chosen-so st-for (a ∷ us) e g = rw (for-is a.token (head-of (is_for a.token) _ g)) refl
chosen-so {c = c} for-await [] e g = absurd (no-right c.context.in_async g)
chosen-so {c = c} for-await (a ∷ us) e g = on-pair c.context.in_async (is_await a.token) _ _ _ g
chosen-so {c = c} for-plain [] e g = neither-of c.context.in_async _ _
chosen-so {c = c} for-plain (a ∷ us) e g = off (c.context.in_async && is_await a.token) _ _ _ g
chosen-so head-declared xs e g = one-on (begins_head xs) _ _ (both (some xs || false) (begins_head xs) g).1
chosen-so head-empty (a ∷ []) e g =
    rw (semi-is a.token (is-on (is_semi a.token) (head-of (not (not (is_semi a.token))) _ g))) refl
chosen-so head-empty (a ∷ (b ∷ us)) e g =
    rw (semi-is a.token (is-on (is_semi a.token) (head-of (not (not (is_semi a.token))) _ g))) refl
chosen-so head-other (a ∷ []) e g = off-head (is_semi a.token) (is_var a.token) (is_const a.token) false _ _ _ _ g
chosen-so head-other (a ∷ (b ∷ us)) e g =
    off-head (is_semi a.token) (is_var a.token) (is_const a.token) (is_let_declaration a b) _ _ _ _ g
chosen-so head-let (a ∷ []) e g = let (x, y) = both (is_let a.token) _ g in cc
chosen-so head-let (a ∷ (b ∷ us)) e g =
    let (x, y) = both (not (not (is_let_declaration a b))) _ g in
    rw (let-is a.token (head-of (is_let a.token) _ y)) refl
chosen-so head-const (a ∷ us) e g = rw (const-is a.token (head-of (is_const a.token) _ g)) refl
chosen-so head-value-none (a ∷ us) e g = on-not (is_of a.token || is_in a.token) _ _ _ g
chosen-so head-value-some (a ∷ us) e g = off (is_of a.token || is_in a.token) _ _ _ g
chosen-so (each-of {a = true}) xs e g = refl
chosen-so (each-of {a = false}) (t ∷ us) e g =
    one-off (is_in t.token) _ _ (of-apart t.token (head-of (is_of t.token) _ g))
chosen-so (maybe-none {b = b}) (a ∷ us) e g = on-not (if b then is_semi a.token else is_rparen a.token) _ _ _ g
chosen-so (maybe-some {b = b}) (a ∷ us) e g = off (if b then is_semi a.token else is_rparen a.token) _ _ _ g
chosen-so st-continue (a ∷ us) e g = rw (continue-is a.token (head-of (is_continue a.token) _ g)) refl
chosen-so st-break (a ∷ us) e g = rw (break-is a.token (head-of (is_break a.token) _ g)) refl
chosen-so st-return (a ∷ us) e g = rw (return-is a.token (head-of (is_return a.token) _ g)) refl
chosen-so st-with (a ∷ us) e g = rw (with-is a.token (head-of (is_with a.token) _ g)) refl
chosen-so st-switch (a ∷ us) e g = rw (switch-is a.token (head-of (is_switch a.token) _ g)) refl
chosen-so clauses-more (a ∷ us) e g = not-on (is_rbrace a.token) _ _ g
chosen-so clause-default (a ∷ us) e g = rw (default-is a.token (head-of (is_default a.token) _ g)) refl
chosen-so {c = c} st-labelled (a ∷ []) e g = let (n, o, h) = given-guard _ (label c a.token a.span) _ [] g in cc
chosen-so {c = c} st-labelled (a ∷ (d ∷ us)) e g =
    let (n, o, h) = given-guard _ (label c a.token a.span) _ (d ∷ us) g in
    labelled-here c a (d ∷ us) n o (both (is_colon d.token) _ h).0
chosen-so st-throw (a ∷ us) e g = rw (throw-is a.token (head-of (is_throw a.token) _ g)) refl
chosen-so st-try (a ∷ us) e g = rw (try-is a.token (head-of (is_try a.token) _ g)) refl
chosen-so handlers-finally (a ∷ us) e g = rw (finally-is a.token (head-of (is_finally a.token) _ g)) refl
chosen-so st-debugger (a ∷ us) e g = rw (debugger-is a.token (head-of (is_debugger a.token) _ g)) refl
chosen-so st-function (a ∷ []) e g = function-alone _ a.token a.had_line_break a.span g
chosen-so st-function (a ∷ (b ∷ us)) e g = function-so _ a.token a.had_line_break a.span b us g
chosen-so st-class (a ∷ us) e g = rw (class-is a.token g) refl
chosen-so {c = c} function-name (a ∷ us) e g = let (w, i) = bound-word _ (name_scope c) a us _ g in rw i refl
chosen-so class-name (a ∷ us) e g = off (is_brace a.token || is_extends a.token) _ _ _ g
chosen-so class-unnamed (a ∷ us) e g = on-not (is_brace a.token || is_extends a.token) _ _ _ g
chosen-so members-semicolon (a ∷ us) e g = rw (semi-is a.token (head-of (is_semi a.token) _ g)) refl
chosen-so members-more (a ∷ us) e g = off-two (is_semi a.token) (is_rbrace a.token) _ _ _ _ g
chosen-so (modifier-some {m = m}) (a ∷ []) e g = absurd (no-right (is_modifier m a.token) g)
chosen-so (modifier-some {m = m}) (a ∷ (b ∷ us)) e g = on-not (is_modifier_here m a b) _ _ _ g
chosen-so (modifier-none {m = m}) (a ∷ []) e g = refl
chosen-so (modifier-none {m = m}) (a ∷ (b ∷ us)) e g = off (is_modifier_here m a b) _ _ _ g
chosen-so (member-keyed {b = true}) (a ∷ us) e g = off (is_brace a.token) _ _ _ g
chosen-so (member-keyed {b = false}) xs e g = refl
chosen-so accessor-get (a ∷ []) e g = absurd (no-right (is_modifier Getter a.token) g)
chosen-so accessor-get (a ∷ (b ∷ us)) e g = on-not (is_modifier_here Getter a b) _ _ _ g
chosen-so accessor-other (a ∷ []) e g = refl
chosen-so accessor-other (a ∷ (b ∷ us)) e g = off (is_modifier_here Getter a b) _ _ _ g
chosen-so item-import (a ∷ []) e g = let (x, y) = both (is_import a.token) _ g in cc
chosen-so item-import (a ∷ (b ∷ us)) e g =
    let (x, y) = both (not (not (is_import_declaration a b))) _ g in
    let d = is-on (is_import_declaration a b) x in
    rw (import-is a.token (head-of (is_import a.token) _ y)) (one-on _ _ _ (import-declared a b d))
chosen-so import-alone (a ∷ us) e g = on-not (is_str a.token) _ _ _ g
chosen-so import-names (a ∷ us) e g =
    two-on (is_str a.token) (is_star a.token || is_brace a.token) _ _ _ (names-apart a.token g) g
chosen-so {c = c} import-first (a ∷ []) e g = let (n, o, h) = given-guard _ (binding c a.token a.span) _ [] g in cc
chosen-so {c = c} import-first (a ∷ (b ∷ us)) e g =
    let (n, o, h) = given-guard _ (binding c a.token a.span) _ (b ∷ us) g in
    let (w, i) = binding-word c a.token a.span n o in
    rw i (off (is_comma b.token) _ _ _ h)
chosen-so {c = c} import-first-more (a ∷ []) e g = let (n, o, h) = given-guard _ (binding c a.token a.span) _ [] g in cc
chosen-so {c = c} import-first-more (a ∷ (b ∷ us)) e g =
    let (n, o, h) = given-guard _ (binding c a.token a.span) _ (b ∷ us) g in
    let (w, i) = binding-word c a.token a.span n o in
    rw i (on (is_comma b.token) _ _ _ h)
chosen-so import-list (a ∷ us) e g = rw (brace-is a.token (head-of (is_brace a.token) _ g)) refl
chosen-so import-names-more (a ∷ us) e g = not-on (is_rbrace a.token) _ _ g
chosen-so import-tail-more (a ∷ us) e g = rw (comma-is a.token (head-of (is_comma a.token) _ g)) refl
chosen-so import-name (a ∷ []) e g = refl
chosen-so import-name (a ∷ (b ∷ us)) e g = off (is_renamed a b) _ _ _ g
chosen-so import-renamed (a ∷ []) e g = let (n, o, h) = given-guard _ (export_name_of a.token a.span) _ [] g in cc
chosen-so import-renamed (a ∷ (b ∷ us)) e g = on-not (is_renamed a b) _ _ _ g
chosen-so attributes-more (a ∷ us) e g = not-on (is_rbrace a.token) _ _ g
chosen-so attributes-tail-more (a ∷ us) e g = rw (comma-is a.token (head-of (is_comma a.token) _ g)) refl
chosen-so item-export (a ∷ us) e g = on (is_export a.token) _ _ _ g
chosen-so export-list (a ∷ us) e g = rw (brace-is a.token (head-of (is_brace a.token) _ g)) refl
chosen-so export-default-item (a ∷ us) e g = rw (default-is a.token (head-of (is_default a.token) _ g)) refl
chosen-so export-declared (a ∷ us) e g =
    let (x, y) = both (not (not (begins_declaration a.token))) _ g in
    let (p, q, r) = declaration-apart a.token (is-on (begins_declaration a.token) x) in
    three-off (is_star a.token) (is_brace a.token) (is_default a.token) _ _ _ _ p q r
chosen-so default-function xs e g = one-on (begins_a_function xs) _ _ (function-here xs g)
chosen-so default-class (a ∷ []) e g = rw (class-is a.token g) refl
chosen-so default-class (a ∷ (b ∷ us)) e g = rw (class-is a.token g) refl
chosen-so default-expression (a ∷ []) e g = off-three (is_function a.token) (is_class a.token) false _ _ _ _ g
chosen-so default-expression (a ∷ (b ∷ us)) e g =
    off-three (is_function a.token) (is_class a.token) (is_async_function a b) _ _ _ _ g
chosen-so export-names-more (a ∷ us) e g = not-on (is_rbrace a.token) _ _ g
chosen-so export-tail-more (a ∷ us) e g = rw (comma-is a.token (head-of (is_comma a.token) _ g)) refl
chosen-so (from-some {b = true}) xs e g = refl
chosen-so (from-some {b = false}) (a ∷ us) e g = on (is_from a.token) _ _ _ g
chosen-so p [] e g = cc
chosen-so p (a ∷ us) e g = search (on, off, on-not, off-first)
