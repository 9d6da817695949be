-- What two tokens tell of an assignment expression's beginning, as the clean parser asks for it.
use Rattle.std.specs.Prelude.{◌≡◌, Bool, true, false, not, ◌&&◌, if◌then◌else◌, codes, List, Option, Some, None}
use Rattle.std.proofs.Common.{refl, ap, subst, ◌∙◌}
use Rattle.swc_context.specs.{Reserved.is_reserved, Reserved.reserved_name, declared.context.Context.Context, declared.word.Word.Word, declared.word.Word.Word as written}
use Rattle.swc_input.specs.{declared.token.Token.Token, declared.token.Token.Token as token, declared.token.TokenAndSpan.TokenAndSpan, Kinds.at_token}
use Rattle.swc_bodies.specs.Readings.{is_async}
use Rattle.swc_grammar.specs.Arrows.{is_arrow, is_arrow_word, is_bindable}
use Rattle.swc_grammar.specs.Clean.{first, second, is_alone, is_arrow_here, is_lparen_here, is_bindable_here, begins_arrow, begins_async_list}
use Rattle.swc_grammar.specs.Scope.{Scope}
use Rattle.swc_grammar.specs.Tokens.{is_lparen, is_put_off, is_reference}
use Rattle.swc_steps.proofs.Words.{is_same}
use Rattle.swc_arrows.specs.Starts.{word_kind, token_kind, first_kind, next_token, next_kind, head_by, start_kind}
use Rattle.swc_arrows.specs.{declared.starts.FirstKind.FirstKind, declared.starts.FirstKind.FirstKind as first_is, declared.starts.NextKind.NextKind, declared.starts.NextKind.NextKind as next_is, declared.starts.StartKind.StartKind, declared.starts.StartKind.StartKind as head}

-- ---- the first token

-- `async` is a reference wherever it is
reserved_async : (strict : Bool) → reserved_name strict (codes "async") ≡ false
reserved_async true = refl
reserved_async false = refl

async_refers : (c : Context) (w : Word) → is_put_off w ≡ true → is_reference c w ≡ true
async_refers c (written.Ident w) h =
    ap (λ v. not (reserved_name c.strict v)) (is_same w (codes "async") h) ∙ ap not (reserved_async c.strict)
async_refers c w h = absurd cc

async_alone : (c : Context) (w : Word) → is_put_off w ≡ true → (is_reference c w && is_arrow_word w) ≡ true
async_alone c (written.Ident w) h = rw (async_refers c (written.Ident w) h) refl
async_alone c w h = absurd cc

put_token : (w : Word) (b : Bool) → is_put_off w ≡ b → is_async (token.Word w) ≡ b
put_token (written.Ident w) b h = h
put_token w b h = h

-- what the clean parser's tests say of it
pub record Tests (c : Context) (o : Option TokenAndSpan) (p y a : Bool) : Type 0 where
  pub paren : at_token is_lparen o ≡ p
  pub async : at_token is_async o ≡ y
  pub alone : at_token (is_alone c) o ≡ a

abbrev pub Says : Context → Option TokenAndSpan → FirstKind → Type 0
Says c o first_is.Paren = Tests c o true false false
Says c o first_is.Async = Tests c o false true true
Says c o first_is.Word = Tests c o false false true
Says c o first_is.Other = Tests c o false false false

commuted : (a b : Bool) → (a && b) ≡ (b && a)
commuted true true = refl
commuted true false = refl
commuted false true = refl
commuted false false = refl

word_says : (c : Context) (w : Word) (t : TokenAndSpan) → t.token ≡ token.Word w → Says c (Some t) (word_kind c w)
word_says c w t e = by_put (is_put_off w) refl
  where
    by_word : (b : Bool) → (is_arrow_word w && is_reference c w) ≡ b → is_put_off w ≡ false
        → Says c (Some t) (if b then first_is.Word else first_is.Other)
    by_word true h k = record {
      paren = ap is_lparen e;
      async = ap is_async e ∙ put_token w false k;
      alone = ap (is_alone c) e ∙ commuted (is_reference c w) (is_arrow_word w) ∙ h;
    }
    by_word false h k = record {
      paren = ap is_lparen e;
      async = ap is_async e ∙ put_token w false k;
      alone = ap (is_alone c) e ∙ commuted (is_reference c w) (is_arrow_word w) ∙ h;
    }

    by_put : (b : Bool) → is_put_off w ≡ b → Says c (Some t)
        (if b then first_is.Async else (if is_arrow_word w && is_reference c w then first_is.Word else first_is.Other))
    by_put true h = record {
      paren = ap is_lparen e;
      async = ap is_async e ∙ put_token w true h;
      alone = ap (is_alone c) e ∙ async_alone c w h;
    }
    by_put false h = by_word (is_arrow_word w && is_reference c w) refl h

token_says : (c : Context) (k : Token) (t : TokenAndSpan) → t.token ≡ k → Says c (Some t) (token_kind c k)
token_says c token.LParen t e = record { paren = ap is_lparen e; async = ap is_async e; alone = ap (is_alone c) e }
token_says c (token.Word w) t e = word_says c w t e
token_says c k t e = record { paren = ap is_lparen e; async = ap is_async e; alone = ap (is_alone c) e }

pub first_says : (c : Context) (o : Option TokenAndSpan) → Says c o (first_kind c o)
first_says c None = record { paren = refl; async = refl; alone = refl }
first_says c (Some t) = token_says c t.token t refl

-- ---- the one after it

pub record Behind (x : Scope) (o : Option TokenAndSpan) (a p w : Bool) : Type 0 where
  pub arrow : is_arrow_here o ≡ a
  pub paren : is_lparen_here o ≡ p
  pub word : is_bindable_here x o ≡ w

abbrev pub SaysNext : Scope → Option TokenAndSpan → NextKind → Type 0
SaysNext x o next_is.Arrow = Behind x o true false false
SaysNext x o next_is.Paren = Behind x o false true false
SaysNext x o next_is.Word = Behind x o false false true
SaysNext x o next_is.Other = Behind x o false false false

with_break : (x : Scope) (t : TokenAndSpan) → t.had_line_break ≡ true → Behind x (Some t) false false false
with_break x t h = record {
  arrow = ap (λ b. not b && is_arrow t.token) h;
  paren = ap (λ b. not b && is_lparen t.token) h;
  word = ap (λ b. not b && is_bindable x t.token) h;
}

on_line : (x : Scope) (k : Token) (t : TokenAndSpan) → t.had_line_break ≡ false → t.token ≡ k → (a p w : Bool)
    → is_arrow k ≡ a → is_lparen k ≡ p → is_bindable x k ≡ w → Behind x (Some t) a p w
on_line x k t h e a p w i j l = record {
  arrow = ap (λ b. not b && is_arrow t.token) h ∙ ap is_arrow e ∙ i;
  paren = ap (λ b. not b && is_lparen t.token) h ∙ ap is_lparen e ∙ j;
  word = ap (λ b. not b && is_bindable x t.token) h ∙ ap (is_bindable x) e ∙ l;
}

word_next : (x : Scope) (w : Word) (t : TokenAndSpan) → t.had_line_break ≡ false → t.token ≡ token.Word w → (b : Bool)
    → is_reserved x.context w ≡ b → SaysNext x (Some t) (if b then next_is.Other else next_is.Word)
word_next x w t h e true r = on_line x (token.Word w) t h e false false false refl refl (ap not r)
word_next x w t h e false r = on_line x (token.Word w) t h e false false true refl refl (ap not r)

token_next : (x : Scope) (k : Token) (t : TokenAndSpan) → t.had_line_break ≡ false → t.token ≡ k
    → SaysNext x (Some t) (next_token x.context k)
token_next x token.Arrow t h e = on_line x token.Arrow t h e true false false refl refl refl
token_next x token.LParen t h e = on_line x token.LParen t h e false true false refl refl refl
token_next x (token.Word w) t h e = word_next x w t h e (is_reserved x.context w) refl
token_next x k t h e = on_line x k t h e false false false refl refl refl

pub next_says : (x : Scope) (o : Option TokenAndSpan) → SaysNext x o (next_kind x.context o)
next_says x None = record { arrow = refl; paren = refl; word = refl }
next_says x (Some t) = by_break t.had_line_break refl
  where
    by_break : (b : Bool) → t.had_line_break ≡ b
        → SaysNext x (Some t) (if b then next_is.Other else next_token x.context t.token)
    by_break true h = with_break x t h
    by_break false h = token_next x t.token t h refl

-- ---- both

-- what the clean parser asks for: an arrow function with a name, a list, and after `async` a word or a list
pub record Picks (x : Scope) (ts : List TokenAndSpan) (a p n l : Bool) : Type 0 where
  pub arrow : begins_arrow x ts ≡ a
  pub paren : at_token is_lparen (first ts) ≡ p
  pub name : (at_token is_async (first ts) && is_bindable_here x (second ts)) ≡ n
  pub list : begins_async_list ts ≡ l

abbrev pub Chosen : Scope → List TokenAndSpan → StartKind → Type 0
Chosen x ts head.Name = Picks x ts true false false false
Chosen x ts head.AsyncName = Picks x ts false false true false
Chosen x ts (head.List true) = Picks x ts false false false true
Chosen x ts (head.List false) = Picks x ts false true false false
Chosen x ts head.Other = Picks x ts false false false false

module _ {x : Scope} {ts : List TokenAndSpan} where
  picks : {p y al ar pa wo : Bool} → Tests x.context (first ts) p y al → Behind x (second ts) ar pa wo
      → Picks x ts (al && ar) p (y && wo) (y && pa)
  picks t n = record {
    arrow = rw (t.alone, n.arrow) refl;
    paren = t.paren;
    name = rw (t.async, n.word) refl;
    list = rw (t.async, n.paren) refl;
  }

  no_picks : {p : Bool} → Tests x.context (first ts) p false false → Picks x ts false p false false
  no_picks t = record {
    arrow = rw t.alone refl;
    paren = t.paren;
    name = rw t.async refl;
    list = rw t.async refl;
  }

module _ (x : Scope) (ts : List TokenAndSpan) where
  by_kinds : (f : FirstKind) (k : NextKind) → Says x.context (first ts) f → SaysNext x (second ts) k
      → Chosen x ts (head_by f k)
  by_kinds first_is.Paren k t n = no_picks t
  by_kinds first_is.Other k t n = no_picks t
  by_kinds first_is.Async next_is.Arrow t n = picks t n
  by_kinds first_is.Async next_is.Paren t n = picks t n
  by_kinds first_is.Async next_is.Word t n = picks t n
  by_kinds first_is.Async next_is.Other t n = picks t n
  by_kinds first_is.Word next_is.Arrow t n = picks t n
  by_kinds first_is.Word next_is.Paren t n = picks t n
  by_kinds first_is.Word next_is.Word t n = picks t n
  by_kinds first_is.Word next_is.Other t n = picks t n

  pub head_picks : (k : StartKind) → start_kind x.context ts ≡ k → Chosen x ts k
  head_picks k e =
      subst (Chosen x ts) e (by_kinds (first_kind x.context (first ts)) (next_kind x.context (second ts))
      (first_says x.context (first ts)) (next_says x (second ts)))
