-- Where the reading of a symbol stops: at hard stops, and before the tokens that close lists.
use Rattle.std.specs.Prelude.{◌≡◌, Bool, true, false, not, ◌||◌, ◌&&◌, List, [], ◌∷◌, None}
use Rattle.std.proofs.Common.{refl, arith}
use Rattle.swc_context.specs.{declared.span.Span.Span, declared.word.Keyword.Keyword as keyword, declared.word.Word.Word as word}
use Rattle.swc_input.specs.{declared.token.Token.Token, declared.token.Token.Token as token, declared.token.TokenAndSpan.TokenAndSpan, Kinds.at_token}
use Rattle.swc_grammar.specs.Tokens.{tk, binary_of, is_closer, is_word_apart, is_stop, is_comma, is_rbracket, is_rbrace, is_colon, ends_prop, with_in}
use Rattle.swc_grammar.specs.Symbols.{Symbol, Expr, Assign, Level, Unary, ArgsTail, ElementsTail, Item, Element, PatProp, ArrowBody}
use Rattle.swc_grammar.specs.Reads.{is_stop_for, Stops, at-end, at-stop}
use Rattle.swc_grammar.specs.Clean.{first, ends_unary, no_assign_at, ends_assign, Bound, Stop}
use Rattle.swc_grammar.specs.{Scope.Scope, Firsts.starts}
use Rattle.swc_grammar.proofs.Only.{colon-is, comma-is, rbrace-is, rbracket-is}
use Rattle.swc_grammar.proofs.{Answers.both, Complete.Bools.or-right, Complete.Bools.is-false}

-- at the end and before a hard stop no operator is read, and no link
stop-token : (c : Scope) (t : Token) (b : Bool) → (is_comma t || (is_closer t || is_word_apart t b)) ≡ true
    → binary_of c.context t ≡ None
stop-token c (token.Word (word.Keyword keyword.In)) true h = absurd cc
stop-token c (token.Word (word.Keyword keyword.In)) false h = absurd cc
stop-token c (token.Word (word.Keyword keyword.InstanceOf)) true h = absurd cc
stop-token c (token.Word (word.Keyword keyword.InstanceOf)) false h = absurd cc
stop-token c (token.BinOp o) b h = absurd cc
stop-token c t b h = refl

ends-token : (t : TokenAndSpan) (us : List TokenAndSpan)
    → (is_comma t.token || (is_closer t.token || is_word_apart t.token t.had_line_break)) ≡ true
    → ends_assign (t ∷ us) ≡ true
ends-token t us h = by-token t.token t.had_line_break t.span h
  where
    by-token : (u : Token) (d : Bool) (s : Span) → (is_comma u || (is_closer u || is_word_apart u d)) ≡ true
        → ends_assign (tk u d s ∷ us) ≡ true
    by-token token.Dot d s h = absurd cc
    by-token token.LBracket d s h = absurd cc
    by-token token.BackQuote d s h = absurd cc
    by-token token.QuestionMark d s h = absurd cc
    by-token token.LParen d s h = absurd cc
    by-token token.PlusPlus d s h = absurd cc
    by-token token.MinusMinus d s h = absurd cc
    by-token (token.AssignOp op) d s h = absurd cc
    by-token token.Arrow d s h = absurd cc
    by-token u d s h = refl

stop-any : (s : Symbol) (t : TokenAndSpan) → is_stop_for s t ≡ true → (is_comma t.token || is_stop t) ≡ true
stop-any Expr t h = or-right (is_comma t.token) (is_stop t) h
stop-any Assign t h = h
stop-any (Level n) t h = h
stop-any Unary t h = h
stop-any Element t h = h
stop-any (ArrowBody is_async) t h = h
stop-any PatProp t h = less-colon (is_comma t.token) (is_stop t) (is_colon t.token) h
  where
    less-colon : (a b c : Bool) → (a || (b && not c)) ≡ true → (a || b) ≡ true
    less-colon true b c h = refl
    less-colon false true c h = refl
    less-colon false false c h = absurd cc
stop-any s t h = absurd cc

stops-bound : {ys : List TokenAndSpan} (s : Symbol) (c : Scope) → Stops s ys → Bound c 0 ys
stops-bound s c at-end = λ op e. absurd cc
stops-bound s c (at-stop {t = t} h) =
    let n = stop-token c t.token t.had_line_break (stop-any s t h) in λ op e. absurd cc

stops-end : {ys : List TokenAndSpan} (s : Symbol) → Stops s ys → ends_assign ys ≡ true
stops-end s at-end = refl
stops-end s (at-stop {t = t} {ts = ts} h) = ends-token t ts (stop-any s t h)

stops-comma : {ys : List TokenAndSpan} → Stops Expr ys → at_token is_comma (first ys) ≡ false
stops-comma at-end = refl
stops-comma (at-stop {t = t} h) = by-token t.token t.had_line_break h
  where
    by-token : (u : Token) (d : Bool) → (is_closer u || is_word_apart u d) ≡ true → is_comma u ≡ false
    by-token token.Comma d h = absurd cc
    by-token u d h = refl

-- at a hard stop each symbol of expressions stops
pub stops-assign : {ys : List TokenAndSpan} (s : Symbol) (c : Scope) → Stops s ys → Stop Assign c ys
stops-assign s c h = (stops-end s h, stops-bound s c h)

pub stops-expr : {ys : List TokenAndSpan} (c : Scope) → Stops Expr ys → Stop Expr c ys
stops-expr c h = (rw (stops-end Expr h, stops-comma h) refl, stops-bound Expr c h)

pub stops-unary : {ys : List TokenAndSpan} (s : Symbol) (c : Scope) → Stops s ys → Stop Unary c ys
stops-unary {ys = ys} s c h = (both (ends_unary ys) (no_assign_at (first ys)) (stops-end s h)).0

pub stops-element : {ys : List TokenAndSpan} (c : Scope) → Stops Element ys → Stop Element c ys
stops-element c h = (stops-end Element h, stops-bound Element (with_in c) h)

stops-colon : {ys : List TokenAndSpan} → Stops PatProp ys → at_token is_colon (first ys) ≡ false
stops-colon at-end = refl
stops-colon (at-stop {t = t} h) = by-token t.token t.had_line_break h
  where
    by-token : (u : Token) (d : Bool) → (is_comma u || ((is_closer u || is_word_apart u d) && not (is_colon u))) ≡ true
        → is_colon u ≡ false
    by-token token.Colon d h = absurd cc
    by-token u d h = refl

pub stops-pat-prop : {ys : List TokenAndSpan} (c : Scope) → Stops PatProp ys → Stop PatProp c ys
stops-pat-prop c h = (stops-end PatProp h, stops-bound PatProp (with_in c) h, stops-colon h)

pub stops-level : {ys : List TokenAndSpan} (s : Symbol) (c : Scope) → Stops s ys → Stop (Level 1) c ys
stops-level s c h = (omega arith, stops-unary s c h, stops-bound s c h)

-- what is after a property is no operator and no link
pub ends-prop-stop : (c : Scope) (ys : List TokenAndSpan) → at_token ends_prop (first ys) ≡ true → Stop Assign c ys
ends-prop-stop c [] h = absurd cc
ends-prop-stop c (a ∷ us) h = by-token a.token a.had_line_break a.span h
  where
    by-token : (t : Token) (b : Bool) (s : Span) → ends_prop t ≡ true → Stop Assign c (tk t b s ∷ us)
    by-token token.Comma b s h = (refl, λ op k. absurd cc)
    by-token token.RBrace b s h = (refl, λ op k. absurd cc)
    by-token t b s h = absurd cc

-- an expression stops where an assignment expression does, and no comma comes next
pub expr-stop : (c : Scope) (ys : List TokenAndSpan) → Stop Expr c ys
    → Stop Assign c ys × (at_token is_comma (first ys) ≡ false)
expr-stop c ys (h, b) =
    let (x, y) = both (ends_assign ys) (not (at_token is_comma (first ys))) h in
    ((x, b), is-false (at_token is_comma (first ys)) y)

-- no reading goes on with `]`
pub quiet-rbracket : (c : Scope) (a : TokenAndSpan) (us : List TokenAndSpan) → is_rbracket a.token ≡ true
    → Stop Expr c (a ∷ us)
quiet-rbracket c a us h = rw (rbracket-is a.token h) (refl, λ op k. absurd cc)

-- nor with `}`
pub quiet-rbrace : (c : Scope) (a : TokenAndSpan) (us : List TokenAndSpan) → is_rbrace a.token ≡ true
    → Stop Expr c (a ∷ us)
quiet-rbrace c a us h = rw (rbrace-is a.token h) (refl, λ op k. absurd cc)

-- nor with `:`, nor, but for a sequence, with a comma
pub quiet-colon : (c : Scope) (a : TokenAndSpan) (us : List TokenAndSpan) → is_colon a.token ≡ true
    → Stop Assign c (a ∷ us)
quiet-colon c a us h = rw (colon-is a.token h) (refl, λ op k. absurd cc)

pub quiet-comma : (c : Scope) (a : TokenAndSpan) (us : List TokenAndSpan) → is_comma a.token ≡ true
    → Stop Assign c (a ∷ us)
quiet-comma c a us h = rw (comma-is a.token h) (refl, λ op k. absurd cc)

-- an item is followed by a comma or what closes its list, with which none goes on
pub quiet-tail : (c : Scope) (a : TokenAndSpan) (us : List TokenAndSpan) → starts ElementsTail c a.token ≡ true
    → Stop Item c (a ∷ us)
quiet-tail c a us h = by-token a.token a.had_line_break a.span h
  where
    by-token : (t : Token) (b : Bool) (s : Span) → starts ElementsTail c t ≡ true → Stop Item c (tk t b s ∷ us)
    by-token token.Comma b s h = (refl, λ op k. absurd cc)
    by-token token.RBracket b s h = (refl, λ op k. absurd cc)
    by-token t b s h = absurd cc

pub quiet-args : (i : Bool) (c : Scope) (a : TokenAndSpan) (us : List TokenAndSpan)
    → starts (ArgsTail i) c a.token ≡ true → Stop Item c (a ∷ us)
quiet-args i c a us h = by-token a.token a.had_line_break a.span h
  where
    by-token : (t : Token) (b : Bool) (s : Span) → starts (ArgsTail i) c t ≡ true → Stop Item c (tk t b s ∷ us)
    by-token token.Comma b s h = (refl, λ op k. absurd cc)
    by-token token.RParen b s h = (refl, λ op k. absurd cc)
    by-token t b s h = absurd cc
