-- Arrow functions (15.3): their tokens and contexts.
use Rattle.std.specs.Prelude.{Bool, true, false, not, ◌&&◌, ◌||◌, Option, codes}
use Rattle.swc_context.specs.{Reserved.is_reserved, Reserved.strict_binding_words, Texts.is_text, Texts.is_one_of, Words.word_text, declared.context.Context.Context, declared.span.Span.Span, declared.word.Keyword.Keyword as keyword, declared.word.Word.Word, declared.word.Word.Word as word}
use Rattle.swc_input.specs.{declared.token.Token.Token, declared.token.Token.Token as token, declared.token.TokenAndSpan.TokenAndSpan}
use Rattle.swc_ast.specs.Tree.{Tree, node, block}
use Rattle.swc_grammar.specs.Names.{Spelling, may_refer, may_bind, spelled}
use Rattle.swc_grammar.specs.{Scope.Scope, Tokens.is_put_off, Tokens.is_lparen}
use Rattle.swc_bodies.specs.Readings.{is_function}

-- `=>`
abbrev pub is_arrow : Token → Bool
is_arrow token.Arrow = true
is_arrow t = false

-- a parameter without parentheses: a reference that is no keyword but `yield`; in a strict module neither `eval` nor
-- `arguments`
abbrev pub is_arrow_word : Word → Bool
is_arrow_word (word.Ident name) = true
is_arrow_word (word.Keyword keyword.Yield) = true
is_arrow_word w = false

abbrev pub binds_alone : Context → Word → Bool
binds_alone c w = is_arrow_word w && not ((c.module && c.strict) && is_one_of (word_text w) strict_binding_words)

abbrev pub arrow_name : Scope → Token → Span → Option Spelling
arrow_name c = spelled (λ w. may_refer c.context w && binds_alone c.context w)

-- The word `async`, as a reference. On its line no `function` is after it; nor, where an assignment expression begins
-- with it, a `(`, or a word that may be bound, with which an async arrow function goes on (15.9). But in the head of a
-- `for await` (14.7.5) that may be `of`, if no `=>` is after it; in that of another `for` it is an early error.
abbrev pub async_name : Scope → Token → Span → Option Spelling
async_name c = spelled (λ w. may_refer c.context w && is_put_off w)

abbrev pub is_bindable : Scope → Token → Bool
is_bindable c (token.Word w) = not (is_reserved c.context w)
is_bindable c t = false

abbrev pub is_of : Token → Bool
is_of (token.Word (word.Ident w)) = is_text w (codes "of")
is_of t = false

abbrev pub before_of : Scope → Token → Bool
before_of c t = (c.context.expr_ctx.for_loop_init && c.context.expr_ctx.for_await_loop_init) && is_of t

abbrev pub goes_on_async : Scope → TokenAndSpan → Bool
goes_on_async c t =
    not t.had_line_break
    && (is_function t.token || (c.head && (is_lparen t.token || (is_bindable c t.token && not (before_of c t.token)))))

abbrev pub of_arrow : Scope → TokenAndSpan → TokenAndSpan → Bool
of_arrow c t u =
    c.head && (not t.had_line_break && ((is_bindable c t.token && before_of c t.token) && is_arrow u.token))

-- the parameter without parentheses of an async one: it is bound, and no reserved word
abbrev pub async_param : Scope → Token → Span → Option Spelling
async_param c = spelled (λ w. may_bind c.context w && not (is_reserved c.context w))

-- After parameters in parentheses and a block no binary operator comes, but for `in` and `instanceof`, which are left
-- unread: no expression goes on there.
abbrev pub is_sign : Token → Bool
is_sign (token.BinOp b) = true
is_sign t = false

abbrev pub is_block : {F C K : Type 0} → Tree F C K → Bool
is_block (node (block v) s ts) = true
is_block t = false
