-- By two tokens: what an assignment expression begins with, where it may be an arrow function (15.3, 15.9).
use Rattle.std.specs.Prelude.{◌≡◌, true, false, ◌&&◌, if◌then◌else◌, List, Option, Some, None}
use Rattle.swc_context.specs.{Reserved.is_reserved, declared.context.Context.Context, declared.word.Word.Word}
use Rattle.swc_input.specs.{declared.token.Token.Token, declared.token.Token.Token as token, declared.token.TokenAndSpan.TokenAndSpan, Kinds.at_token}
use Rattle.swc_bodies.specs.Readings.{is_async as is_async_token}
use Rattle.swc_grammar.specs.Tokens.{is_put_off, is_reference, may_be_reference}
use Rattle.swc_grammar.specs.{Arrows.is_arrow_word, Clean.first, Clean.second}
use Rattle.swc_arrows.specs.{declared.starts.FirstKind.FirstKind, declared.starts.FirstKind.FirstKind as first_is, declared.starts.NextKind.NextKind, declared.starts.NextKind.NextKind as next_is, declared.starts.StartKind.StartKind, declared.starts.StartKind.StartKind as head}

-- the first token
abbrev pub word_kind : Context → Word → FirstKind
word_kind c w =
    if is_put_off w then first_is.Async else
    (if is_arrow_word w && is_reference c w then first_is.Word else first_is.Other)

abbrev pub token_kind : Context → Token → FirstKind
token_kind c token.LParen = first_is.Paren
token_kind c (token.Word w) = word_kind c w
token_kind c t = first_is.Other

abbrev pub first_kind : Context → Option TokenAndSpan → FirstKind
first_kind c None = first_is.Other
first_kind c (Some t) = token_kind c t.token

-- the token after it, on its line
abbrev pub next_token : Context → Token → NextKind
next_token c token.Arrow = next_is.Arrow
next_token c token.LParen = next_is.Paren
next_token c (token.Word w) = if is_reserved c w then next_is.Other else next_is.Word
next_token c t = next_is.Other

abbrev pub next_kind : Context → Option TokenAndSpan → NextKind
next_kind c None = next_is.Other
next_kind c (Some t) = if t.had_line_break then next_is.Other else next_token c t.token

-- what both begin
abbrev pub name_head : NextKind → StartKind
name_head next_is.Arrow = head.Name
name_head k = head.Other

abbrev pub async_head : NextKind → StartKind
async_head next_is.Arrow = head.Name
async_head next_is.Paren = head.List true
async_head next_is.Word = head.AsyncName
async_head next_is.Other = head.Other

abbrev pub head_by : FirstKind → NextKind → StartKind
head_by first_is.Paren k = head.List false
head_by first_is.Async k = async_head k
head_by first_is.Word k = name_head k
head_by first_is.Other k = head.Other

abbrev pub start_kind : Context → List TokenAndSpan → StartKind
start_kind c ts = head_by (first_kind c (first ts)) (next_kind c (second ts))

-- what is current where a head begins: a reference, or `async`
abbrev pub begins_head : Context → StartKind → Option TokenAndSpan → Type 0
begins_head c head.Name o = at_token (may_be_reference c) o ≡ true
begins_head c head.AsyncName o = at_token is_async_token o ≡ true
begins_head c (head.List is_async) o = is_async ≡ true → at_token is_async_token o ≡ true
begins_head c head.Other o = Unit {0}
