-- Which tokens a body is: those to the first `{` that is in no bracket, and through the `}` that closes it.
use Rattle.std.specs.Prelude.{ℕ, zero, suc, ◌+◌, Bool, true, false, List, [], ◌∷◌, Option, Some, None, nat_eq}
use Rattle.swc_context.specs.{declared.context.Context.Context, declared.span.BytePos.BytePos, declared.word.Keyword.Keyword as keyword, declared.word.Word.Word as word, Spans.from_to}
use Rattle.swc_input.specs.{declared.token.Token.Token, declared.token.Token.Token as token, declared.token.TokenAndSpan.TokenAndSpan, Kept.kept}
use Rattle.swc_bodies.specs.Readings.{Hook, is_function, is_async, is_class, is_brace}
use Rattle.swc_bodies.specs.{declared.place.Sign.Sign, declared.place.Sign.Sign as sign, declared.place.Place.Place, declared.place.Place.Place as place, Body.Body}

-- what a token is to a body
abbrev pub sign_of : Token → Sign
sign_of (token.Word (word.Keyword keyword.Function)) = sign.Function
sign_of token.LParen = sign.Open
sign_of token.LBracket = sign.Open
sign_of token.DollarLBrace = sign.Hole
sign_of token.LBrace = sign.Brace
sign_of token.RParen = sign.Close
sign_of token.RBracket = sign.Close
sign_of token.RBrace = sign.CloseBrace
sign_of (token.Error e) = sign.Fault
sign_of t = sign.Other

-- `function` is wanted on the line of `async` alone: after a line break it is a token like others
abbrev pub on_line : Bool → Sign → Sign
on_line true sign.Function = sign.Other
on_line b s = s

abbrev pub sign_at : TokenAndSpan → Sign
sign_at t = on_line t.had_line_break (sign_of t.token)

-- one bracket less, if any is open
abbrev pub closed : ℕ → Option Place
closed zero = None
closed (suc depth) = Some (place.Head depth)

-- `{` is the body's, if no bracket is open
abbrev pub braced : ℕ → Place
braced zero = place.Inside 0
braced (suc depth) = place.Head (suc depth + 1)

abbrev pub ended : ℕ → Place
ended zero = place.End
ended (suc depth) = place.Inside depth

-- after a token before the body's brace, within as many brackets
abbrev pub before : ℕ → Sign → Option Place
before depth sign.Function = Some (place.Head depth)
before depth sign.Open = Some (place.Head (depth + 1))
before depth sign.Hole = Some (place.Head (depth + 1))
before depth sign.Brace = Some (braced depth)
before depth sign.Close = closed depth
before depth sign.CloseBrace = closed depth
before depth sign.Fault = None
before depth sign.Other = Some (place.Head depth)

-- after a token within the body's brace, and within as many more
abbrev pub inside : ℕ → Sign → Option Place
inside depth sign.Hole = Some (place.Inside (depth + 1))
inside depth sign.Brace = Some (place.Inside (depth + 1))
inside depth sign.CloseBrace = Some (ended depth)
inside depth sign.Fault = None
inside depth s = Some (place.Inside depth)

abbrev pub behind_async : Sign → Option Place
behind_async sign.Function = Some (place.Head 0)
behind_async s = None

-- after a token, if it may be there
abbrev pub after : Place → Sign → Option Place
after place.Async s = behind_async s
after (place.Head depth) s = before depth s
after (place.Inside depth) s = inside depth s
after place.End s = None

abbrev pub is_end : Place → Bool
is_end place.End = true
is_end p = false

-- as many open brackets as can be counted
abbrev pub most_open : ℕ
most_open = 18446744073709551615

-- no more brackets can be counted
abbrev pub is_full : Place → Bool
is_full (place.Head depth) = nat_eq depth most_open
is_full (place.Inside depth) = nat_eq depth most_open
is_full p = false

-- after the first of the tokens, if it may be there
abbrev pub next : Place → List TokenAndSpan → Option Place
next p [] = None
next p (t ∷ ts) = after p (sign_at t)

abbrev pub at_current : Place → Option TokenAndSpan → Option Place
at_current p None = None
at_current p (Some t) = after p (sign_at t)

-- a body that began at the position, of which these tokens were kept, and whose last token ended there
abbrev pub body : BytePos → List TokenAndSpan → BytePos → Body
body from ks to = record { span = from_to from to; tokens = ks }

-- What is read from a place on, of a body that began at the position, where these tokens were kept, and the token taken
-- last ended there.
abbrev pub taken_on : BytePos → List TokenAndSpan → Place → List TokenAndSpan → BytePos
    → Option (Body × List TokenAndSpan)
taken_on from [] p ks to = elim (is_end p) [ true ↦ Some (body from ks to, []) | false ↦ None ]
taken_on from (t ∷ ts) p ks to = elim (is_end p) [
  | true ↦ Some (body from ks to, t ∷ ts)
  | false ↦ elim (after p (sign_at t)) [ None ↦ None | Some q ↦ taken_on from ts q (kept ks t) t.span.hi ]
]

-- after the first of the tokens, where a body may begin with it
abbrev pub begun : (Token → Option Place) → List TokenAndSpan → Option Place
begun first [] = None
begun first (t ∷ ts) = first t.token

-- a body that begins with such a token
abbrev pub taken : (Token → Option Place) → Context → List TokenAndSpan → Option (Body × List TokenAndSpan)
taken first c [] = None
taken first c (t ∷ ts) = elim (first t.token) [ None ↦ None | Some p ↦ taken_on t.span.lo ts p (t ∷ []) t.span.hi ]

abbrev pub place_if : Place → Bool → Option Place
place_if p true = Some p
place_if p false = None

abbrev pub or_async : Bool → Token → Option Place
or_async true t = Some (place.Head 0)
or_async false t = place_if place.Async (is_async t)

-- with which token each body begins, and after which place
abbrev pub function_first : Token → Option Place
function_first t = or_async (is_function t) t

abbrev pub class_first : Token → Option Place
class_first t = place_if (place.Head 0) (is_class t)

abbrev pub block_first : Token → Option Place
block_first t = place_if (place.Inside 0) (is_brace t)

-- functions, classes and blocks, as the tokens that are kept of them
abbrev pub token_forms : Hook Body Body Body
token_forms = record { fun = taken function_first; class = taken class_first; block = taken block_first }
