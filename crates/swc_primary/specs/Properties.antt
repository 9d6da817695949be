-- What the steps of the code read in object literals (13.2.5), by the clean parser.
use Rattle.std.specs.Prelude.{Bool, if◌then◌else◌, List, Option, Some, None}
use Rattle.swc_context.specs.{Reserved.is_reserved_word, declared.span.Span.Span}
use Rattle.swc_input.specs.{declared.token.Token.Token, declared.token.TokenAndSpan.TokenAndSpan, Kinds.at_token}
use Rattle.swc_ast.specs.Tree.{Tree, span_of}
use Rattle.swc_ast.specs.Trees.{to, object_e, items_of, comma_of, spread_prop_e, cover_e, ident_e}
use Rattle.swc_bodies.specs.Readings.{Hook, is_async}
use Rattle.swc_grammar.specs.Tokens.{is_dots, is_equals, is_get, is_set, is_question, is_rbrace, is_star, is_word, ends_prop, follows_key}
use Rattle.swc_grammar.specs.Clean.{Out, first, second, sym, run}
use Rattle.swc_grammar.specs.{Scope.Scope, Scope.inner, Symbols.Props, Symbols.Prop, Names.Spelling, Names.may_name, Words.◌>>=◌, Words.word}
use Rattle.swc_primary.specs.{declared.modifiers.MethodKind.MethodKind, declared.modifiers.MethodKind.MethodKind as method, declared.modifiers.Modifier.Modifier, declared.modifiers.Modifier.Modifier as modifier, declared.modifiers.PropKind.PropKind, declared.modifiers.PropKind.PropKind as kind}
use Rattle.swc_steps.specs.{Keys.expected, Readers.inside, Lists.separated, Lists.with_comma}

-- a name that isn't reserved where it is, and so may stand for its value too
abbrev pub open_by : Scope → Spelling × List TokenAndSpan → Out Spelling
open_by c p = if is_reserved_word c.context p.0.text then None else Some p

unfoldable pub open_name : Scope → List TokenAndSpan → Out Spelling
open_name c ts = word may_name c ts >>= open_by c

-- such a name, and the `=` after it
unfoldable pub cover_name : Scope → List TokenAndSpan → Out Spelling
cover_name c ts = open_name c ts >>= (λ p. expected is_equals c p.1 >>= (λ q. Some (p.0, q.1)))

-- what a property is, by the tokens that it begins with; of one that begins with a word, by the word and the token
-- after it
abbrev pub modifier_of : Option TokenAndSpan → Modifier
modifier_of t =
    if at_token is_get t then modifier.Get else
    (if at_token is_set t then modifier.Set else
    (if at_token is_async t then modifier.Async else modifier.Other))

abbrev pub async_kind : Bool → MethodKind
async_kind with_star = if with_star then method.AsyncGenerator else method.Async

-- by what the word is to a key, and by whether a star is after it
abbrev pub by_modifier : Modifier → Bool → PropKind
by_modifier modifier.Get with_star = kind.Method method.Getter
by_modifier modifier.Set with_star = kind.Method method.Setter
by_modifier modifier.Async with_star = kind.Method (async_kind with_star)
by_modifier modifier.Other with_star = kind.Unfit

-- by what the word is to a key, and by the token after it
abbrev pub kind_of : Modifier → Option TokenAndSpan → PropKind
kind_of m u =
    if at_token ends_prop u then kind.Shorthand else
    (if at_token is_equals u then kind.Cover else
    (if at_token follows_key u then kind.Key else
    (if at_token is_question u then kind.Questioned else by_modifier m (at_token is_star u))))

abbrev pub kind_at : Modifier → Token → PropKind
kind_at m t =
    if ends_prop t then kind.Shorthand else
    (if is_equals t then kind.Cover else
    (if follows_key t then kind.Key else
    (if is_question t then kind.Questioned else by_modifier m (is_star t))))

abbrev pub word_kind : Option TokenAndSpan → Option TokenAndSpan → PropKind
word_kind t u = kind_of (modifier_of t) u

abbrev pub sign_kind : Option TokenAndSpan → PropKind
sign_kind t =
    if at_token is_dots t then kind.Spread else
    (if at_token is_star t then kind.Method method.Generator else kind.Key)

abbrev pub prop_kind : List TokenAndSpan → PropKind
prop_kind ts =
    if at_token is_dots (first ts) then kind.Spread else
    (if at_token is_star (first ts) then kind.Method method.Generator else
    (if at_token is_word (first ts) then word_kind (first ts) (second ts) else kind.Key))

-- the property of a name and its value
abbrev pub cover_node : {F C K : Type 0} → Spelling → Tree F C K → Tree F C K
cover_node n v = cover_e (to n.at (span_of v)) (ident_e n.at n.text) v

module _ {F C K : Type 0} (hook : Hook F C K) where
  -- after the brace at s
  unfoldable pub object_lit_tail : Span → Scope → List TokenAndSpan → Out (Tree F C K)
  object_lit_tail s c ts =
      run hook (sym Props) (inner c) ts >>=
      (λ p. Some (object_e (comma_of p.0) (to s (span_of p.0)) (items_of p.0), p.1))

  -- one property, and the comma after it, or before the brace that closes the list
  abbrev pub prop_item : Scope → List TokenAndSpan → Out (Tree F C K × Option Span)
  prop_item = with_comma (run hook (sym Prop)) (separated is_rbrace)

  -- after the dots of a property at s
  unfoldable pub spread_prop_tail : Span → Scope → List TokenAndSpan → Out (Tree F C K)
  spread_prop_tail s c ts = inside hook c ts >>= (λ p. Some (spread_prop_e s p.0, p.1))

  -- a name with `=` and an expression after it: after the `=`
  unfoldable pub cover_tail : Spelling → Scope → List TokenAndSpan → Out (Tree F C K)
  cover_tail n c ts = inside hook c ts >>= (λ p. Some (cover_node n p.0, p.1))
