-- What the steps of the code read in lists, by the clean parser.
use Rattle.std.specs.Prelude.{ℕ, Bool, true, false, if◌then◌else◌, List, ◌∷◌, Option, Some, None}
use Rattle.swc_context.specs.{declared.span.Span.Span, declared.word.Word.Word as word, Texts.is_text}
use Rattle.swc_input.specs.{declared.token.Token.Token, declared.token.Token.Token as token, declared.token.TokenAndSpan.TokenAndSpan, Kinds.at_token, Kinds.is_hash}
use Rattle.swc_ast.specs.Tree.{Tree, Trees, nil, cons, span_of}
use Rattle.swc_ast.specs.Trees.{to, array_e, hole_e, listed, items_of, comma_of, behind_comma, trees_append}
use Rattle.swc_bodies.specs.Readings.{Hook, is_async, is_function, is_class, is_brace}
use Rattle.swc_grammar.specs.Tokens.{is_dot, is_target, is_super, is_import, is_meta, is_source, with_in, is_comma, is_dots, is_lparen, is_rparen, is_lbracket, is_rbracket, is_rbrace, is_equals, is_colon, is_star, is_get, is_set, is_question, is_backquote, is_dollar_brace, is_new}
use Rattle.swc_grammar.specs.Clean.{Out, first, sym, run}
use Rattle.swc_grammar.specs.{Scope.Scope, Arrows.is_arrow, Symbols.Elements, Symbols.Item, Words.◌>>=◌}
use Rattle.swc_steps.specs.declared.tokens.Sign.{Sign, Sign as sign}

-- the word, which is no keyword
abbrev pub is_named : List ℕ → Token → Bool
is_named name (token.Word (word.Ident w)) = is_text w name
is_named name t = false

-- the tokens that are signs
abbrev pub is_sign_token : Sign → Token → Bool
is_sign_token sign.Comma = is_comma
is_sign_token sign.DotDotDot = is_dots
is_sign_token sign.LParen = is_lparen
is_sign_token sign.RParen = is_rparen
is_sign_token sign.LBracket = is_lbracket
is_sign_token sign.RBracket = is_rbracket
is_sign_token sign.LBrace = is_brace
is_sign_token sign.RBrace = is_rbrace
is_sign_token sign.Assign = is_equals
is_sign_token sign.Colon = is_colon
is_sign_token sign.Star = is_star
is_sign_token sign.Async = is_async
is_sign_token sign.Get = is_get
is_sign_token sign.Set = is_set
is_sign_token sign.Question = is_question
is_sign_token sign.Dot = is_dot
is_sign_token sign.Target = is_target
is_sign_token sign.Hash = is_hash
is_sign_token sign.New = is_new
is_sign_token sign.Super = is_super
is_sign_token sign.Import = is_import
is_sign_token sign.Meta = is_meta
is_sign_token sign.Source = is_source
is_sign_token sign.BackQuote = is_backquote
is_sign_token sign.DollarLBrace = is_dollar_brace
is_sign_token sign.Arrow = is_arrow
is_sign_token sign.Function = is_function
is_sign_token sign.Class = is_class

-- a token that passes a test is taken, if it comes first
abbrev pub eaten_by : Bool → List TokenAndSpan → Out (Option Span)
eaten_by true (t ∷ ts) = Some (Some t.span, ts)
eaten_by b ts = Some (None, ts)

unfoldable pub eaten : (Token → Bool) → Scope → List TokenAndSpan → Out (Option Span)
eaten f c ts = eaten_by (at_token f (first ts)) ts

-- after an item of a list: a comma, or nothing before the token that closes the list
unfoldable pub closed : (Token → Bool) → Scope → List TokenAndSpan → Out (Unit {0})
closed f c ts = if at_token f (first ts) then Some (tt, ts) else None

abbrev pub separated_by : (Token → Bool) → Option Span → Scope → List TokenAndSpan → Out (Option Span)
separated_by f (Some s) c ts = Some (Some s, ts)
separated_by f None c ts = closed f c ts >>= (λ p. Some (None, p.1))

unfoldable pub separated : (Token → Bool) → Scope → List TokenAndSpan → Out (Option Span)
separated f c ts = eaten is_comma c ts >>= (λ p. separated_by f p.0 c p.1)

-- what is left of a list after an item and a comma, or none
abbrev pub behind : {F C K : Type 0} → Option Span → Tree F C K → Tree F C K
behind None e = e
behind (Some s) e = behind_comma s e

-- items before those of a list
abbrev pub put_before : {F C K : Type 0} → Trees F C K → Tree F C K → Tree F C K
put_before ts e = listed (comma_of e) (span_of e) (trees_append ts (items_of e))

module _ {F C K : Type 0} where
  -- an item, and the comma after it, or none
  unfoldable pub with_comma : (Scope → List TokenAndSpan → Out (Tree F C K))
      → (Scope → List TokenAndSpan → Out (Option Span)) → Scope → List TokenAndSpan → Out (Tree F C K × Option Span)
  with_comma item separates c ts = item c ts >>= (λ p. separates c p.1 >>= (λ q. Some ((p.0, q.0), q.1)))

  -- the same, or a hole, which is a comma, and has none after it
  abbrev pub elided_by : (Scope → List TokenAndSpan → Out (Tree F C K × Option Span)) → Option Span → Scope
      → List TokenAndSpan → Out (Tree F C K × Option Span)
  elided_by one None c ts = one c ts
  elided_by one (Some s) c ts = Some ((hole_e, None), ts)

  unfoldable pub or_elided : (Scope → List TokenAndSpan → Out (Tree F C K × Option Span)) → Scope → List TokenAndSpan
      → Out (Tree F C K × Option Span)
  or_elided one c ts = eaten is_comma c ts >>= (λ p. elided_by one p.0 c p.1)

-- of a list that `all` reads, and of which `one` reads an item with the comma after it
module _ {F C K : Type 0} (all : Scope → List TokenAndSpan → Out (Tree F C K)) where
  -- After some items, and the comma after the last of them: those that are left, to where the list is closed; and
  -- from the next item on.
  unfoldable pub left_behind : Trees F C K → Option Span → Scope → List TokenAndSpan → Out (Tree F C K)
  left_behind before comma c ts = all c ts >>= (λ p. Some (put_before before (behind comma p.0), p.1))

  unfoldable pub left_from : (Scope → List TokenAndSpan → Out (Tree F C K × Option Span)) → Trees F C K → Scope
      → List TokenAndSpan → Out (Tree F C K)
  left_from one before c ts = one c ts >>= (λ p. left_behind (trees_append before (cons p.0.0 nil)) p.0.1 c p.1)

  abbrev pub left_by : (Scope → List TokenAndSpan → Out (Tree F C K × Option Span)) → Trees F C K → Option Span
      → Option Span → Scope → List TokenAndSpan → Out (Tree F C K)
  left_by one before comma (Some s) c ts = Some (listed comma s before, ts)
  left_by one before comma None c ts = left_from one before c ts

module _ {F C K : Type 0} (hook : Hook F C K) where
  -- ---- array literals (13.2.4)

  -- elements among which `in` is an operator, and after the bracket at s
  unfoldable pub elements_inside : Scope → List TokenAndSpan → Out (Tree F C K)
  elements_inside c ts = run hook (sym Elements) (with_in c) ts

  unfoldable pub array_lit_tail : Span → Scope → List TokenAndSpan → Out (Tree F C K)
  array_lit_tail s c ts =
      elements_inside c ts >>= (λ p. Some (array_e (comma_of p.0) (to s (span_of p.0)) (items_of p.0), p.1))

  -- one element, and the comma after it, or before the bracket that closes the list
  abbrev pub element_item : Scope → List TokenAndSpan → Out (Tree F C K × Option Span)
  element_item = with_comma (run hook (sym Item)) (separated is_rbracket)

  abbrev pub element : Scope → List TokenAndSpan → Out (Tree F C K × Option Span)
  element = or_elided element_item
