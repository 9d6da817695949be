-- Which primary expression a token begins (13.2), and what opening a literal does to the buffer.
use Rattle.std.specs.Prelude.{◌≡◌, Bool, true, false, ◌&&◌, if◌then◌else◌, List, Option, Some, None}
use Rattle.swc_context.specs.{declared.context.Context.Context, declared.span.BytePos.BytePos, declared.span.Span.Span, declared.word.Word.Word as word, Spans.from_to}
use Rattle.swc_input.specs.{declared.token.Token.Token, declared.token.TokenAndSpan.TokenAndSpan, Kinds.at_token, Kinds.is_hash}
use Rattle.swc_input.specs.declared.token.Token.TheVariants as token
use Rattle.swc_ast.specs.Trees.{array_e, object_e, items_of, comma_of}
use Rattle.swc_ast.specs.{Tree.Tree, Tree.span_of, declared.lit.Lit.Lit, declared.lit.Lit.Lit as lit}
use Rattle.swc_bodies.specs.Readings.{is_function, is_async, is_class, is_brace}
use Rattle.swc_grammar.specs.Scope.{Scope}
use Rattle.swc_grammar.specs.Tokens.{is_in, is_lparen, is_lbracket, is_backquote, is_this, begins_regex}
use Rattle.swc_grammar.specs.Clean.{Out, first, is_lit, is_identifier}
use Rattle.swc_primary.specs.{declared.primary.PrimaryKind.PrimaryKind, declared.primary.PrimaryKind.PrimaryKind as kind, declared.primary.PlainKind.PlainKind, declared.primary.PlainKind.PlainKind as plain}

-- which primary expression the token begins, of those that other expressions are in
abbrev pub primary_kind : Option TokenAndSpan → PrimaryKind
primary_kind t =
    if at_token is_lparen t then kind.Paren else
    (if at_token is_lbracket t then kind.Array else
    (if at_token is_brace t then kind.Object else
    (if at_token is_backquote t then kind.Template else kind.Plain)))

-- the literal that a token is: as `lit_of` of the grammar has its tree
abbrev pub literal : Token → Span → Option Lit
literal (token.Word word.Null) s = Some (lit.Null (record { span = s }))
literal (token.Word word.True) s = Some (lit.Bool (record { span = s; value = true }))
literal (token.Word word.False) s = Some (lit.Bool (record { span = s; value = false }))
literal (token.Num raw) s = Some (lit.Num (record { span = s; raw = raw }))
literal (token.BigInt raw) s = Some (lit.BigInt (record { span = s; raw = raw }))
literal (token.Str value raw) s = Some (lit.Str (record { span = s; value = value; raw = raw }))
literal t s = None

-- by which test of the token it begins a primary expression in which no other is
abbrev pub BeginsPlain : Context → ((Token → Bool) → Bool) → PlainKind → Type 0
BeginsPlain c at plain.This = at is_this ≡ true
BeginsPlain c at plain.Async = at is_async ≡ true
BeginsPlain c at plain.Function = at is_function ≡ true
BeginsPlain c at plain.Literal = at is_lit ≡ true
BeginsPlain c at plain.Class = at is_class ≡ true
BeginsPlain c at plain.Name = at (is_identifier c) ≡ true
BeginsPlain c at plain.Private = at is_hash ≡ true
BeginsPlain c at plain.Regex = at begins_regex ≡ true
BeginsPlain c at plain.Other =
    (at is_this ≡ false) × (at is_async ≡ false) × (at is_function ≡ false) × (at is_lit ≡ false)
    × (at is_class ≡ false)
    × (at (is_identifier c) ≡ false) × (at is_hash ≡ false) × (at begins_regex ≡ false)

-- `in` comes next, and is an operator
abbrev pub in_comes : Scope → List TokenAndSpan → Out (Unit {0})
in_comes c ts = if c.context.include_in_expr && at_token is_in (first ts) then Some (tt, ts) else None

-- a literal that begins at lo, of a list that is closed
abbrev pub array_from : {F C K : Type 0} → BytePos → Tree F C K → Tree F C K
array_from lo e = array_e (comma_of e) (from_to lo (span_of e).hi) (items_of e)

abbrev pub object_from : {F C K : Type 0} → BytePos → Tree F C K → Tree F C K
object_from lo e = object_e (comma_of e) (from_to lo (span_of e).hi) (items_of e)
