-- The table of what begins what is one for all contexts: it has each token with which an expression begins in one, and
-- each of its tokens begins one in every context, but for names, `yield` and `*`.
use Rattle.std.specs.Prelude.{◌≡◌, Bool, true, false, ◌||◌, ◌&&◌}
use Rattle.std.proofs.Common.{refl}
use Rattle.swc_context.specs.{declared.operator.AssignOp.AssignOp as assign, declared.operator.BinOpToken.BinOpToken as sign, declared.word.Keyword.Keyword as keyword, declared.word.Word.Word as word}
use Rattle.swc_input.specs.declared.token.Token.{Token, Token as token}
use Rattle.swc_bodies.specs.Readings.{is_async}
use Rattle.swc_grammar.specs.Tokens.{Opening, opens_name, opens_primary, opens_left, opens_operand, opens_yield, opens_yielded, opens_none, opening, opens_at_times, is_primary_opening, is_left_opening, is_operand_opening, is_yield_opening, is_opening}
use Rattle.swc_grammar.specs.{Scope.Scope, Clean.is_identifier, Firsts.begins_expression}
use Rattle.swc_grammar.proofs.Firsts.{or-right}

pub begun-opens : (c : Scope) (t : Token) → begins_expression c t ≡ true → is_opening (opening t) ≡ true
begun-opens c (token.Word (word.Ident name)) h = refl
begun-opens c (token.Word word.Null) h = refl
begun-opens c (token.Word word.True) h = refl
begun-opens c (token.Word word.False) h = refl
begun-opens c (token.Word (word.Keyword keyword.Let)) h = refl
begun-opens c (token.Word (word.Keyword keyword.This)) h = refl
begun-opens c (token.Word (word.Keyword keyword.Function)) h = refl
begun-opens c (token.Word (word.Keyword keyword.Class)) h = refl
begun-opens c (token.Word (word.Keyword keyword.New)) h = refl
begun-opens c (token.Word (word.Keyword keyword.Super)) h = refl
begun-opens c (token.Word (word.Keyword keyword.Import)) h = refl
begun-opens c (token.Word (word.Keyword keyword.Await)) h = refl
begun-opens c (token.Word (word.Keyword keyword.TypeOf)) h = refl
begun-opens c (token.Word (word.Keyword keyword.Void)) h = refl
begun-opens c (token.Word (word.Keyword keyword.Delete)) h = refl
begun-opens c (token.Word (word.Keyword keyword.Yield)) h = refl
begun-opens c (token.Num raw) h = refl
begun-opens c (token.BigInt raw) h = refl
begun-opens c (token.Str value raw) h = refl
begun-opens c (token.Regex exp flags) h = refl
begun-opens c (token.BinOp sign.Div) h = refl
begun-opens c (token.BinOp sign.Add) h = refl
begun-opens c (token.BinOp sign.Sub) h = refl
begun-opens c (token.AssignOp assign.DivAssign) h = refl
begun-opens c token.BackQuote h = refl
begun-opens c token.LParen h = refl
begun-opens c token.LBracket h = refl
begun-opens c token.LBrace h = refl
begun-opens c token.Hash h = refl
begun-opens c token.Tilde h = refl
begun-opens c token.Bang h = refl
begun-opens c token.PlusPlus h = refl
begun-opens c token.MinusMinus h = refl
begun-opens c t h = absurd cc

pub opens-begun : (c : Scope) (t : Token) → is_opening (opening t) ≡ true
    → (begins_expression c t || opens_at_times (opening t)) ≡ true
opens-begun c t h = by-opening (is_identifier c.context t) (is_async t) (opening t) h
  where
    by-opening : (a b : Bool) (o : Opening) → is_opening o ≡ true
        → (((((a || (is_primary_opening o || b)) || is_left_opening o) || is_operand_opening o)
        || (is_yield_opening o && c.context.in_generator)) || opens_at_times o) ≡ true
    by-opening true b o h = refl
    by-opening false b opens_name h = or-right _ true refl
    by-opening false b opens_primary h = refl
    by-opening false true o h = refl
    by-opening false false opens_left h = refl
    by-opening false false opens_operand h = refl
    by-opening false false opens_yield h = or-right _ true refl
    by-opening false false opens_yielded h = refl
    by-opening false false opens_none h = absurd cc
