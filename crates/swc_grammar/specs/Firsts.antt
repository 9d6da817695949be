-- What a reading begins with, symbol by symbol.
use Rattle.std.specs.Prelude.{Bool, true, false, ◌||◌, ◌&&◌}
use Rattle.swc_context.specs.Contexts.{arrow_body}
use Rattle.swc_input.specs.declared.token.Token.{Token, Token as token}
use Rattle.swc_bodies.specs.Readings.{is_async, is_brace}
use Rattle.swc_grammar.specs.Symbols.{Symbol, Level, Unary, Lhs, Left, Base, Arguments, Template, Parts, Args, ArgsTail, Primary, Literal, Elements, ElementsTail, Item, Pat, Element, Rest, PatElements, PatElementsTail, PatProps, PatPropsTail, PatProp, Params, ParamsTail, ArrowParams, ArrowBody, Props, PropsTail, Prop, Key, AfterKey, Shell}
use Rattle.swc_grammar.specs.Tokens.{is_comma, is_rbracket, is_rbrace, is_dots, is_star, is_lparen, is_lbracket, is_backquote, is_rparen, ends_prop, follows_key, opening, is_primary_opening, is_left_opening, is_operand_opening, is_yield_opening}
use Rattle.swc_grammar.specs.{Scope.Scope, Scope.in_context, Clean.is_lit, Clean.is_identifier, Names.may_bind}

-- a primary expression: with an identifier reference, or with one of these tokens
abbrev pub is_first : Token → Bool
is_first t = is_primary_opening (opening t) || is_async t

abbrev pub begins_primary : Scope → Token → Bool
begins_primary c t = is_identifier c.context t || is_first t

-- a left-hand side: with `new`, `super` and `import` too; what binary operators join: with a prefix operator, `++`,
-- `--` or `await` too; any other: with `yield` too
abbrev pub is_left_word : Token → Bool
is_left_word t = is_left_opening (opening t)

abbrev pub begins_left : Scope → Token → Bool
begins_left c t = begins_primary c t || is_left_word t

abbrev pub begins_operand : Scope → Token → Bool
begins_operand c t = begins_left c t || is_operand_opening (opening t)

abbrev pub begins_expression : Scope → Token → Bool
begins_expression c t = begins_operand c t || (is_yield_opening (opening t) && c.context.in_generator)

-- a text of a template
abbrev pub is_text_token : Token → Bool
is_text_token (token.Template raw cooked) = true
is_text_token t = false

-- a key, and a property, which may also begin with dots or `*`
abbrev pub begins_key : Token → Bool
begins_key (token.Word w) = true
begins_key (token.Num raw) = true
begins_key (token.BigInt raw) = true
begins_key (token.Str value raw) = true
begins_key token.LBracket = true
begins_key t = false

abbrev pub begins_prop : Token → Bool
begins_prop t = begins_key t || (is_dots t || is_star t)

-- a pattern: with a name that may be bound, a bracket or a brace
abbrev pub is_name_bound : Scope → Token → Bool
is_name_bound c (token.Word w) = may_bind c.context w
is_name_bound c t = false

abbrev pub begins_pat : Scope → Token → Bool
begins_pat c t = is_name_bound c t || (is_lbracket t || is_brace t)

abbrev pub starts : Symbol → Scope → Token → Bool
starts (Level k) c t = begins_operand c t
starts Unary c t = begins_operand c t
starts (Lhs b) c t = begins_left c t
starts (Left b) c t = begins_left c t
starts (Base b) c t = begins_left c t
starts (Arguments i) c t = is_lparen t
starts (Args i) c t = (begins_expression c t || is_dots t) || is_rparen t
starts (ArgsTail i) c t = is_comma t || is_rparen t
starts Primary c t = begins_primary c t
starts Literal c t = is_lit t
starts (Template is_tagged) c t = is_backquote t
starts (Parts is_tagged) c t = is_text_token t
starts Elements c t = (begins_expression c t || is_dots t) || (is_comma t || is_rbracket t)
starts ElementsTail c t = is_comma t || is_rbracket t
starts Item c t = begins_expression c t || is_dots t
starts Props c t = begins_prop t || is_rbrace t
starts PropsTail c t = ends_prop t
starts Prop c t = begins_prop t
starts Key c t = begins_key t
starts AfterKey c t = follows_key t
starts (Shell is_async is_generator) c t = is_lparen t
starts Pat c t = begins_pat c t
starts Element c t = begins_pat c t
starts Rest c t = is_dots t
starts PatElements c t = (begins_pat c t || is_dots t) || (is_comma t || is_rbracket t)
starts PatElementsTail c t = is_comma t || is_rbracket t
starts PatProps c t = (begins_key t || is_dots t) || is_rbrace t
starts PatPropsTail c t = ends_prop t
starts PatProp c t = begins_key t
starts Params c t = (begins_pat c t || is_dots t) || is_rparen t
starts ParamsTail c t = is_comma t || is_rparen t
starts ArrowParams c t = is_lparen t
starts (ArrowBody is_async) c t = is_brace t || begins_expression (in_context (arrow_body is_async) c) t
starts s c t = begins_expression c t
