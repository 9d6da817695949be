-- Tokens, as the grammar of programs tells them apart.
use Rattle.std.specs.Prelude.{Bool, true, false, not, ◌&&◌, ◌||◌, if◌then◌else◌, Option, Some, None, codes}
use Rattle.swc_context.specs.{Texts.is_text, declared.context.Context.Context, declared.operator.BinOpToken.BinOpToken as sign, declared.span.Span.Span, declared.word.Keyword.Keyword as keyword, declared.word.Word.Word, declared.word.Word.Word as word}
use Rattle.swc_input.specs.{declared.token.Token.Token, declared.token.Token.Token as token, declared.token.TokenAndSpan.TokenAndSpan}
use Rattle.swc_ast.specs.{Tree.Tree, Tree.node, Tree.str, Tree.ident}
use Rattle.swc_bodies.specs.Readings.{is_async, is_brace, is_class, is_function}
use Rattle.swc_grammar.specs.Names.{Spelling, may_refer, spelled}
use Rattle.swc_grammar.specs.Scope.{Scope, in_context}
use Rattle.swc_grammar.specs.ForHead.{is_semi}
use Rattle.swc_grammar.specs.Tokens.{is_comma, is_lparen, is_lbracket, is_rbrace, is_slash, is_colon, is_word, is_import, is_dot}
use Rattle.program_grammar.specs.Tree.{Code, code, name, string}
-- what an expression goes on with: by that the offending token (12.10) is told
pub use Rattle.swc_grammar.specs.Endings.{goes_on}

-- ---- words

abbrev pub is_if : Token → Bool
is_if (token.Word (word.Keyword keyword.If)) = true
is_if t = false

abbrev pub is_else : Token → Bool
is_else (token.Word (word.Keyword keyword.Else)) = true
is_else t = false

abbrev pub is_do : Token → Bool
is_do (token.Word (word.Keyword keyword.Do)) = true
is_do t = false

abbrev pub is_while : Token → Bool
is_while (token.Word (word.Keyword keyword.While)) = true
is_while t = false

abbrev pub is_for : Token → Bool
is_for (token.Word (word.Keyword keyword.For)) = true
is_for t = false

abbrev pub is_with : Token → Bool
is_with (token.Word (word.Keyword keyword.With)) = true
is_with t = false

abbrev pub is_continue : Token → Bool
is_continue (token.Word (word.Keyword keyword.Continue)) = true
is_continue t = false

abbrev pub is_break : Token → Bool
is_break (token.Word (word.Keyword keyword.Break)) = true
is_break t = false

abbrev pub is_return : Token → Bool
is_return (token.Word (word.Keyword keyword.Return)) = true
is_return t = false

abbrev pub is_throw : Token → Bool
is_throw (token.Word (word.Keyword keyword.Throw)) = true
is_throw t = false

abbrev pub is_debugger : Token → Bool
is_debugger (token.Word (word.Keyword keyword.Debugger)) = true
is_debugger t = false

abbrev pub is_switch : Token → Bool
is_switch (token.Word (word.Keyword keyword.Switch)) = true
is_switch t = false

abbrev pub is_case : Token → Bool
is_case (token.Word (word.Keyword keyword.Case)) = true
is_case t = false

abbrev pub is_default : Token → Bool
is_default (token.Word (word.Keyword keyword.Default_)) = true
is_default t = false

abbrev pub is_try : Token → Bool
is_try (token.Word (word.Keyword keyword.Try)) = true
is_try t = false

abbrev pub is_catch : Token → Bool
is_catch (token.Word (word.Keyword keyword.Catch)) = true
is_catch t = false

abbrev pub is_finally : Token → Bool
is_finally (token.Word (word.Keyword keyword.Finally)) = true
is_finally t = false

abbrev pub is_var : Token → Bool
is_var (token.Word (word.Keyword keyword.Var)) = true
is_var t = false

abbrev pub is_let : Token → Bool
is_let (token.Word (word.Keyword keyword.Let)) = true
is_let t = false

abbrev pub is_const : Token → Bool
is_const (token.Word (word.Keyword keyword.Const)) = true
is_const t = false

abbrev pub is_extends : Token → Bool
is_extends (token.Word (word.Keyword keyword.Extends)) = true
is_extends t = false

abbrev pub is_export : Token → Bool
is_export (token.Word (word.Keyword keyword.Export)) = true
is_export t = false

-- words that are no keywords
abbrev pub is_static : Token → Bool
is_static (token.Word (word.Ident w)) = is_text w (codes "static")
is_static t = false

abbrev pub is_as : Token → Bool
is_as (token.Word (word.Ident w)) = is_text w (codes "as")
is_as t = false

abbrev pub is_from : Token → Bool
is_from (token.Word (word.Ident w)) = is_text w (codes "from")
is_from t = false

abbrev pub is_str : Token → Bool
is_str (token.Str value raw) = true
is_str t = false

-- ---- where statements and their lists end

-- A list of statements ends at `}`, at `case` and `default`, and at the end.
abbrev pub ends_list : TokenAndSpan → Bool
ends_list t = is_rbrace t.token || (is_case t.token || is_default t.token)

-- What may begin a statement, in some context: a word that is no operator, a literal, a bracket, a sign that begins an
-- operand; and what may begin a member of a class.
abbrev pub begins_word : Word → Bool
begins_word (word.Keyword keyword.In) = false
begins_word (word.Keyword keyword.InstanceOf) = false
begins_word w = true

abbrev pub begins_item : Token → Bool
begins_item (token.Word w) = begins_word w
begins_item (token.Num raw) = true
begins_item (token.BigInt raw) = true
begins_item (token.Str value raw) = true
begins_item (token.Regex exp flags) = true
begins_item token.LBrace = true
begins_item token.LParen = true
begins_item token.LBracket = true
begins_item token.BackQuote = true
begins_item token.Hash = true
begins_item token.Bang = true
begins_item token.Tilde = true
begins_item token.PlusPlus = true
begins_item token.MinusMinus = true
begins_item (token.BinOp sign.Add) = true
begins_item (token.BinOp sign.Sub) = true
begins_item t = is_slash t

abbrev pub begins_member : Token → Bool
begins_member (token.Word w) = true
begins_member (token.Num raw) = true
begins_member (token.BigInt raw) = true
begins_member (token.Str value raw) = true
begins_member token.LBracket = true
begins_member token.Hash = true
begins_member (token.BinOp sign.Mul) = true
begins_member t = false

-- Automatic semicolon insertion (12.10): a semicolon may be left out before a token that a line break parts from what
-- is before it, before `}`, and at the end. That token has to begin what follows; and what is before it has to say that
-- it can't go on with the token.
abbrev pub may_end_at : TokenAndSpan → Bool
may_end_at t = (t.had_line_break && begins_item t.token) || is_rbrace t.token

abbrev pub may_end_member : TokenAndSpan → Bool
may_end_member t = (t.had_line_break && begins_member t.token) || is_rbrace t.token

-- What may follow a value (14.3, 15.7): a comma, a semicolon, `}`, or what may begin a statement or a member on another
-- line.
abbrev pub begins_anew : Token → Bool
begins_anew t = begins_item t || begins_member t

abbrev pub ends_value : TokenAndSpan → Bool
ends_value t =
    is_comma t.token || (is_semi t.token || (is_rbrace t.token || (t.had_line_break && begins_anew t.token)))

-- where `return`, `break` and `continue` have nothing after them
abbrev pub ends_here : TokenAndSpan → Bool
ends_here t = is_semi t.token || (t.had_line_break || is_rbrace t.token)

-- ---- what a statement begins with

-- `async function`, on one line
abbrev pub is_async_function : TokenAndSpan → TokenAndSpan → Bool
is_async_function t u = is_async t.token && (is_function u.token && not u.had_line_break)

-- `let` begins a declaration (14.3.1) before a name or a pattern.
abbrev pub goes_on_let : Token → Bool
goes_on_let (token.Word (word.Keyword keyword.In)) = false
goes_on_let (token.Word (word.Keyword keyword.InstanceOf)) = false
goes_on_let (token.Word w) = true
goes_on_let token.LBracket = true
goes_on_let token.LBrace = true
goes_on_let t = false

abbrev pub is_let_declaration : TokenAndSpan → TokenAndSpan → Bool
is_let_declaration t u = is_let t.token && goes_on_let u.token

-- As a part of another statement, which can't be a declaration, `let` is a name, but before `[` (14.5).
abbrev pub is_let_here : Bool → TokenAndSpan → TokenAndSpan → Bool
is_let_here is_part t u = is_let t.token && (goes_on_let u.token && (not is_part || is_lbracket u.token))

-- a word and `:` (14.13)
abbrev pub is_labelled : TokenAndSpan → TokenAndSpan → Bool
is_labelled t u = is_word t.token && is_colon u.token

-- the words with which statements begin, but for those of functions and classes and for `let`
abbrev pub begins_keyword : Token → Bool
begins_keyword (token.Word (word.Keyword keyword.If)) = true
begins_keyword (token.Word (word.Keyword keyword.While)) = true
begins_keyword (token.Word (word.Keyword keyword.With)) = true
begins_keyword (token.Word (word.Keyword keyword.Do)) = true
begins_keyword (token.Word (word.Keyword keyword.For)) = true
begins_keyword (token.Word (word.Keyword keyword.Switch)) = true
begins_keyword (token.Word (word.Keyword keyword.Try)) = true
begins_keyword (token.Word (word.Keyword keyword.Break)) = true
begins_keyword (token.Word (word.Keyword keyword.Continue)) = true
begins_keyword (token.Word (word.Keyword keyword.Return)) = true
begins_keyword (token.Word (word.Keyword keyword.Throw)) = true
begins_keyword (token.Word (word.Keyword keyword.Debugger)) = true
begins_keyword (token.Word (word.Keyword keyword.Var)) = true
begins_keyword (token.Word (word.Keyword keyword.Const)) = true
begins_keyword t = false

-- an expression statement (14.5) begins with none of these
abbrev pub begins_other : TokenAndSpan → Bool
begins_other t = is_brace t.token || (is_function t.token || (is_class t.token || is_semi t.token))

abbrev pub begins_other_two : Bool → TokenAndSpan → TokenAndSpan → Bool
begins_other_two is_part t u = is_async_function t u || (is_let_here is_part t u || is_labelled t u)

-- an import declaration (16.2.2), and no call of `import` and no `import.meta`
abbrev pub is_import_declaration : TokenAndSpan → TokenAndSpan → Bool
is_import_declaration t u = is_import t.token && not (is_lparen u.token || is_dot u.token)

-- a word and `as`, or a string
abbrev pub is_renamed : TokenAndSpan → TokenAndSpan → Bool
is_renamed t u = is_str t.token || is_as u.token

-- ---- names and strings

-- a label (14.13), as identifier references are
abbrev pub label : Scope → Token → Span → Option Spelling
label c = spelled (may_refer c.context)

abbrev pub string_of : {F C K : Type 0} → Token → Span → Option (Code F C K)
string_of (token.Str value raw) s = Some (code (string value raw) s Rattle.program_grammar.specs.Tree.nothing)
string_of t s = None

-- a name under which a module exports something (16.2): any word, or a string
abbrev pub name_s : {F C K : Type 0} → Spelling → Code F C K
name_s n = code (name n.text) n.at Rattle.program_grammar.specs.Tree.nothing

abbrev pub named_or : {F C K : Type 0} → Option Spelling → Option (Code F C K) → Option (Code F C K)
named_or (Some n) o = Some (name_s n)
named_or None o = o

abbrev pub export_name_of : {F C K : Type 0} → Token → Span → Option (Code F C K)
export_name_of t s = named_or (spelled (λ w. true) t s) (string_of t s)

-- ---- directives (11.2.1): a string by itself, and the one with which strict code begins, written without an escape

abbrev pub is_string : {F C K : Type 0} → Tree F C K → Bool
is_string (node (str value raw) s ts) = true
is_string t = false

abbrev pub is_use_strict : {F C K : Type 0} → Tree F C K → Bool
is_use_strict (node (str value raw) s ts) =
    is_text raw (codes "\"use strict\"") || is_text raw (codes "'use strict'")
is_use_strict t = false

abbrev pub make_strict : Context → Context
make_strict c = record c { strict = true }

abbrev pub strict_after : {F C K : Type 0} → Tree F C K → Scope → Scope
strict_after e c = if is_use_strict e then in_context make_strict c else c

-- whether a pattern is a name
abbrev pub is_name : {F C K : Type 0} → Tree F C K → Bool
is_name (node (ident n) s ts) = true
is_name t = false

-- ---- members of classes (15.7)

-- What follows a word that is the key of a member: `static`, `async`, `get` and `set` are modifiers elsewhere.
pub data Modifier : Type 0 where
  Static : Modifier
  Async : Modifier
  Getter : Modifier
  Setter : Modifier

abbrev pub is_get_word : Token → Bool
is_get_word (token.Word (word.Ident w)) = is_text w (codes "get")
is_get_word t = false

abbrev pub is_set_word : Token → Bool
is_set_word (token.Word (word.Ident w)) = is_text w (codes "set")
is_set_word t = false

abbrev pub is_modifier : Modifier → Token → Bool
is_modifier Static t = is_static t
is_modifier Async t = is_async t
is_modifier Getter t = is_get_word t
is_modifier Setter t = is_set_word t

abbrev pub ends_key : Token → Bool
ends_key token.LParen = true
ends_key token.Semi = true
ends_key token.RBrace = true
ends_key (token.AssignOp op) = true
ends_key t = false

abbrev pub is_binary_sign : Token → Bool
is_binary_sign (token.BinOp b) = true
is_binary_sign t = false

abbrev pub ends_key_of : Modifier → TokenAndSpan → Bool
ends_key_of Static u = ends_key u.token
ends_key_of Async u = ends_key u.token || u.had_line_break
ends_key_of Getter u = ends_key u.token || is_binary_sign u.token
ends_key_of Setter u = ends_key u.token || is_binary_sign u.token

-- a modifier that is here
abbrev pub is_modifier_here : Modifier → TokenAndSpan → TokenAndSpan → Bool
is_modifier_here m t u = is_modifier m t.token && not (ends_key_of m u)
