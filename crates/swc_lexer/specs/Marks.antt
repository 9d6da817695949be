-- Tokens, as far as they tell whether a slash after them divides.
use Rattle.std.specs.Prelude.{ℕ, List, codes, if◌then◌else◌}
use Rattle.swc_context.specs.{declared.word.Keyword.Keyword, declared.word.Word.Word, Texts.is_text}
use Rattle.swc_input.specs.declared.token.Token.{Token}
use Rattle.swc_lexer.specs.{declared.mark.Mark.Mark, declared.mark.Name.Name}
use Rattle.swc_context.specs.declared.operator.BinOpToken.TheVariants as binary
use Rattle.swc_context.specs.declared.word.Keyword.TheVariants as keyword
use Rattle.swc_context.specs.declared.word.Word.TheVariants as word
use Rattle.swc_input.specs.declared.token.Token.TheVariants as token
use Rattle.swc_lexer.specs.declared.mark.Mark.TheVariants as mark
use Rattle.swc_lexer.specs.declared.mark.Name.TheVariants as name

abbrev pub keyword_name : Keyword → Name
keyword_name keyword.This = name.Value
keyword_name keyword.Super = name.Value
keyword_name keyword.Debugger = name.Debugger
keyword_name keyword.If = name.Head
keyword_name keyword.While = name.Head
keyword_name keyword.With = name.Head
keyword_name keyword.Switch = name.Head
keyword_name keyword.Catch = name.Head
keyword_name keyword.For = name.For
keyword_name keyword.Function = name.Function
keyword_name keyword.Class = name.Class
keyword_name keyword.Else = name.Else
keyword_name keyword.Do = name.Else
keyword_name keyword.Try = name.Else
keyword_name keyword.Finally = name.Else
keyword_name keyword.Let = name.Let
keyword_name keyword.Await = name.Await
keyword_name keyword.Yield = name.Yield
keyword_name keyword.Var = name.Var
keyword_name keyword.Const = name.Var
keyword_name keyword.Return = name.Return
keyword_name keyword.Break = name.Break
keyword_name keyword.Continue = name.Break
keyword_name keyword.Export = name.Export
keyword_name keyword.Default_ = name.Default
keyword_name keyword.Import = name.Import
keyword_name keyword.In = name.In
keyword_name keyword.InstanceOf = name.In
keyword_name k = name.Operator

abbrev pub ident_name : List ℕ → Name
ident_name w = if is_text w (codes "async") then name.Async else if is_text w (codes "of") then name.Of else name.Plain

abbrev pub word_name : Word → Name
word_name (word.Keyword k) = keyword_name k
word_name (word.Ident w) = ident_name w
word_name w = name.Plain

-- the mark of a token
abbrev pub mark_of : Token → Mark
mark_of (token.Word w) = mark.Word (word_name w)
mark_of token.LParen = mark.LParen
mark_of token.RParen = mark.RParen
mark_of token.LBracket = mark.LBracket
mark_of token.RBracket = mark.RBracket
mark_of token.LBrace = mark.LBrace
mark_of token.RBrace = mark.RBrace
mark_of token.DollarLBrace = mark.Dollar
mark_of token.BackQuote = mark.BackQuote
mark_of token.QuestionMark = mark.Question
mark_of token.Arrow = mark.Arrow
mark_of token.PlusPlus = mark.Twice
mark_of token.MinusMinus = mark.Twice
mark_of token.Semi = mark.Semi
mark_of token.Comma = mark.Comma
mark_of token.Colon = mark.Colon
mark_of token.Dot = mark.Dot
mark_of token.Hash = mark.Hash
mark_of token.At = mark.Hash
mark_of (token.BinOp binary.Mul) = mark.Star
mark_of token.Bang = mark.Prefix
mark_of token.Tilde = mark.Prefix
mark_of (token.Str value raw) = mark.Text
mark_of (token.Num raw) = mark.Number
mark_of (token.BigInt raw) = mark.Number
mark_of (token.Regex text flags) = mark.Regexp
mark_of (token.Template raw cooked) = mark.Chars
mark_of t = mark.Sign
