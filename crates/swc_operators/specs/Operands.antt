-- What an operand begins with, and what it goes on with, by one token.
use Rattle.std.specs.Prelude.{Bool, true, false}
use Rattle.swc_context.specs.{declared.word.Keyword.Keyword as keyword, declared.word.Word.Word as word}
use Rattle.swc_input.specs.declared.token.Token.{Token, Token as token}

-- a name, a literal or `this` (13.1, 13.2.1 and 13.2.3): any word but the other keywords, a number or a string
abbrev pub is_plain : Token → Bool
is_plain (token.Word (word.Keyword keyword.This)) = true
is_plain (token.Word (word.Keyword k)) = false
is_plain (token.Word w) = true
is_plain (token.Num raw) = true
is_plain (token.BigInt raw) = true
is_plain (token.Str value raw) = true
is_plain t = false

-- what may begin a link of a left-hand side (13.3), and `++` and `--` (13.4)
abbrev pub goes_on : Token → Bool
goes_on token.Dot = true
goes_on token.LBracket = true
goes_on token.LParen = true
goes_on token.BackQuote = true
goes_on token.QuestionMark = true
goes_on token.PlusPlus = true
goes_on token.MinusMinus = true
goes_on t = false
