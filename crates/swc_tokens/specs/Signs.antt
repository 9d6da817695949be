-- Signs and operators (ECMA-262, 12.8), and those of templates (12.9.6), as they are written.
use Rattle.std.specs.Prelude.{ℕ, List, [], Bool, true, false, codes}
use Rattle.swc_context.specs.Operators.{assign_text, binary_text, operator_of}
use Rattle.swc_input.specs.declared.token.Token.{Token}
use Rattle.swc_input.specs.declared.token.Token.TheVariants as token

-- how a sign or an operator is written; no other token is one
unfoldable pub sign_text : Token → List ℕ
sign_text token.Arrow = codes "=>"
sign_text token.Hash = codes "#"
sign_text token.At = codes "@"
sign_text token.Dot = codes "."
sign_text token.DotDotDot = codes "..."
sign_text token.Bang = codes "!"
sign_text token.LParen = codes "("
sign_text token.RParen = codes ")"
sign_text token.LBracket = codes "["
sign_text token.RBracket = codes "]"
sign_text token.LBrace = codes "{"
sign_text token.RBrace = codes "}"
sign_text token.Semi = codes ";"
sign_text token.Comma = codes ","
sign_text token.BackQuote = codes "`"
sign_text token.Colon = codes ":"
sign_text token.DollarLBrace = codes "${"
sign_text token.QuestionMark = codes "?"
sign_text token.PlusPlus = codes "++"
sign_text token.MinusMinus = codes "--"
sign_text token.Tilde = codes "~"
sign_text (token.BinOp operator) = binary_text (operator_of operator)
sign_text (token.AssignOp operator) = assign_text operator
sign_text _ = []

-- whether the token is a word, a number, a string, a text of a template or a regular expression
unfoldable pub has_text : Token → Bool
has_text (token.Word _) = true
has_text (token.Str _ _) = true
has_text (token.Num _) = true
has_text (token.BigInt _) = true
has_text (token.Template _ _) = true
has_text (token.Regex _ _) = true
has_text _ = false
