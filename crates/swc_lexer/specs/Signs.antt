-- Signs and operators (ECMA-262, 12.8), and those of templates (12.9.6): by their bytes, and as they are written.
use Rattle.std.specs.Prelude.{ℕ, List, [], ◌∷◌, codes, ◌&&◌, nat_eq, Option, Some, None, if◌then◌else◌}
use Rattle.swc_context.specs.declared.operator.BinOpToken.TheVariants as binary
use Rattle.swc_context.specs.declared.operator.AssignOp.TheVariants as assign
use Rattle.swc_context.specs.Operators.{assign_text, binary_text, operator_of}
use Rattle.swc_input.specs.declared.token.Token.{Token}
use Rattle.swc_input.specs.declared.token.Token.TheVariants as token

-- how a sign or an operator is written; no other token is one
abbrev pub sign_text : Token → List ℕ
sign_text token.Arrow = codes "=>"
sign_text token.Hash = codes "#"
sign_text token.At = codes "@"
sign_text token.Dot = codes "."
sign_text token.DotDotDot = codes "..."
sign_text token.Bang = codes "!"
sign_text token.LParen = codes "("
sign_text token.RParen = codes ")"
sign_text token.LBracket = codes "["
sign_text token.RBracket = codes "]"
sign_text token.LBrace = codes "{"
sign_text token.RBrace = codes "}"
sign_text token.Semi = codes ";"
sign_text token.Comma = codes ","
sign_text token.BackQuote = codes "`"
sign_text token.Colon = codes ":"
sign_text token.DollarLBrace = codes "${"
sign_text token.QuestionMark = codes "?"
sign_text token.PlusPlus = codes "++"
sign_text token.MinusMinus = codes "--"
sign_text token.Tilde = codes "~"
sign_text (token.BinOp operator) = binary_text (operator_of operator)
sign_text (token.AssignOp operator) = assign_text operator
sign_text _ = []

-- ( ) [ ] { } ; , : . ` # @
abbrev pub bracket : ℕ → Option Token
bracket a =
    if nat_eq a 40 then Some token.LParen
    else if nat_eq a 41 then Some token.RParen
    else if nat_eq a 91 then Some token.LBracket
    else if nat_eq a 93 then Some token.RBracket
    else if nat_eq a 123 then Some token.LBrace
    else if nat_eq a 125 then Some token.RBrace
    else if nat_eq a 59 then Some token.Semi
    else if nat_eq a 44 then Some token.Comma
    else if nat_eq a 58 then Some token.Colon
    else if nat_eq a 46 then Some token.Dot
    else if nat_eq a 96 then Some token.BackQuote
    else if nat_eq a 35 then Some token.Hash
    else if nat_eq a 64 then Some token.At
    else None

-- = ? ! ~ < > + - * / % | ^ &
abbrev pub one : ℕ → Option Token
one a =
    if nat_eq a 61 then Some (token.AssignOp assign.Assign)
    else if nat_eq a 63 then Some token.QuestionMark
    else if nat_eq a 33 then Some token.Bang
    else if nat_eq a 126 then Some token.Tilde
    else if nat_eq a 60 then Some (token.BinOp binary.Lt)
    else if nat_eq a 62 then Some (token.BinOp binary.Gt)
    else if nat_eq a 43 then Some (token.BinOp binary.Add)
    else if nat_eq a 45 then Some (token.BinOp binary.Sub)
    else if nat_eq a 42 then Some (token.BinOp binary.Mul)
    else if nat_eq a 47 then Some (token.BinOp binary.Div)
    else if nat_eq a 37 then Some (token.BinOp binary.Mod)
    else if nat_eq a 124 then Some (token.BinOp binary.BitOr)
    else if nat_eq a 94 then Some (token.BinOp binary.BitXor)
    else if nat_eq a 38 then Some (token.BinOp binary.BitAnd)
    else bracket a

-- == != <= >= += -= *= /= %= |= ^= &=
abbrev pub with_equal : ℕ → Option Token
with_equal a =
    if nat_eq a 61 then Some (token.BinOp binary.EqEq)
    else if nat_eq a 33 then Some (token.BinOp binary.NotEq)
    else if nat_eq a 60 then Some (token.BinOp binary.LtEq)
    else if nat_eq a 62 then Some (token.BinOp binary.GtEq)
    else if nat_eq a 43 then Some (token.AssignOp assign.AddAssign)
    else if nat_eq a 45 then Some (token.AssignOp assign.SubAssign)
    else if nat_eq a 42 then Some (token.AssignOp assign.MulAssign)
    else if nat_eq a 47 then Some (token.AssignOp assign.DivAssign)
    else if nat_eq a 37 then Some (token.AssignOp assign.ModAssign)
    else if nat_eq a 124 then Some (token.AssignOp assign.BitOrAssign)
    else if nat_eq a 94 then Some (token.AssignOp assign.BitXorAssign)
    else if nat_eq a 38 then Some (token.AssignOp assign.BitAndAssign)
    else None

-- ++ -- << >> || && ** ??
abbrev pub twice : ℕ → Option Token
twice a =
    if nat_eq a 43 then Some token.PlusPlus
    else if nat_eq a 45 then Some token.MinusMinus
    else if nat_eq a 60 then Some (token.BinOp binary.LShift)
    else if nat_eq a 62 then Some (token.BinOp binary.RShift)
    else if nat_eq a 124 then Some (token.BinOp binary.LogicalOr)
    else if nat_eq a 38 then Some (token.BinOp binary.LogicalAnd)
    else if nat_eq a 42 then Some (token.BinOp binary.Exp)
    else if nat_eq a 63 then Some (token.BinOp binary.NullishCoalescing)
    else None

abbrev pub two : ℕ → ℕ → Option Token
two a b =
    if nat_eq b 61 then with_equal a
    else if nat_eq a b then twice a
    else if nat_eq a 61 && nat_eq b 62 then Some token.Arrow
    else if nat_eq a 36 && nat_eq b 123 then Some token.DollarLBrace
    else None

-- === <<= >>= **= &&= ||= ??=
abbrev pub twice_with_equal : ℕ → Option Token
twice_with_equal a =
    if nat_eq a 61 then Some (token.BinOp binary.EqEqEq)
    else if nat_eq a 60 then Some (token.AssignOp assign.LShiftAssign)
    else if nat_eq a 62 then Some (token.AssignOp assign.RShiftAssign)
    else if nat_eq a 42 then Some (token.AssignOp assign.ExpAssign)
    else if nat_eq a 38 then Some (token.AssignOp assign.AndAssign)
    else if nat_eq a 124 then Some (token.AssignOp assign.OrAssign)
    else if nat_eq a 63 then Some (token.AssignOp assign.NullishAssign)
    else None

-- and !== ... >>>
abbrev pub three : ℕ → ℕ → ℕ → Option Token
three a b c =
    if nat_eq a b && nat_eq c 61 then twice_with_equal a
    else if nat_eq a 33 && nat_eq b 61 && nat_eq c 61 then Some (token.BinOp binary.NotEqEq)
    else if nat_eq a 46 && nat_eq b 46 && nat_eq c 46 then Some token.DotDotDot
    else if nat_eq a 62 && nat_eq b 62 && nat_eq c 62 then Some (token.BinOp binary.ZeroFillRShift)
    else None

-- >>>=
abbrev pub four : ℕ → ℕ → ℕ → ℕ → Option Token
four a b c d =
    if nat_eq a 62 && nat_eq b 62 && nat_eq c 62 && nat_eq d 61 then Some
    (token.AssignOp assign.ZeroFillRShiftAssign) else None

-- the sign that is written so
abbrev pub sign_of : List ℕ → Option Token
sign_of (a ∷ []) = one a
sign_of (a ∷ b ∷ []) = two a b
sign_of (a ∷ b ∷ c ∷ []) = three a b c
sign_of (a ∷ b ∷ c ∷ d ∷ []) = four a b c d
sign_of bs = None
