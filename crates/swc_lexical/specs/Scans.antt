-- The token that is next in a text (ECMA-262, 12), by the goal of the lexical grammar that holds there.
use Rattle.std.specs.Prelude.{ℕ, if◌then◌else◌, List, Option, Some, None, drop, Bool, true, false, ◌&&◌, nat_eq, nat_lt}
use Rattle.swc_lexical.specs.{declared.lexeme.Kind.Kind, declared.scan.Goal.Goal, declared.scan.Piece.Piece, Runs.is_at, Blanks.blanks_len, Templates.text_len, Templates.is_end, Lexemes.lexeme}
use Rattle.swc_lexical.specs.declared.scan.Goal.TheVariants.{Div, RegExp, Text, Delimiter}
use Rattle.swc_lexical.specs.declared.lexeme.Kind.TheVariants as kind

abbrev pub piece_of : Goal → ℕ → Option (Kind × ℕ) → Option Piece
piece_of goal blanks None = None
piece_of goal blanks (Some r) = Some (record { goal = goal; blanks = blanks; kind = r.0; len = r.1 })

abbrev pub text_of : Option ℕ → Option Piece
text_of None = None
text_of (Some len) = Some (record { goal = Text; blanks = 0; kind = kind.Text; len = len })

-- after blanks, where a slash begins a regular expression or divides
abbrev pub in_code : Goal → Bool → List ℕ → Option Piece
in_code goal wants bs = piece_of goal (blanks_len bs) (lexeme wants (drop (blanks_len bs) bs))

abbrev pub delimiter : List ℕ → Option Piece
delimiter bs =
    if is_end bs then Some (record {
      goal = Delimiter;
      blanks = 0;
      kind = kind.Sign;
      len =
          if is_at bs 0 96 then 1 else 2;
    }) else None

-- the token that is here, by the goal
abbrev pub piece_at : Goal → List ℕ → Option Piece
piece_at Div bs = in_code Div false bs
piece_at RegExp bs = in_code RegExp true bs
piece_at Text bs = text_of (text_len bs)
piece_at Delimiter bs = delimiter bs

abbrev pub is_sign : Kind → Bool
is_sign kind.Sign = true
is_sign k = false

-- whether the token is the sign that is this byte alone
abbrev pub is_one : Piece → List ℕ → ℕ → Bool
is_one p bs b = is_sign p.kind && nat_eq p.len 1 && is_at bs p.blanks b

-- whether the token is a dot with blanks before it, where a `?` is before them: `?.` is written without
abbrev pub gapes : Bool → Piece → List ℕ → Bool
gapes asks p bs = asks && nat_lt 0 p.blanks && is_one p bs 46
