-- What is opened at a piece of a pattern: of each group whether a quantifier may be after it, the innermost first. And
-- whether one may be after the term before.
use Rattle.std.specs.Prelude.{◌≡◌, Option, Some, None, Bool, true, false, if◌then◌else◌, List, [], ◌∷◌}
use Rattle.regex_patterns.specs.declared.mode.Mode.{Mode}
use Rattle.regex_patterns.specs.declared.piece.Piece.{Piece}
use Rattle.regex_patterns.specs.declared.piece.Piece.TheVariants.{Open, Close, Bar, Assertion, Quantifier, Atom, Number, Name}
use Rattle.regex_patterns.specs.declared.piece.Placed.{Placed}
use Rattle.regex_patterns.specs.Grammar.{repeats}

abbrev pub close : List Bool → (List Bool → Bool → Bool) → Bool
close [] f = false
close (r ∷ opened) f = f opened r

-- a piece more, and what f says of what is opened then
abbrev pub step : Mode → List Bool → Bool → Piece → (List Bool → Bool → Bool) → Bool
step m opened last (Open g) f = f (repeats m g ∷ opened) false
step m opened last Close f = close opened f
step m opened last Bar f = f opened false
step m opened last Assertion f = f opened false
step m opened last Quantifier f = if last then f opened false else false
step m opened last Atom f = f opened true
step m opened last (Number n) f = f opened true
step m opened last Name f = f opened true

-- what is open after a piece, and whether a quantifier may be after it; None where it can't be here
abbrev pub Steps : Mode → List Bool → Bool → Piece → List Bool → Option Bool → Type 0
Steps m before last p after None = (f : List Bool → Bool → Bool) → step m before last p f ≡ false
Steps m before last p after (Some next) = (f : List Bool → Bool → Bool) → step m before last p f ≡ f after next

abbrev pub is_nothing : List Bool → Bool
is_nothing [] = true
is_nothing (r ∷ opened) = false

-- whether these pieces go on, and end, what is opened
unfoldable pub accepts : Mode → List Bool → Bool → List Placed → Bool
accepts m opened last [] = is_nothing opened
accepts m opened last (x ∷ xs) = step m opened last x.piece (λ o l. accepts m o l xs)
