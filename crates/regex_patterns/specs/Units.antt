-- The units of a pattern: its characters with the flag `u` or `v`, and otherwise the code units of UTF-16 (ECMA-262,
-- 22.2.3.3).
use Rattle.std.specs.Prelude.{ℕ, Bool, ◌&&◌, if◌then◌else◌, List, [], ◌∷◌, ◌++◌, Option, Some, None}
use Rattle.std.specs.Char.Escape.{encode_utf16}
use Rattle.std.specs.Char.Utf16.{is_high_surrogate, is_low_surrogate, surrogate_pair_char}

abbrev pub unit_of : Bool → ℕ → List ℕ
unit_of are_characters c = if are_characters then c ∷ [] else encode_utf16 c

unfoldable pub units : Bool → List ℕ → List ℕ
units are_characters [] = []
units are_characters (c ∷ cs) = unit_of are_characters c ++ units are_characters cs

-- the character of two halves
abbrev pub joined : ℕ → ℕ → Option ℕ
joined high low =
    if is_high_surrogate high && is_low_surrogate low then Some (surrogate_pair_char high low) else None
