-- Things that have names, the topmost first.
use Rattle.std.specs.Prelude.{ℕ, List, [], ◌∷◌, length, if◌then◌else◌, nat_le, Option, None, Some}
use Rattle.std.specs.Str.{bytes_eq}

-- the topmost thing that has the name, and how many are under it
unfoldable pub found : {T : Type 0} → List ℕ → List (List ℕ × T) → Option (ℕ × T)
found q [] = None
found q (x ∷ xs) = if bytes_eq q x.0 then Some (length xs, x.1) else found q xs

-- what was found, if at least so many things are under it
abbrev pub since : {T : Type 0} → ℕ → Option (ℕ × T) → Option T
since n None = None
since n (Some p) = if nat_le n p.0 then Some p.1 else None
