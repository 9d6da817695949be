-- What is left of a list, with what was passed.
use Rattle.std.proofs.Common.{◌≡◌, ℕ, ◌+◌, Bool, List, [], ◌∷◌, ◌++◌, Option, Some, None, refl}
use Rattle.regex_patterns.specs.Units.{units, unit_of}
use Rattle.regex_patterns.specs.declared.piece.Placed.{Placed}

-- with so many units before
abbrev pub shifted : ℕ → Option (Bool × ℕ) → Option (Bool × ℕ)
shifted k None = None
shifted k (Some r) = Some (r.0, k + r.1)

-- with these pieces before
abbrev pub with_before : List Placed → Option (List Placed) → Option (List Placed)
with_before ps None = None
with_before ps (Some qs) = Some (ps ++ qs)

pub units_more : (b : Bool) (c : ℕ) (cs : List ℕ) → units b (c ∷ cs) ≡ unit_of b c ++ units b cs
unfolding units
units_more b c cs = refl

pub units_none : (b : Bool) → units b [] ≡ []
unfolding units
units_none b = refl
