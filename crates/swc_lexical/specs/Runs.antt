-- Pieces, one after another, at the beginning of a text.
use Rattle.std.specs.Prelude.{◌≡◌, ℕ, zero, suc, ◌+◌, ◌≤◌, Bool, false, nat_eq, List, [], ◌∷◌, Option, Some, None, slice_get, length, drop}

-- whether a byte is there that passes the test
abbrev pub passes : (ℕ → Bool) → Option ℕ → Bool
passes p None = false
passes p (Some b) = p b

abbrev pub test_at : (ℕ → Bool) → List ℕ → ℕ → Bool
test_at p bs k = passes p (slice_get bs k)

-- whether this byte is there
abbrev pub is_at : List ℕ → ℕ → ℕ → Bool
is_at bs k v = test_at (λ b. nat_eq b v) bs k

-- what f gives of one less, and 0 of 0
abbrev pub unless_none : ℕ → (ℕ → ℕ) → ℕ
unless_none zero f = 0
unless_none (suc n) f = f n

-- How many bytes the longest run of pieces takes, where k bytes are left of the piece before. `piece` says how many
-- bytes the piece takes that a text begins with: none where it begins with none.
unfoldable pub run_from : (List ℕ → ℕ) → ℕ → List ℕ → ℕ
run_from piece k [] = 0
run_from piece (suc k) (b ∷ bs) = suc (run_from piece k bs)
run_from piece zero (b ∷ bs) = unless_none (piece (b ∷ bs)) (λ n. suc (run_from piece n bs))

-- the longest run of pieces
abbrev pub run : (List ℕ → ℕ) → List ℕ → ℕ
run piece bs = run_from piece 0 bs

-- at the position is a place between two pieces of the run, or its end
pub record RunsTo (piece : List ℕ → ℕ) (bs : List ℕ) (at : ℕ) : Type 0 where
  pub within : at ≤ length bs
  pub sum : at + run piece (drop at bs) ≡ run piece bs
