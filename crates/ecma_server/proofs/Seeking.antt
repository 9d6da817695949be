-- A position is looked for byte by byte.
use Rattle.std.proofs.Common.{◌≡◌, ℕ, zero, suc, true, false, List, refl, ap, ◌∙◌}
use Rattle.ecma_server.specs.Places.{seek, stops, passed}
use Rattle.ecma_server.specs.declared.places.Position.{Position}
use Rattle.ecma_server.specs.declared.places.Units.{Units}

pub seek-on : (u : Units) (bs : List ℕ) (m k : ℕ) (p : Position) (n : ℕ) → m ≡ suc k → stops u bs p n ≡ false
    → seek u bs m p n ≡ seek u bs k (passed u bs p n) (suc n)
unfolding seek
seek-on u bs m k p n e h = ap (λ v. seek u bs v p n) e ∙ rw h refl

pub seek-here : (u : Units) (bs : List ℕ) (m k : ℕ) (p : Position) (n : ℕ) → m ≡ suc k → stops u bs p n ≡ true
    → seek u bs m p n ≡ n
unfolding seek
seek-here u bs m k p n e h = ap (λ v. seek u bs v p n) e ∙ rw h refl

pub seek-end : (u : Units) (bs : List ℕ) (m : ℕ) (p : Position) (n : ℕ) → m ≡ zero → seek u bs m p n ≡ n
unfolding seek
seek-end u bs m p n e = ap (λ v. seek u bs v p n) e
