-- No byte of an ASCII text is above 127.
use Rattle.std.proofs.Common.{◌≡◌, ℕ, ◌<◌, Bool, List, Option, Some, None, length, nat_lt, ap, ◌∙◌, arith, le-ltb}
use Rattle.std.proofs.lemmas.List.Sums.{position_or_len_is}
use Rattle.std.specs.Prelude.{if◌then◌else◌}
use Rattle.std.specs.{List.position, Str.IsAscii}

abbrev is_beyond : ℕ → Bool
is_beyond byte = nat_lt 127 byte

pub none_beyond : (bs : List ℕ) → IsAscii bs → position (λ byte. nat_lt 127 byte) bs ≡ None
none_beyond bs ascii =
    let n = length bs in
    let at = position_or_len_is is_beyond bs n 0 (omega arith)
    (λ k lt. let low = ascii k in le-ltb 127 _ (omega (arith, low))) (λ lt. absurd (omega (arith, lt))) in
    ap (λ i. if nat_lt i n then Some i else None) at ∙ ap (λ b. if b then Some n else None) (le-ltb n n (omega arith))
