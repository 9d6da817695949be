-- The value of digits of base 16.
use Rattle.std.proofs.Common.{◌≡◌, ℕ, zero, suc, ◌+◌, ◌<◌, ◌≤◌, List, [], ◌∷◌, length, drop, slice_get, Option, Some, None, refl, sym, ap, ◌∙◌, arith, length-drop}
use Rattle.swc_lexical.specs.Escapes.{hex_from, hex_at, capped, HexTo}

pub HexTo_begin : (bs : List ℕ) → HexTo bs 0 0
HexTo_begin bs = record { small = omega arith; within = omega arith; value = refl }

stop : (n : ℕ) (bs : List ℕ) (at : ℕ) → hex_at (slice_get bs at) ≡ None → hex_from n (drop at bs) ≡ n
unfolding hex_from
stop n [] zero h = refl
stop n [] (suc at) h = refl
stop n (b ∷ bs) zero h = rw h refl
stop n (b ∷ bs) (suc at) h = stop n bs at h

step : (n : ℕ) (bs : List ℕ) (at d : ℕ) → hex_at (slice_get bs at) ≡ Some d
    → hex_from n (drop at bs) ≡ hex_from (capped n d) (drop (suc at) bs)
unfolding hex_from
step n [] zero d h = cc
step n [] (suc at) d h = cc
step n (b ∷ bs) zero d h = rw h refl
step n (b ∷ bs) (suc at) d h = step n bs at d h

none : (n : ℕ) (bs : List ℕ) → length bs ≡ 0 → hex_from n bs ≡ n
unfolding hex_from
none n [] h = refl
none n (b ∷ bs) h = absurd (omega (arith, h))

pub HexTo_end : (bs : List ℕ) (at n : ℕ) (o : Option ℕ) → HexTo bs at n → o ≡ hex_at (slice_get bs at) → o ≡ None
    → n ≡ hex_from 0 bs
HexTo_end bs at n o i is end = sym (stop n bs at (sym is ∙ end)) ∙ i.value

pub HexTo_over : (bs : List ℕ) (at n : ℕ) → HexTo bs at n → length bs ≤ at → n ≡ hex_from 0 bs
HexTo_over bs at n i over = sym (none n (drop at bs) (let l = length-drop at bs in omega (arith, l, over))) ∙ i.value

pub HexTo_more : (bs : List ℕ) (at n d v : ℕ) (o : Option ℕ) → HexTo bs at n → o ≡ hex_at (slice_get bs at) → o ≡ Some d
    → v ≡ capped n d → v ≤ 0x110000 → at < length bs → HexTo bs (at + 1) v
HexTo_more bs at n d v o i is some value small within = record {
  small = small;
  within = omega (arith, within);
  value = (let next : at + 1 ≡ suc at = omega arith in
      ap (λ k. hex_from v (drop k bs)) next ∙ ap (λ k. hex_from k (drop (suc at) bs)) value ∙ sym
      (step n bs at d (sym is ∙ some)) ∙ i.value);
}
