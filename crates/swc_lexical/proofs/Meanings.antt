-- What texts mean.
use Rattle.std.proofs.Common.{◌≡◌, ℕ, zero, suc, ◌+◌, ◌-◌, ◌<◌, ◌≤◌, Bool, List, [], ◌∷◌, ◌++◌, length, drop, Option, None, IfSome, refl, sym, ap, ◌∙◌, arith, length-drop, append_assoc}
use Rattle.std.proofs.lemmas.List.{drop-drop}
use Rattle.swc_lexical.specs.declared.escape.Meaning.{Meaning}
use Rattle.swc_lexical.specs.Meanings.{meaning_from, meaning, piece, given, left, lone, text_of, MeansTo}
use Rattle.swc_lexical.proofs.Runs.{rest_at, rest_at-drop}

pub MeansTo_begin : (cooks : Bool) (bs : List ℕ) → MeansTo cooks bs 0 None []
MeansTo_begin cooks bs = record { within = omega arith; small = tt; sum = refl }

-- what is left of a piece is passed
passed : (cooks : Bool) (k : ℕ) (half : Option ℕ) (bs : List ℕ) → k ≤ length bs
    → meaning_from cooks k half bs ≡ meaning_from cooks 0 half (drop k bs)
unfolding meaning_from
passed cooks zero half bs h = refl
passed cooks (suc k) half [] h = absurd (omega arith)
passed cooks (suc k) half (b ∷ bs) h = passed cooks k half bs (omega arith)

-- a piece, and what comes after it
step : (cooks : Bool) (half : Option ℕ) (bs : List ℕ) (m : Meaning) (n : ℕ) → (m, n) ≡ piece cooks bs → 0 < n
    → n ≤ length bs →
    meaning_from cooks 0 half bs ≡ given half m ++ meaning_from cooks 0 (left half m) (drop n bs)
unfolding meaning_from
step cooks half [] m n h some within = absurd (omega (arith, some, within))
step cooks half (b ∷ bs) m zero h some within = absurd (omega (arith, some))
step cooks half (b ∷ bs) m (suc n) h some within =
    let less : suc n - 1 ≡ n = omega arith in
    ap (λ p. given half p.0 ++ meaning_from cooks (p.1 - 1) (left half p.0) bs) (sym h)
    ∙ ap (λ j. given half m ++ meaning_from cooks j (left half m) bs) less
    ∙ ap (λ t. given half m ++ t) (passed cooks n (left half m) bs (omega (arith, within)))

at_end : (cooks : Bool) (half : Option ℕ) (bs : List ℕ) → length bs ≡ 0
    → meaning_from cooks 0 half bs ≡ text_of (lone half)
unfolding meaning_from
at_end cooks half [] h = refl
at_end cooks half (b ∷ bs) h = absurd (omega (arith, h))

pub MeansTo_over : (cooks : Bool) (bs : List ℕ) (at : ℕ) (half : Option ℕ) (v r : List ℕ) (ch : Option ℕ)
    → MeansTo cooks bs at half v → length bs ≤ at →
    ch ≡ lone half → r ≡ v ++ text_of ch → r ≡ meaning cooks bs
MeansTo_over cooks bs at half v r ch i over is written =
    let l = length-drop at bs in
    written ∙ ap (λ c. v ++ text_of c) is ∙ ap (λ t. v ++ t)
    (sym (at_end cooks half (drop at bs) (omega (arith, l, over)))) ∙ i.sum

pub MeansTo_more : (cooks : Bool) (bs : List ℕ) (at : ℕ) (half next : Option ℕ) (v w : List ℕ) (p : Meaning × ℕ)
    → MeansTo cooks bs at half v →
    p ≡ piece cooks (rest_at bs at) → p.1 ≤ length (rest_at bs at) → 0 < p.1 → w ≡ v ++ given half p.0
    → next ≡ left half p.0 →
    IfSome next (λ h. h < 0xE000) → MeansTo cooks bs (at + p.1) next w
MeansTo_more cooks bs at half next v w p i is within some written after small =
    let l = length-drop at bs in
    let same = ap length (rest_at-drop bs at) in
    let inside : p.1 ≤ length (drop at bs) = omega (arith, within, same) in
    let one = step cooks half (drop at bs) p.0 p.1 (is ∙ ap (piece cooks) (rest_at-drop bs at)) some inside in
    let place = drop-drop p.1 at bs in
    record {
      within = (let w = i.within in omega (arith, l, inside, some, w));
      small = small;
      sum =
          ap (λ t. t ++ meaning_from cooks 0 next (drop (at + p.1) bs)) written
          ∙ append_assoc v (given half p.0) (meaning_from cooks 0 next (drop (at + p.1) bs))
          ∙ ap (λ t. v ++ (given half p.0 ++ meaning_from cooks 0 t (drop (at + p.1) bs))) after
          ∙ ap (λ t. v ++ (given half p.0 ++ meaning_from cooks 0 (left half p.0) t)) (sym place)
          ∙ ap (λ t. v ++ t) (sym one)
          ∙ i.sum;
    }
