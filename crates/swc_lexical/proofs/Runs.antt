-- Laws of runs.
use Rattle.std.proofs.Common.{◌≡◌, ℕ, zero, suc, ◌+◌, ◌-◌, ◌<◌, ◌≤◌, List, [], ◌∷◌, length, drop, take, refl, sym, ap, ◌∙◌, arith, length-drop}
use Rattle.std.proofs.{lemmas.List.drop-drop, Math.Seq.take-length}
use Rattle.swc_lexical.specs.Runs.{run_from, run, RunsTo}

-- what is left of a piece is passed
passed : (piece : List ℕ → ℕ) (k : ℕ) (bs : List ℕ) → k ≤ length bs → run_from piece k bs ≡ k + run piece (drop k bs)
unfolding run_from
passed piece zero bs h = omega arith
passed piece (suc k) [] h = absurd (omega arith)
passed piece (suc k) (b ∷ bs) h = let more = passed piece k bs (omega arith) in omega (arith, more)

-- where there is no piece the run ends
pub run_stop : (piece : List ℕ → ℕ) (bs : List ℕ) → piece bs ≡ 0 → run piece bs ≡ 0
unfolding run_from
run_stop piece [] h = refl
run_stop piece (b ∷ bs) h = rw h refl

first_piece : (piece : List ℕ → ℕ) (bs : List ℕ) (n : ℕ) → piece bs ≡ suc n → suc n ≤ length bs
    → run piece bs ≡ suc n + run piece (drop (suc n) bs)
unfolding run_from
first_piece piece [] n h within = absurd (omega arith)
first_piece piece (b ∷ bs) n h within = rw h (let more = passed piece n bs (omega arith) in omega (arith, more))

-- a piece, and the run after it
pub run_more : (piece : List ℕ → ℕ) (bs : List ℕ) (n : ℕ) → piece bs ≡ n → 0 < n → n ≤ length bs
    → run piece bs ≡ n + run piece (drop n bs)
run_more piece bs zero h some within = absurd (omega arith)
run_more piece bs (suc n) h some within = first_piece piece bs n h within

pub RunsTo_begin : (piece : List ℕ → ℕ) (bs : List ℕ) → RunsTo piece bs 0
RunsTo_begin piece bs = record { within = omega arith; sum = omega arith }

-- what is left after a place, as code cuts it
abbrev pub rest_at : List ℕ → ℕ → List ℕ
rest_at bs at = take (length bs - at) (drop at bs)

pub rest_at-drop : (bs : List ℕ) (at : ℕ) → rest_at bs at ≡ drop at bs
rest_at-drop bs at = ap (λ n. take n (drop at bs)) (sym (length-drop at bs)) ∙ take-length (drop at bs)

pub RunsTo_more : (piece : List ℕ → ℕ) (bs : List ℕ) (at n : ℕ) → RunsTo piece bs at → n ≡ piece (rest_at bs at)
    → (n ≡ 0 → ⊥) → n ≤ length (rest_at bs at) → RunsTo piece bs (at + n)
RunsTo_more piece bs at n r is some within =
    let l = length-drop at bs in
    let same = ap length (rest_at-drop bs at) in
    let here : n ≡ piece (drop at bs) = is ∙ ap piece (rest_at-drop bs at) in
    let pos : 0 < n = omega (arith, some) in
    let inside : n ≤ length (drop at bs) = omega (arith, within, same) in
    let w = r.within in
    record {
      within = omega (arith, l, inside, pos, w);
      sum = (let more = run_more piece (drop at bs) n (sym here) pos inside in
          let place = ap (run piece) (drop-drop n at bs) in
          let so_far = r.sum in omega (arith, more, place, so_far));
    }

run_none : (piece : List ℕ → ℕ) (bs : List ℕ) → length bs ≡ 0 → run piece bs ≡ 0
unfolding run_from
run_none piece [] h = refl
run_none piece (b ∷ bs) h = absurd (omega (arith, h))

pub RunsTo_over : (piece : List ℕ → ℕ) (bs : List ℕ) (at : ℕ) → RunsTo piece bs at → length bs ≤ at → at ≡ run piece bs
RunsTo_over piece bs at r over =
    let none = run_none piece (drop at bs) (let l = length-drop at bs in omega (arith, l)) in let so_far = r.sum in
    omega (arith, none, so_far)

pub RunsTo_end : (piece : List ℕ → ℕ) (bs : List ℕ) (at n : ℕ) → RunsTo piece bs at → n ≡ piece (rest_at bs at) → n ≡ 0
    → at ≡ run piece bs
RunsTo_end piece bs at n r is none =
    let stop = run_stop piece (drop at bs) (ap piece (sym (rest_at-drop bs at)) ∙ sym is ∙ none) in
    let so_far = r.sum in omega (arith, stop, so_far)
