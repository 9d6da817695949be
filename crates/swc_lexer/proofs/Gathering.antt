-- Reading the comments of a text.
use Rattle.std.proofs.Common.{◌≡◌, ℕ, zero, suc, ◌+◌, ◌<◌, ◌≤◌, List, [], ◌∷◌, ◌++◌, length, get_or, drop, refl, sym, ap, ◌∙◌, arith, append_assoc, append-nil, length-drop}
use Rattle.std.proofs.lemmas.List.{drop-drop}
use Rattle.swc_input.specs.declared.token.TokenAndSpan.{TokenAndSpan}
use Rattle.swc_lexical.specs.Blanks.{blank_len}
use Rattle.swc_lexer.specs.declared.comments.Comment.{Comment}
use Rattle.swc_lexer.specs.Comments.{comments_from, comment_here, comments_among, comments_between, and_more, ReadsTo, GoesTo}
use Rattle.swc_lexer.proofs.Lists.{drop_one, drop_none}

-- what is left of a blank is passed
passed : (at k : ℕ) (bs : List ℕ) → k ≤ length bs → comments_from at k bs ≡ comments_from (at + k) 0 (drop k bs)
unfolding comments_from
passed at zero bs h = ap (λ n. comments_from n 0 bs) (omega arith)
passed at (suc k) [] h = absurd (omega arith)
passed at (suc k) (b ∷ bs) h = passed (at + 1) k bs (omega arith) ∙ ap (λ n. comments_from n 0 (drop k bs))
    (omega arith)

-- a blank, and what comes after it
step : (at : ℕ) (bs : List ℕ) (n : ℕ) → n ≡ blank_len bs → 0 < n → n ≤ length bs →
    comments_from at 0 bs ≡ comment_here at bs ++ comments_from (at + n) 0 (drop n bs)
unfolding comments_from
step at [] n h some within = absurd (omega (arith, some, within))
step at (b ∷ bs) zero h some within = absurd (omega (arith, some))
step at (b ∷ bs) (suc n) h some within =
    ap (λ k. and_more k (comment_here at (b ∷ bs)) (λ j. comments_from (at + 1) j bs)) (sym h)
    ∙ ap (λ l. comment_here at (b ∷ bs) ++ l) (passed (at + 1) n bs (omega (arith, within)))
    ∙ ap (λ m. comment_here at (b ∷ bs) ++ comments_from m 0 (drop n bs)) (omega arith)

no_blank : (at : ℕ) (bs : List ℕ) (n : ℕ) → n ≡ blank_len bs → n ≡ 0 → comments_from at 0 bs ≡ []
unfolding comments_from
no_blank at [] n h none = refl
no_blank at (b ∷ bs) n h none = ap (λ k. and_more k (comment_here at (b ∷ bs)) (λ j. comments_from (at + 1) j bs))
    (sym h ∙ none)

at_end : (at : ℕ) (bs : List ℕ) → length bs ≡ 0 → comments_from at 0 bs ≡ []
unfolding comments_from
at_end at [] h = refl
at_end at (b ∷ bs) h = absurd (omega (arith, h))

pub ReadsTo_begin : (bs : List ℕ) (lo : ℕ) (cs : List Comment) → ReadsTo bs lo 0 cs cs
ReadsTo_begin bs lo cs = record { within = omega arith; sum = ap (λ n. cs ++ comments_from n 0 bs) (omega arith) }

pub ReadsTo_more : (bs rest : List ℕ) (lo at n : ℕ) (cs now before : List Comment) → ReadsTo bs lo at cs before
    → rest ≡ drop at bs → n ≡ blank_len rest →
    (n ≡ 0 → ⊥) → n ≤ length rest → now ≡ cs ++ comment_here (lo + at) rest → ReadsTo bs lo (at + n) now before
ReadsTo_more bs rest lo at n cs now before i cut is some within added =
    let l = length-drop at bs in
    let same = ap length cut in
    let pos : 0 < n = omega (arith, some) in
    let inside : n ≤ length (drop at bs) = omega (arith, within, same) in
    let one = step (lo + at) (drop at bs) n (is ∙ ap blank_len cut) pos inside in
    let place : lo + (at + n) ≡ lo + at + n = omega arith in
    let w = i.within in
    record {
      within = omega (arith, l, inside, pos, w);
      sum = ap (λ c. c ++ comments_from (lo + (at + n)) 0 (drop (at + n) bs))
          (added ∙ ap (λ r. cs ++ comment_here (lo + at) r) cut)
          ∙ append_assoc cs (comment_here (lo + at) (drop at bs)) (comments_from (lo + (at + n)) 0 (drop (at + n) bs))
          ∙ ap (λ k. cs ++ (comment_here (lo + at) (drop at bs) ++ comments_from k 0 (drop (at + n) bs))) place
          ∙ ap (λ r. cs ++ (comment_here (lo + at) (drop at bs) ++ comments_from (lo + at + n) 0 r))
          (sym (drop-drop n at bs))
          ∙ ap (λ t. cs ++ t) (sym one)
          ∙ i.sum;
    }

pub ReadsTo_end : (bs rest : List ℕ) (lo at n : ℕ) (cs before : List Comment) → ReadsTo bs lo at cs before
    → rest ≡ drop at bs → n ≡ blank_len rest → n ≡ 0 →
    cs ≡ before ++ comments_from lo 0 bs
ReadsTo_end bs rest lo at n cs before i cut is none =
    sym (append-nil cs) ∙ ap (λ t. cs ++ t) (sym (no_blank (lo + at) (drop at bs) n (is ∙ ap blank_len cut) none))
    ∙ i.sum

pub ReadsTo_over : (bs : List ℕ) (lo at : ℕ) (cs before : List Comment) → ReadsTo bs lo at cs before → length bs ≤ at
    → cs ≡ before ++ comments_from lo 0 bs
ReadsTo_over bs lo at cs before i over =
    let l = length-drop at bs in
    sym (append-nil cs) ∙ ap (λ t. cs ++ t) (sym (at_end (lo + at) (drop at bs) (omega (arith, l, over)))) ∙ i.sum

-- ---- before tokens

pub GoesTo_begin : (bs : List ℕ) (ts : List TokenAndSpan) (begin : ℕ) (cs : List Comment)
    → GoesTo bs ts begin 0 begin cs cs
GoesTo_begin bs ts begin cs = record { sum = refl }

pub GoesTo_more : (bs : List ℕ) (ts : List TokenAndSpan) (begin i at : ℕ) (x : TokenAndSpan)
    (cs now before : List Comment) → GoesTo bs ts begin i at cs before →
    i < length ts → x ≡ get_or ts i x → now ≡ cs ++ comments_between bs at x.span.lo.0
    → GoesTo bs ts begin (i + 1) x.span.hi.0 now before
GoesTo_more bs ts begin i at x cs now before g lt is added = record {
  sum = ap (λ c. c ++ comments_among bs x.span.hi.0 (drop (i + 1) ts)) added
      ∙ append_assoc cs (comments_between bs at x.span.lo.0) (comments_among bs x.span.hi.0 (drop (i + 1) ts))
      ∙ ap (λ l. cs ++ comments_among bs at l) (sym (drop_one ts i x lt is))
      ∙ g.sum;
}

pub GoesTo_over : (bs : List ℕ) (ts : List TokenAndSpan) (begin i at : ℕ) (cs now before : List Comment)
    → GoesTo bs ts begin i at cs before → length ts ≤ i →
    now ≡ cs ++ comments_between bs at (length bs) → now ≡ before ++ comments_among bs begin ts
GoesTo_over bs ts begin i at cs now before g over added =
    added ∙ ap (λ l. cs ++ comments_among bs at l) (sym (drop_none ts i over)) ∙ g.sum
