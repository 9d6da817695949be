-- Line breaks before tokens: one more token.
use Rattle.std.proofs.Common.{◌≡◌, ℕ, ◌<◌, List, [], ◌∷◌, ◌++◌, length, refl, arith}
use Rattle.swc_input.specs.declared.token.TokenAndSpan.{TokenAndSpan}
use Rattle.swc_tokens.specs.Blanks.{has_line_break, MarksLineBreaks, MarksLineBreaksFrom}
use Rattle.swc_tokens.specs.Order.{end_of}

pub end_of-push : (low : ℕ) (ts : List TokenAndSpan) (t : TokenAndSpan) → end_of low (ts ++ t ∷ []) ≡ t.span.hi.0
unfolding end_of
end_of-push low [] t = refl
end_of-push low (s ∷ ts) t = end_of-push s.span.hi.0 ts t

MarksLineBreaksFrom_push : (text : List ℕ) (low : ℕ) (ts : List TokenAndSpan) (t : TokenAndSpan)
    → MarksLineBreaksFrom text low ts → t.had_line_break ≡ has_line_break text (end_of low ts) t.span.lo.0
    → MarksLineBreaksFrom text low (ts ++ t ∷ [])
unfolding MarksLineBreaksFrom end_of
MarksLineBreaksFrom_push text low [] t so_far marked = (marked, tt)
MarksLineBreaksFrom_push text low (s ∷ ts) t so_far marked =
    (so_far.0, MarksLineBreaksFrom_push text s.span.hi.0 ts t so_far.1 marked)

pub MarksLineBreaks_push : (text : List ℕ) (ts : List TokenAndSpan) (t : TokenAndSpan) → MarksLineBreaks text ts
    → (0 < length ts → t.had_line_break ≡ has_line_break text (end_of 0 ts) t.span.lo.0)
    → MarksLineBreaks text (ts ++ t ∷ [])
unfolding MarksLineBreaks MarksLineBreaksFrom end_of
MarksLineBreaks_push text [] t so_far marked = tt
MarksLineBreaks_push text (s ∷ ts) t so_far marked =
    MarksLineBreaksFrom_push text s.span.hi.0 ts t so_far (marked (omega arith))
