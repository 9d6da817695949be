-- Blanks and comments one after the other, and between tokens.
use Rattle.std.proofs.Common.{◌≡◌, ℕ, ◌≤◌, List, [], ◌∷◌, ◌++◌, ◌+◌, ◌-◌, length, false, refl, subst, ap, ◌∙◌, arith}
use Rattle.swc_input.specs.declared.token.TokenAndSpan.{TokenAndSpan}
use Rattle.swc_tokens.specs.Blanks.{has_line_break, AreBlanks, OnlyBlanksBetween, none, more}
use Rattle.swc_tokens.specs.Profile.{blanks_len}
use Rattle.swc_lexical.proofs.Runs.{rest_at, rest_at-drop}

-- Among no bytes there is no line break.
pub has_line_break_none : (text : List ℕ) (low high : ℕ) → high ≤ low → has_line_break text low high ≡ false
unfolding has_line_break
has_line_break_none text low high past = let zero : high - low ≡ 0 = omega arith in rw zero refl

pub AreBlanks_none : (text : List ℕ) (at : ℕ) → AreBlanks text at at
AreBlanks_none text at = none

-- all that are here, as code cuts them
pub AreBlanks_all : (text : List ℕ) (low len : ℕ) → len ≡ blanks_len (rest_at text low) → AreBlanks text low (low + len)
AreBlanks_all text low len is = more none (ap (λ n. low + n) (is ∙ ap blanks_len (rest_at-drop text low)))

pub AreBlanks_join : (text : List ℕ) (low mid high : ℕ) → AreBlanks text low mid → AreBlanks text mid high
    → AreBlanks text low high
AreBlanks_join text low mid high left none = left
AreBlanks_join text low mid high left (more right is) = more (AreBlanks_join text low mid _ left right) is

-- with no byte left, the blanks reach to the end
pub AreBlanks_end : (text : List ℕ) (low at : ℕ) → AreBlanks text low at → at ≤ length text → length text ≤ at
    → AreBlanks text low (length text)
AreBlanks_end text low at blanks within past =
    let end : at ≡ length text = omega arith in let P : ℕ → Type 0 = λ high. AreBlanks text low high in
    subst P end blanks

pub OnlyBlanksBetween_wider : (text : List ℕ) (low : ℕ) (ts : List TokenAndSpan) (mid high : ℕ)
    → OnlyBlanksBetween text low ts mid → AreBlanks text mid high → OnlyBlanksBetween text low ts high
unfolding OnlyBlanksBetween
OnlyBlanksBetween_wider text low [] mid high so_far rest = AreBlanks_join text low mid high so_far rest
OnlyBlanksBetween_wider text low (s ∷ ts) mid high so_far rest =
    (so_far.0, OnlyBlanksBetween_wider text s.span.hi.0 ts mid high so_far.1 rest)

pub OnlyBlanksBetween_push : (text : List ℕ) (low : ℕ) (ts : List TokenAndSpan) (mid : ℕ) (t : TokenAndSpan)
    → OnlyBlanksBetween text low ts mid → AreBlanks text mid t.span.lo.0
    → OnlyBlanksBetween text low (ts ++ t ∷ []) t.span.hi.0
unfolding OnlyBlanksBetween
OnlyBlanksBetween_push text low [] mid t so_far gap =
    (AreBlanks_join text low mid t.span.lo.0 so_far gap, AreBlanks_none text t.span.hi.0)
OnlyBlanksBetween_push text low (s ∷ ts) mid t so_far gap =
    (so_far.0, OnlyBlanksBetween_push text s.span.hi.0 ts mid t so_far.1 gap)
