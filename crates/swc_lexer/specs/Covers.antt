-- Nothing of a text is lost: between its tokens are white space, line terminators and comments alone.
use Rattle.std.specs.Prelude.{ℕ, ◌+◌, ◌≤◌, Bool, ◌||◌, nat_eq, List, [], ◌∷◌, length, drop, IsTrue}
use Rattle.swc_context.specs.declared.span.Span.{Span}
use Rattle.swc_input.specs.declared.token.TokenAndSpan.{TokenAndSpan}
use Rattle.swc_lexical.specs.{Blanks.blanks_len, Runs.is_at}
use Rattle.swc_lexer.specs.{declared.reader.End.End, declared.reader.End.TheVariants.Whole, declared.reader.End.TheVariants.BeforeBrace}

-- between two places is nothing, or all blanks that begin at the first
abbrev pub is_gap : List ℕ → ℕ → ℕ → Bool
is_gap bs at lo = nat_eq lo at || nat_eq lo (at + blanks_len (drop at bs))

-- what is left is blanks, up to the end or to the `}` before which the text ends
abbrev pub is_end : End → List ℕ → Bool
is_end Whole bs = nat_eq (blanks_len bs) (length bs)
is_end BeforeBrace bs = nat_eq (blanks_len bs) (length bs) || is_at bs (blanks_len bs) 125

-- a token that comes after the place, with a gap between them
pub record Follows (bs : List ℕ) (at : ℕ) (s : Span) : Type 0 where
  pub gap : IsTrue (is_gap bs at s.lo.0)
  pub order : s.lo.0 ≤ s.hi.0
  pub within : s.hi.0 ≤ length bs

-- From the place on the text is these tokens, in this order, with gaps before them and at the end.
abbrev pub Covers : End → List ℕ → ℕ → List TokenAndSpan → Type 0
Covers e bs at [] = IsTrue (is_end e (drop at bs))
Covers e bs at (t ∷ ts) = Follows bs at t.span × Covers e bs t.span.hi.0 ts
