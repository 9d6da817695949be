-- Tokens in order: none, and one more.
use Rattle.std.proofs.Common.{ℕ, ◌≤◌, List, [], ◌∷◌, ◌++◌, arith}
use Rattle.swc_input.specs.declared.token.TokenAndSpan.{TokenAndSpan}
use Rattle.swc_tokens.specs.Order.{HasPlace, InOrder}

pub InOrder_nil : (n : ℕ) → InOrder n [] n
unfolding InOrder
InOrder_nil n = omega arith

pub InOrder_push : (low : ℕ) (ts : List TokenAndSpan) (mid : ℕ) (t : TokenAndSpan) (high : ℕ) → InOrder low ts mid
    → mid ≤ t.span.lo.0 → HasPlace t → t.span.hi.0 ≤ high → InOrder low (ts ++ t ∷ []) high
unfolding InOrder
InOrder_push low [] mid t high so_far after placed before = (omega arith, placed, before)
InOrder_push low (s ∷ ts) mid t high so_far after placed before =
    (so_far.0, so_far.1, InOrder_push s.span.hi.0 ts mid t high so_far.2 after placed before)

pub InOrder_wider : (low : ℕ) (ts : List TokenAndSpan) (mid high : ℕ) → InOrder low ts mid → mid ≤ high
    → InOrder low ts high
unfolding InOrder
InOrder_wider low [] mid high so_far wider = omega arith
InOrder_wider low (s ∷ ts) mid high so_far wider = (
  so_far.0,
  so_far.1,
  InOrder_wider s.span.hi.0 ts mid high so_far.2 wider,
)
