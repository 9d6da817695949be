-- Which tokens are kept.
use Rattle.std.specs.Prelude.{◌≤◌, Bool, true, false, List, [], ◌∷◌, ◌++◌, Option, Some, None, nat_lt, ⊤}
use Rattle.swc_context.specs.declared.span.BytePos.{BytePos}
use Rattle.swc_input.specs.declared.token.TokenAndSpan.{TokenAndSpan}

-- t ends after the position
abbrev pub ends_behind : BytePos → TokenAndSpan → Bool
ends_behind at t = nat_lt at.0 t.span.hi.0

abbrev pub is_late : BytePos → Option TokenAndSpan → Bool
is_late at None = false
is_late at (Some t) = ends_behind at t

-- t in front of what is left after it, or nothing where nothing is and t is late too
abbrev pub in_front : Bool → TokenAndSpan → List TokenAndSpan → List TokenAndSpan
in_front true t [] = []
in_front late t ts = t ∷ ts

-- the tokens without those at their end that end after the position
abbrev pub cleared : BytePos → List TokenAndSpan → List TokenAndSpan
cleared at [] = []
cleared at (t ∷ ts) = in_front (ends_behind at t) t (cleared at ts)

-- the tokens ts, with t kept after them: those at their end that end after its start are dropped
abbrev pub kept : List TokenAndSpan → TokenAndSpan → List TokenAndSpan
kept ts t = cleared t.span.lo ts ++ t ∷ []

-- what is kept of the tokens xs, which come one after another, after ts, which were kept before
abbrev pub kept_on : List TokenAndSpan → List TokenAndSpan → List TokenAndSpan
kept_on ts [] = ts
kept_on ts (x ∷ xs) = kept_on (kept ts x) xs

abbrev pub kept_of : List TokenAndSpan → List TokenAndSpan
kept_of xs = kept_on [] xs

-- each token begins where the one before it ends, or after
abbrev pub one_by_one : List TokenAndSpan → Type 0
one_by_one [] = ⊤
one_by_one (t ∷ []) = ⊤
one_by_one (t ∷ u ∷ us) = (t.span.hi.0 ≤ u.span.lo.0) × one_by_one (u ∷ us)
