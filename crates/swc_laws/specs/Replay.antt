-- Replay: the tokens that are kept of a list are derived as that list was, where each regular expression that was found
-- at a slash was read after this slash.
use Rattle.std.specs.Prelude.{◌≡◌, Bool, true, false, not, ◌&&◌, List, []}
use Rattle.swc_input.specs.{declared.token.TokenAndSpan.TokenAndSpan, Kept.kept_of}
use Rattle.swc_bodies.specs.Readings.{Hook}
use Rattle.swc_bodies.specs.Slashes.{is_found_at, in_order, are_wanted, EndsBodies}
use Rattle.swc_grammar.specs.Symbols.{Symbol, Answer, Side}
use Rattle.swc_grammar.specs.Reads.{Reads, by, Follows, gave, took, held, calm, calm-two, part, heard}
use Rattle.swc_grammar.specs.{Scope.Scope, Grammar.Production, Grammar.regex-slash}

-- the production of a regular expression after the slash at which it was found
abbrev pub is_joining : {F C K : Type 0} {s : Symbol} {c : Scope} {r : Side F C K s} → Production s c r → Bool
is_joining regex-slash = true
is_joining p = false

module _ {F C K : Type 0} {hook : Hook F C K} where
  -- No other production than that one takes a slash that comes before the regular expression found at it: so none is
  -- taken as an operator.
  abbrev mutual
    pub Joined : {s : Symbol} {c : Scope} {xs ys : List TokenAndSpan} {t : Answer F C K s}
        → Reads hook s c xs ys t → Type 0
    Joined (by p d) = JoinedSide (is_joining p) d

    pub JoinedSide : {s : Symbol} {r : Side F C K s} {xs ys : List TokenAndSpan} {t : Answer F C K s}
        → Bool → Follows hook s r xs ys t → Type 0
    JoinedSide b gave = Unit {0}
    JoinedSide b (took {a = a} {xs = xs} d) = ((is_found_at a xs && not b) ≡ false) × JoinedSide b d
    JoinedSide b (held h d) = JoinedSide b d
    JoinedSide b (calm h d) = JoinedSide b d
    JoinedSide b (calm-two h d) = JoinedSide b d
    JoinedSide b (part e d) = Joined e × JoinedSide b d
    JoinedSide b (heard h d) = JoinedSide b d

-- the law, for a symbol: what it derives from a whole list of tokens in the order of the text, it derives from those
-- that are kept of the list
abbrev pub Replay : {F C K : Type 0} → Hook F C K → Symbol → Type 0
Replay {F} {C} {K} hook s = (c : Scope) (xs : List TokenAndSpan) (t : Answer F C K s) (d : Reads hook s c xs [] t)
    → in_order xs ≡ true → Joined d → Reads hook s c (kept_of xs) [] t

-- the same of a list which itself shows that each such regular expression was read after its slash, as an operand is
-- wanted there
abbrev pub ReplayWanted : {F C K : Type 0} → Hook F C K → Symbol → Type 0
ReplayWanted {F} {C} {K} hook s = EndsBodies hook → (c : Scope) (xs : List TokenAndSpan) (t : Answer F C K s)
    → Reads hook s c xs [] t → in_order xs ≡ true → are_wanted xs ≡ true → Reads hook s c (kept_of xs) [] t
