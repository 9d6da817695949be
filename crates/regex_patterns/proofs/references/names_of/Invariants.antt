use Rattle.std.proofs.Common.{◌≡◌, ◌-◌, length, drop}
use Rattle.std.proofs.Common.{ℕ, List, ◌||◌}
use Rattle.std.specs.HashSet.{contains_text}
use Rattle.regex_patterns.specs.Conditions.{contains, group_names}
use Rattle.regex_patterns.proofs.references.names_of.Given as goal

abbrev pub invariant-loop-number : goal.invariant-loop-number
invariant-loop-number l = (q : List ℕ) → (contains_text l.names q || contains (group_names l.units (drop l.number l.pieces)) q) ≡ contains (group_names l.units l.pieces) q

abbrev pub decreases-loop-number : goal.decreases-loop-number
decreases-loop-number l = length l.pieces - l.number
