use Rattle.std.proofs.Common.{◌≡◌, ◌++◌, IsUtf8, chars, length}
use Rattle.std.specs.Str.Iter.{chars_rest}
use Rattle.regex_patterns.specs.Units.{units}
use Rattle.regex_patterns.proofs.units.units_of.Given as goal

abbrev pub invariant-loop-ch : goal.invariant-loop-ch
invariant-loop-ch l = IsUtf8 (chars_rest l.rest)
    × (l.units.items ++ units l.are_characters (chars (chars_rest l.rest)) ≡ units l.are_characters (chars l.fn.text))

abbrev pub decreases-loop-ch : goal.decreases-loop-ch
decreases-loop-ch l = length (chars_rest l.rest)
