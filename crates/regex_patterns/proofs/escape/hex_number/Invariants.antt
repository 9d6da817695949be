use Rattle.std.proofs.Common.{◌-◌, length}
use Rattle.swc_lexical.specs.Escapes.{HexTo}
use Rattle.regex_patterns.proofs.escape.hex_number.Given as goal

abbrev pub invariant-loop-at : goal.invariant-loop-at
invariant-loop-at l = HexTo l.rest l.at l.value

abbrev pub decreases-loop-at : goal.decreases-loop-at
decreases-loop-at l = length l.rest - l.at
