use Rattle.std.proofs.Common.{◌≡◌, ◌≤◌, ◌+◌, ◌-◌, length, drop}
use Rattle.regex_patterns.specs.Conditions.{count}
use Rattle.regex_patterns.proofs.references.count.Given as goal

abbrev pub invariant-loop-number : goal.invariant-loop-number
invariant-loop-number l = record {
  few : l.count ≤ l.number;
  within : l.number ≤ length l.pieces;
  sum : l.count + count (drop l.number l.pieces) ≡ count l.pieces;
}

abbrev pub decreases-loop-number : goal.decreases-loop-number
decreases-loop-number l = length l.pieces - l.number
