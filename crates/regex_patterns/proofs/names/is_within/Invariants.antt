use Rattle.std.proofs.Common.{◌≡◌, ◌≤◌, length, take, reverse}
use Rattle.regex_patterns.specs.Conditions.{is_within}
use Rattle.regex_patterns.proofs.names.is_within.Given as goal

abbrev pub invariant-loop-left : goal.invariant-loop-left
invariant-loop-left l = record {
  within : l.left ≤ length l.frames;
  same : is_within (reverse (take l.left l.frames)) l.number ≡ is_within (reverse l.frames) l.number;
}

abbrev pub decreases-loop-left : goal.decreases-loop-left
decreases-loop-left l = l.left
