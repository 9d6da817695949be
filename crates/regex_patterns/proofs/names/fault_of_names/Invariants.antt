use Rattle.std.proofs.Common.{◌≡◌, ◌-◌, length, drop, reverse}
use Rattle.std.specs.HashMap.{get_by_text}
use Rattle.regex_patterns.specs.Conditions.{apart_from, are_apart}
use Rattle.regex_patterns.proofs.names.fault_of_names.Given as goal

abbrev pub invariant-loop-number : goal.invariant-loop-number
invariant-loop-number l = apart_from l.units (reverse l.frames.items) (get_by_text l.last) l.number (drop l.number l.pieces) ≡ are_apart l.units l.pieces

abbrev pub decreases-loop-number : goal.decreases-loop-number
decreases-loop-number l = length l.pieces - l.number
