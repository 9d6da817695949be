use Rattle.std.proofs.Common.{◌≡◌, ◌-◌, length, drop}
use Rattle.std.specs.List.{list_all}
use Rattle.regex_patterns.specs.Conditions.{fits, count}
use Rattle.regex_patterns.proofs.references.fault_of_numbers.Given as goal

abbrev pub invariant-loop-number : goal.invariant-loop-number
invariant-loop-number l = list_all (λ x. fits (count l.pieces) x.piece) (drop l.number l.pieces) ≡ list_all (λ x. fits (count l.pieces) x.piece) l.pieces

abbrev pub decreases-loop-number : goal.decreases-loop-number
decreases-loop-number l = length l.pieces - l.number
