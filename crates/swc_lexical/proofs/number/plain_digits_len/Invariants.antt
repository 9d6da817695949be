use Rattle.std.proofs.Common.{◌-◌, length}
use Rattle.swc_lexical.specs.{Numbers.plain_digit_len, Runs.RunsTo}
use Rattle.swc_lexical.proofs.number.plain_digits_len.Given as goal

abbrev pub invariant-loop-at : goal.invariant-loop-at
invariant-loop-at l = RunsTo (plain_digit_len l.base) l.rest l.at

abbrev pub decreases-loop-at : goal.decreases-loop-at
decreases-loop-at l = length l.rest - l.at
