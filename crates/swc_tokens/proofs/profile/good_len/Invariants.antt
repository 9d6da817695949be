use Rattle.std.proofs.Common.{◌-◌, length}
use Rattle.swc_lexical.specs.Runs.{RunsTo}
use Rattle.swc_tokens.specs.Profile.{piece_len}
use Rattle.swc_tokens.proofs.profile.good_len.Given as goal

abbrev pub invariant-loop-at : goal.invariant-loop-at
invariant-loop-at l = RunsTo piece_len l.rest l.at

abbrev pub decreases-loop-at : goal.decreases-loop-at
decreases-loop-at l = length l.rest - l.at
