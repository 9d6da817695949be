use Rattle.std.proofs.Common.{◌-◌, length}
use Rattle.swc_lexical.specs.Runs.{RunsTo}
use Rattle.regex_patterns.specs.Names.{more_len}
use Rattle.regex_patterns.proofs.name.more_run.Given as goal

abbrev pub invariant-loop-at : goal.invariant-loop-at
invariant-loop-at l = RunsTo more_len l.rest l.at

abbrev pub decreases-loop-at : goal.decreases-loop-at
decreases-loop-at l = length l.rest - l.at
