use Rattle.std.proofs.Common.{arith}
use Rattle.swc_lexical.proofs.Runs.{RunsTo_more, RunsTo_end, RunsTo_over}
use Rattle.regex_patterns.proofs.name.more_run.Goals as goal

pub returns-then-len-eq0-clause-value : goal.returns-then-len-eq0-clause-value
returns-then-len-eq0-clause-value c = RunsTo_end _ _ _ _ c.loop-at.invariant c.more_len-len.ensures.value
    c.if-len-eq0.true

pub loop-at-preserved : goal.loop-at-preserved
loop-at-preserved c = RunsTo_more _ _ _ _ c.loop-at.invariant c.more_len-len.ensures.value c.if-len-eq0.false
    c.more_len-len.ensures.within

pub returns-clause-value : goal.returns-clause-value
returns-clause-value c = RunsTo_over _ _ _ c.loop-at.invariant (omega (arith, c.loop-at-test.false))
