use Rattle.std.proofs.Common.{sym, ◌∙◌}
use Rattle.regex_patterns.proofs.Walks.{up_to_on, up_to_off, up_to_over}
use Rattle.regex_patterns.proofs.signs.is_up_to.Goals as goal

pub returns-then-first-at : goal.returns-then-first-at
returns-then-first-at c =
    sym (up_to_off c.args.first.now c.args.second.now c.loop-at.at c.requires c.loop-at-test.true c.if-first-at.true)
    ∙ c.loop-at.invariant

pub loop-at-preserved : goal.loop-at-preserved
loop-at-preserved c =
    sym (up_to_on c.args.first.now c.args.second.now c.loop-at.at c.requires c.loop-at-test.true c.if-first-at.false)
    ∙ c.loop-at.invariant

pub returns : goal.returns
returns c =
    sym (up_to_over c.args.first.now c.args.second.now c.loop-at.at c.requires c.loop-at-test.false) ∙ c.loop-at.invariant
