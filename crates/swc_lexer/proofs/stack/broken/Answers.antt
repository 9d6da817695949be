use Rattle.swc_lexer.proofs.Stacks.{broken_not, broken_changed, broken_closed}
use Rattle.swc_lexer.proofs.stack.broken.Goals as goal

pub returns-in-Nothing-clause-state : goal.returns-in-Nothing-clause-state
returns-in-Nothing-clause-state c =
    broken_not c.args.frames.now c.args.mark c.args.place c.all_of-all.result.place c.all_of-all.result.depth _ _ _
    c.top_of_all-top.ensures c.below-under.ensures
    c.at_break.ensures c.in-Nothing.is c.all_of-all.ensures.state

pub returns-in-Changes-clause-state : goal.returns-in-Changes-clause-state
returns-in-Changes-clause-state c =
    broken_changed c.args.frames.now c.args.mark c.args.place c.all_of-all.result.place c.counted.result.place
    c.all_of-all.result.depth c.counted.result.depth _ _ _ _
    c.top_of_all-top.ensures c.below-under.ensures c.at_break.ensures c.in-Changes.is c.all_of-all.ensures.state
    c.counted.ensures.depth c.counted.ensures.place

pub returns-in-Closes-clause-state : goal.returns-in-Closes-clause-state
returns-in-Closes-clause-state c =
    broken_closed c.args.frames.now c.args.mark _ c.args.place c.all_of-all.result.place c.closed-part.result.place
    c.counted-in-Closes.result.place
    c.all_of-all.result.depth c.closed-part.result.depth c.counted-in-Closes.result.depth _ _ _ _
    c.top_of_all-top.ensures c.below-under.ensures c.at_break.ensures
    c.in-Closes.is c.all_of-all.ensures.state c.closed-part.ensures.state c.counted-in-Closes.ensures.depth
    c.counted-in-Closes.ensures.place
