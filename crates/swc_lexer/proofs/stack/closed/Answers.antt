use Rattle.swc_lexer.proofs.Stacks.{ClosedTo_begin, ClosedTo_more, ClosedTo_end, ClosedTo_none, ClosedTo_over}
use Rattle.swc_lexer.proofs.stack.closed.Goals as goal

pub loop-depth-init : goal.loop-depth-init
loop-depth-init c = ClosedTo_begin _ _ _ _ c.requires

pub loop-depth-preserved : goal.loop-depth-preserved
loop-depth-preserved c =
    ClosedTo_more _ _ _ _ _ _ _ _ _ c.loop-depth.invariant c.loop-depth-test.true c.frame_at.ensures c.in-Some.is
    c.keeps-kept.ensures c.if-kept.false

pub returns-in-None-clause-state : goal.returns-in-None-clause-state
returns-in-None-clause-state c = ClosedTo_none _ _ _ _ _ _ _ c.loop-depth.invariant c.frame_at.ensures c.in-None.is

pub returns-then-kept-clause-state : goal.returns-then-kept-clause-state
returns-then-kept-clause-state c =
    ClosedTo_end _ _ _ _ _ _ _ _ _ c.loop-depth.invariant c.loop-depth-test.true c.frame_at.ensures c.in-Some.is
    c.keeps-kept.ensures c.if-kept.true

pub returns-clause-state : goal.returns-clause-state
returns-clause-state c = ClosedTo_over _ _ _ _ _ _ c.loop-depth.invariant c.loop-depth-test.false
