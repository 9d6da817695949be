use Rattle.swc_lexer.proofs.Stacks.{PassedTo_more, PassedTo_end, PassedTo_none, PassedTo_over}
use Rattle.swc_lexer.proofs.stack.below.Goals as goal

pub loop-depth-preserved : goal.loop-depth-preserved
loop-depth-preserved c =
    PassedTo_more _ _ _ _ _ c.loop-depth.invariant c.loop-depth-test.true c.frame_at.ensures c.in-Some.is
    c.lasts-found.ensures c.if-found.false

pub returns-in-None : goal.returns-in-None
returns-in-None c = PassedTo_none _ _ _ c.loop-depth.invariant c.frame_at.ensures c.in-None.is

pub returns-then-found : goal.returns-then-found
returns-then-found c =
    PassedTo_end _ _ _ _ _ c.loop-depth.invariant c.loop-depth-test.true c.frame_at.ensures c.in-Some.is
    c.lasts-found.ensures c.if-found.true

pub returns : goal.returns
returns c = PassedTo_over _ _ c.loop-depth.invariant c.loop-depth-test.false
