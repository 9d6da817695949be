use Rattle.swc_lexer.proofs.Stacks.{BracelessTo_more, BracelessTo_end, BracelessTo_none, BracelessTo_over}
use Rattle.swc_lexer.proofs.stack.has_brace.Goals as goal

pub loop-depth-preserved : goal.loop-depth-preserved
loop-depth-preserved c =
    BracelessTo_more _ _ _ _ _ c.loop-depth.invariant c.loop-depth-test.true c.frame_at.ensures c.in-Some.is
    c.is_brace-found.ensures c.if-found.false

pub returns-in-None : goal.returns-in-None
returns-in-None c = BracelessTo_none _ _ _ c.loop-depth.invariant c.frame_at.ensures c.in-None.is

pub returns-then-found : goal.returns-then-found
returns-then-found c =
    BracelessTo_end _ _ _ _ _ c.loop-depth.invariant c.loop-depth-test.true c.frame_at.ensures c.in-Some.is
    c.is_brace-found.ensures c.if-found.true

pub returns : goal.returns
returns c = BracelessTo_over _ _ c.loop-depth.invariant c.loop-depth-test.false
