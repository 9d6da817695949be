use Rattle.std.proofs.Common.{refl}
use Rattle.swc_lexer.proofs.Counting.{MarkedTo_begin, MarkedTo_more, MarkedTo_over}
use Rattle.swc_lexer.proofs.lines.marks_of.Goals as goal

pub loop-at-preserved : goal.loop-at-preserved
loop-at-preserved c = MarkedTo_more _ _ _ _ _ _ c.loop-at.invariant c.in_ok-push.ensures.items c.loop-at-test.true
    c.advance-point.ensures.value

pub returns : goal.returns
returns c = MarkedTo_over _ _ _ _ _ c.loop-at.invariant c.in_ok-push-2.ensures.items c.loop-at-test.false

pub loop-at-init : goal.loop-at-init
loop-at-init c = MarkedTo_begin _ _ _ c.new-marks.ensures.items refl
