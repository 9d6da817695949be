use Rattle.swc_lexer.proofs.Gathering.{ReadsTo_more, ReadsTo_end, ReadsTo_over}
use Rattle.swc_lexer.proofs.comments.push_comments.Goals as goal

pub loop-at-preserved : goal.loop-at-preserved
loop-at-preserved c =
    ReadsTo_more _ _ _ _ _ _ _ _ c.loop-at.invariant c.rest_from-rest.ensures c.blank_len-len.ensures.value
    c.if-len-eq0.false c.blank_len-len.ensures.within
    c.in_ok-push_here.ensures

pub returns-then-len-eq0 : goal.returns-then-len-eq0
returns-then-len-eq0 c = ReadsTo_end _ _ _ _ _ _ _ c.loop-at.invariant c.rest_from-rest.ensures
    c.blank_len-len.ensures.value c.if-len-eq0.true

pub returns : goal.returns
returns c = ReadsTo_over _ _ _ _ _ c.loop-at.invariant c.loop-at-test.false
