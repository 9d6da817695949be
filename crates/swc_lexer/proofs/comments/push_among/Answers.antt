use Rattle.swc_lexer.proofs.Gathering.{GoesTo_more, GoesTo_over}
use Rattle.swc_lexer.proofs.comments.push_among.Goals as goal

pub loop-token-preserved : goal.loop-token-preserved
loop-token-preserved c =
    GoesTo_more _ _ _ _ _ c.token-item.result _ _ _ c.loop-token.invariant c.loop-token-test.true c.token-item.is
    c.in_ok-push_between.ensures

pub returns : goal.returns
returns c = GoesTo_over _ _ _ _ _ _ _ _ c.loop-token.invariant c.loop-token-test.false c.in_ok-push_between-2.ensures
