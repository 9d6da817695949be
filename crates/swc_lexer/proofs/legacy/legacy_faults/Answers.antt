use Rattle.swc_lexer.proofs.Faults.{FaultsTo_more, FaultsTo_over}
use Rattle.swc_lexer.proofs.legacy.legacy_faults.Goals as goal

pub loop-token-preserved : goal.loop-token-preserved
loop-token-preserved c = FaultsTo_more _ _ c.token-item.result _ _ c.loop-token.invariant c.loop-token-test.true
    c.token-item.is c.in_ok-push_fault.ensures

pub returns : goal.returns
returns c = FaultsTo_over _ _ _ c.loop-token.invariant c.loop-token-test.false
