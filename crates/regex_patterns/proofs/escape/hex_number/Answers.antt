use Rattle.std.proofs.Common.{arith}
use Rattle.swc_lexical.proofs.Escapes.{HexTo_end, HexTo_more, HexTo_over}
use Rattle.regex_patterns.proofs.escape.hex_number.Goals as goal

pub returns-in-None-clause-value : goal.returns-in-None-clause-value
returns-in-None-clause-value c = HexTo_end _ _ _ _ c.loop-at.invariant c.hex_at.ensures.value c.in-None.is

pub loop-at-preserved : goal.loop-at-preserved
loop-at-preserved c =
    HexTo_more _ _ _ _ _ _ c.loop-at.invariant c.hex_at.ensures.value c.in-Some.is c.capped-value.ensures.value
    c.capped-value.ensures.small c.loop-at-test.true

pub returns-clause-value : goal.returns-clause-value
returns-clause-value c = HexTo_over _ _ _ c.loop-at.invariant (omega (arith, c.loop-at-test.false))
