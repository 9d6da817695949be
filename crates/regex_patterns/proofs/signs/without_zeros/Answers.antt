use Rattle.std.proofs.Common.{arith, sym, ◌∙◌}
use Rattle.swc_lexical.proofs.Runs.{rest_at-drop}
use Rattle.regex_patterns.proofs.Walks.{zeros_on, zeros_off, zeros_over}
use Rattle.regex_patterns.proofs.signs.without_zeros.Goals as goal

pub returns-then-digits-at-ne48 : goal.returns-then-digits-at-ne48
returns-then-digits-at-ne48 c =
    rest_at-drop c.args.digits.now c.loop-at.at
    ∙ sym (zeros_off c.args.digits.now c.loop-at.at c.loop-at-test.true c.if-digits-at-ne48.true)
    ∙ c.loop-at.invariant.same

pub loop-at-preserved : goal.loop-at-preserved
loop-at-preserved c = record {
  within = omega (arith, c.loop-at-test.true);
  same = sym (zeros_on c.args.digits.now c.loop-at.at c.loop-at-test.true c.if-digits-at-ne48.false) ∙ c.loop-at.invariant.same;
}

pub returns : goal.returns
returns c =
    rest_at-drop c.args.digits.now c.loop-at.at ∙ sym (zeros_over c.args.digits.now c.loop-at.at c.loop-at-test.false)
    ∙ c.loop-at.invariant.same
