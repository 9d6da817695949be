use Rattle.std.proofs.Common.{arith, sym}
use Rattle.regex_patterns.specs.Signs.{has}
use Rattle.regex_patterns.proofs.Walks.{while_on, while_off, while_over}
use Rattle.regex_patterns.proofs.signs.Run.len.Goals as goal

pub returns-then-not-has-clause-value : goal.returns-then-not-has-clause-value
returns-then-not-has-clause-value c =
    let sum = c.loop-at.invariant.sum in
    let none = while_off c.args.rest.now c.loop-at.at (has c.args.self) c.loop-at-test.true (sym c.if-not-has.ensures) in
    omega (arith, sum, none)

pub loop-at-preserved : goal.loop-at-preserved
loop-at-preserved c = record {
  within = omega (arith, c.loop-at-test.true);
  sum = (let sum = c.loop-at.invariant.sum in
      let one = while_on c.args.rest.now c.loop-at.at (has c.args.self) c.loop-at-test.true (sym c.if-not-has.ensures) in
      omega (arith, sum, one));
}

pub returns-clause-value : goal.returns-clause-value
returns-clause-value c =
    let sum = c.loop-at.invariant.sum in
    let none = while_over c.args.rest.now c.loop-at.at (has c.args.self) c.loop-at-test.false in omega (arith, sum, none)
