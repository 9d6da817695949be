use Rattle.std.proofs.Common.{◌≡◌, ap, sym, subst, ◌∙◌, ◌≤◌, length, drop, Some, arith, length-drop}
use Rattle.regex_patterns.specs.Classes.{longer_by, range}
use Rattle.regex_patterns.proofs.Lengths.{range_on, range_end, range_none, range_over}
use Rattle.regex_patterns.proofs.class.ranges.Goals as goal

pub returns-then-rest-at-eq93-clause-value : goal.returns-then-rest-at-eq93-clause-value
returns-then-rest-at-eq93-clause-value c =
    sym (ap (longer_by c.loop-at.at) (range_end c.args.mode c.args.rest.now c.loop-at.at c.loop-at-test.true c.if-rest-at-eq93.true))
    ∙ c.loop-at.invariant.left

pub loop-at-preserved : goal.loop-at-preserved
loop-at-preserved c =
    let here : range c.args.mode (drop c.loop-at.at c.args.rest.now) ≡ Some c.in-Ok.len =
    sym (c.in-Ok.ensures.value ∙ ap (range c.args.mode) c.tail.ensures) in
    let within : c.in-Ok.len ≤ length (drop c.loop-at.at c.args.rest.now) =
    subst (λ xs. c.in-Ok.len ≤ length xs) c.tail.ensures c.in-Ok.ensures.within.1 in
    record {
      within = (let long = length-drop c.loop-at.at c.args.rest.now in let some = c.in-Ok.ensures.within.0 in
          omega (arith, within, long, some, c.loop-at-test.true));
      left = range_on c.args.mode c.args.rest.now c.loop-at.at c.in-Ok.len c.loop-at-test.true c.if-rest-at-eq93.false here
          c.in-Ok.ensures.within.0 within
          ∙ c.loop-at.invariant.left;
    }

pub returns-in-Err-clause-value : goal.returns-in-Err-clause-value
returns-in-Err-clause-value c =
    sym (ap (longer_by c.loop-at.at) (range_none c.args.mode c.args.rest.now c.loop-at.at c.loop-at-test.true
    c.if-rest-at-eq93.false (sym (c.in-Err.ensures.value ∙ ap (range c.args.mode) c.tail.ensures))))
    ∙ c.loop-at.invariant.left

pub returns-clause-value : goal.returns-clause-value
returns-clause-value c =
    sym (ap (longer_by c.loop-at.at) (range_over c.args.mode c.args.rest.now c.loop-at.at c.loop-at-test.false))
    ∙ c.loop-at.invariant.left
