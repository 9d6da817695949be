use Rattle.std.proofs.Common.{arith, ap, ◌≡◌, ◌∙◌}
use Rattle.swc_lexer.specs.Lines.{point_of}
use Rattle.swc_lexer.proofs.Counting.{point_more, lines_most, units_most}
use Rattle.swc_lexer.proofs.lines.advance.Goals as goal

pub loop-at-preserved : goal.loop-at-preserved
loop-at-preserved c = record {
  is = point_more _ _ _ _ c.loop-at.invariant.is c.step-point.ensures;
  below =
      omega arith;
}

pub returns-clause-value : goal.returns-clause-value
returns-clause-value c =
    let over : c.loop-at.at ≡ c.args.to = (let b = c.loop-at.invariant.below in
    omega (arith, b, c.loop-at-test.false)) in
    c.loop-at.invariant.is ∙ ap (point_of c.args.text.now) over

pub returns-clause-small : goal.returns-clause-small
returns-clause-small c =
    let b = c.loop-at.invariant.below in let m = lines_most _ _ _ c.loop-at.invariant.is in omega (arith, b, m)

pub returns-clause-units : goal.returns-clause-units
returns-clause-units c =
    let b = c.loop-at.invariant.below in let m = units_most _ _ _ c.loop-at.invariant.is in omega (arith, b, m)
