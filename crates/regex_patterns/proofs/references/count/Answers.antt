use Rattle.std.proofs.Common.{arith, sym, ◌∙◌}
use Rattle.regex_patterns.proofs.Counts.{count_on, count_off, count_over}
use Rattle.regex_patterns.proofs.references.count.Goals as goal
use Rattle.regex_patterns.proofs.references.count.Goals.{then-captures, else-captures}

pub loop-number-preserved : goal.loop-number-preserved
loop-number-preserved c = elim c.if-captures.branch [
  | then-captures w ↦ (let few = c.loop-number.invariant.few in let sum = c.loop-number.invariant.sum in let is = w.count-is in
      let more = count_on c.args.pieces.now c.loop-number.number _ c.loop-number-test.true (sym c.captures-2.ensures ∙ w.if-captures.true) in
      record { few = omega (arith, few, is); within = omega (arith, c.loop-number-test.true); sum = omega (arith, sum, more, is) })
  | else-captures w ↦ (let few = c.loop-number.invariant.few in let sum = c.loop-number.invariant.sum in let is = w.count-is in
      let same = count_off c.args.pieces.now c.loop-number.number _ c.loop-number-test.true (sym c.captures-2.ensures ∙ w.if-captures.false) in
      record { few = omega (arith, few, is); within = omega (arith, c.loop-number-test.true); sum = omega (arith, sum, same, is) })
]

pub returns : goal.returns
returns c =
    let sum = c.loop-number.invariant.sum in
    let none = count_over c.args.pieces.now c.loop-number.number c.loop-number-test.false in omega (arith, sum, none)
