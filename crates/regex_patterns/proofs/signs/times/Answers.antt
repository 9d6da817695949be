use Rattle.std.proofs.Common.{arith, sym, ◌∙◌}
use Rattle.regex_patterns.proofs.Walks.{times_on, times_off, times_over}
use Rattle.regex_patterns.proofs.signs.times.Goals as goal
use Rattle.regex_patterns.proofs.signs.times.Goals.{then-units-at, else-units-at}

pub loop-at-preserved : goal.loop-at-preserved
loop-at-preserved c = elim c.if-units-at.branch [
  | then-units-at w ↦ (let few = c.loop-at.invariant.few in let sum = c.loop-at.invariant.sum in let is = w.count-is in
      let one = times_on c.args.units.now c.loop-at.at c.args.sign c.loop-at-test.true (w.if-units-at.true ∙ c.from.ensures) in
      record { few = omega (arith, few, is); within = omega (arith, c.loop-at-test.true); sum = omega (arith, sum, one, is) })
  | else-units-at w ↦ (let few = c.loop-at.invariant.few in let sum = c.loop-at.invariant.sum in let is = w.count-is in
      let one = times_off c.args.units.now c.loop-at.at c.args.sign c.loop-at-test.true (λ e. w.if-units-at.false (e ∙ sym c.from.ensures)) in
      record { few = omega (arith, few, is); within = omega (arith, c.loop-at-test.true); sum = omega (arith, sum, one, is) })
]

pub returns-clause-value : goal.returns-clause-value
returns-clause-value c =
    let sum = c.loop-at.invariant.sum in
    let none = times_over c.args.units.now c.loop-at.at c.args.sign c.loop-at-test.false in omega (arith, sum, none)
