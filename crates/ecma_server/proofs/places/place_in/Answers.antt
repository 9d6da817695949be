use Rattle.std.proofs.Common.{◌≡◌, suc, ◌+◌, ◌-◌, length, refl, sym, ap, ◌∙◌, arith}
use Rattle.ecma_server.specs.Places.{seek, passed}
use Rattle.ecma_server.proofs.Seeking.{seek-on, seek-here, seek-end}
use Rattle.ecma_server.proofs.places.place_in.Goals as goal

pub returns-then-stops : goal.returns-then-stops
returns-then-stops c =
    let u = c.args.units in let bs = c.args.bytes.now in let n = c.loop-at.at in
    let lt = c.loop-at-test.true in
    let left : length bs - n ≡ suc (length bs - (n + 1)) = omega (arith, lt) in
    sym (seek-here u bs (length bs - n) (length bs - (n + 1)) c.loop-at.left n left (sym c.stops.ensures ∙ c.if-stops.true))
    ∙ c.loop-at.invariant.seeks

pub loop-at-preserved : goal.loop-at-preserved
loop-at-preserved c =
    let u = c.args.units in let bs = c.args.bytes.now in let n = c.loop-at.at in
    let lt = c.loop-at-test.true in
    let left : length bs - n ≡ suc (length bs - (n + 1)) = omega (arith, lt) in
    let one : n + 1 ≡ suc n = omega arith in
    let k = length bs - (n + 1) in
    record {
      seeks = ap (λ p. seek u bs k p (n + 1)) c.passed-left.ensures
          ∙ ap (λ m. seek u bs k (passed u bs c.loop-at.left n) m) one
          ∙ sym (seek-on u bs (length bs - n) k c.loop-at.left n left (sym c.stops.ensures ∙ c.if-stops.false))
          ∙ c.loop-at.invariant.seeks;
      below = omega (arith, lt);
    }

pub returns : goal.returns
returns c =
    let u = c.args.units in let bs = c.args.bytes.now in let n = c.loop-at.at in
    let no = c.loop-at-test.false in let b = c.loop-at.invariant.below in
    let none : length bs - n ≡ 0 = omega (arith, no, b) in
    sym (seek-end u bs (length bs - n) c.loop-at.left n none) ∙ c.loop-at.invariant.seeks
