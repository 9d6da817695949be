use Rattle.std.proofs.Common.{◌≡◌, ◌+◌, ap, sym, ◌∙◌, refl, drop, Some}
use Rattle.early_errors.specs.Strictness as strictness
use Rattle.early_errors.proofs.Directives.{begins, ends, said}
use Rattle.early_errors.proofs.strictness.use_strict.Goals as goal

pub returns-in_err-place : goal.returns-in_err-place
returns-in_err-place c =
    let text = c.args.text.now in let p = c.args.program.now in let xs = c.args.statements.now in
    c.from_residual.ensures
    ∙ ap (λ o. strictness.after_directive text o (strictness.use_strict text p (drop (c.loop-at.at + 1) xs))) c.in_err-place.ensures
    ∙ sym (begins text p xs c.loop-at.at _ c.loop-at-test.true) ∙ c.loop-at.invariant

pub returns-then-says_use_strict : goal.returns-then-says_use_strict
returns-then-says_use_strict c =
    let text = c.args.text.now in let p = c.args.program.now in let xs = c.args.statements.now in
    let rest = strictness.use_strict text p (drop (c.loop-at.at + 1) xs) in
    sym (said text c.in_ok-place.place rest _ _ (sym c.if-says_use_strict.ensures) refl)
    ∙ ap (λ o. strictness.after_directive text o rest) c.in_ok-place.ensures
    ∙ sym (begins text p xs c.loop-at.at _ c.loop-at-test.true) ∙ c.loop-at.invariant

pub loop-at-preserved : goal.loop-at-preserved
loop-at-preserved c =
    let text = c.args.text.now in let p = c.args.program.now in let xs = c.args.statements.now in
    let rest = strictness.use_strict text p (drop (c.loop-at.at + 1) xs) in
    sym (said text c.in_ok-place.place rest _ _ (sym c.if-says_use_strict.ensures) refl)
    ∙ ap (λ o. strictness.after_directive text o rest) c.in_ok-place.ensures
    ∙ sym (begins text p xs c.loop-at.at _ c.loop-at-test.true) ∙ c.loop-at.invariant

pub returns : goal.returns
returns c = sym (ends c.args.text.now c.args.program.now c.args.statements.now c.loop-at.at c.loop-at-test.false) ∙ c.loop-at.invariant
