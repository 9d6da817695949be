use Rattle.std.proofs.Common.{sym, subst, ◌∙◌, reverse, refl}
use Rattle.std.proofs.lemmas.Bool.{eqb-true, eqb-false}
use Rattle.std.specs.Prelude.{vec_len}
use Rattle.regex_patterns.specs.Groups.{Steps}
use Rattle.regex_patterns.proofs.Accepting.{steps_on, steps_off, steps_over}
use Rattle.regex_patterns.proofs.Stacks.{all_closed, still_open}
use Rattle.regex_patterns.proofs.groups.whole_of.Goals as goal

pub returns-in-None : goal.returns-in-None
returns-in-None c =
    let off = sym c.loop-number.invariant
    ∙ steps_off c.args.mode (reverse c.loop-number.open.items) c.loop-number.last c.args.pieces.now c.loop-number.number _ c.loop-number-test.true
    (subst (Steps c.args.mode (reverse c.loop-number.open.items) c.loop-number.last _ (reverse c.step.new.open.items)) c.in-None.is c.in_ok-next.ensures) in
    ((λ e. let bad : ⊥ = cc in absurd bad), λ e. let bad : ⊥ = cc in absurd bad)

pub loop-number-preserved : goal.loop-number-preserved
loop-number-preserved c =
    steps_on c.args.mode (reverse c.loop-number.open.items) c.loop-number.last c.args.pieces.now c.loop-number.number _
    (reverse c.step.new.open.items) c.in-Some.next c.loop-number-test.true
    (subst (Steps c.args.mode (reverse c.loop-number.open.items) c.loop-number.last _ (reverse c.step.new.open.items)) c.in-Some.is c.in_ok-next.ensures)
    ∙ c.loop-number.invariant

pub returns-then-is_empty : goal.returns-then-is_empty
returns-then-is_empty c =
    let over = steps_over c.args.mode (reverse c.loop-number.open.items) c.loop-number.last c.args.pieces.now c.loop-number.number c.loop-number-test.false in (
      (λ e. sym c.loop-number.invariant ∙ over ∙ all_closed c.loop-number.open (eqb-true (vec_len c.loop-number.open) 0 (sym c.is_empty.ensures ∙ c.if-is_empty.true))),
      λ e. refl,
    )

pub returns : goal.returns
returns c =
    let over = steps_over c.args.mode (reverse c.loop-number.open.items) c.loop-number.last c.args.pieces.now c.loop-number.number c.loop-number-test.false in
    let off = sym c.loop-number.invariant ∙ over
    ∙ still_open c.loop-number.open (eqb-false (vec_len c.loop-number.open) 0 (sym c.is_empty.ensures ∙ c.if-is_empty.false)) in
    ((λ e. let bad : ⊥ = cc in absurd bad), λ e. let bad : ⊥ = cc in absurd bad)
