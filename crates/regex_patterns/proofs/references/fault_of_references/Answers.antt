use Rattle.std.proofs.Common.{sym, ap, ◌∙◌}
use Rattle.std.specs.String.{string_bytes}
use Rattle.std.specs.HashSet.{contains_text}
use Rattle.regex_patterns.specs.Conditions.{contains, group_names}
use Rattle.regex_patterns.proofs.Counts.{known_on, known_off, known_other}
use Rattle.regex_patterns.proofs.references.fault_of_references.Goals as goal
use Rattle.regex_patterns.proofs.references.fault_of_references.Goals.{then-is_reference+in_ok-name+else-not-contains, else-is_reference}

pub returns-then-not-contains : goal.returns-then-not-contains
returns-then-not-contains c =
    let us = c.args.units.now in let ps = c.args.pieces.now in let ns = group_names us ps in
    let off = sym c.loop-number.invariant
    ∙ known_off us ns ps c.loop-number.number _ c.loop-number-test.true (sym c.if-is_reference.ensures)
    (ap (contains ns) (sym c.in_ok-name.ensures) ∙ sym (c.in_ok-names.ensures (string_bytes c.in_ok-name.name))
    ∙ ap (contains_text c.in_ok-names.names) (sym c.as_str.ensures.value) ∙ sym c.if-not-contains.ensures) in
    ((λ e. let bad : ⊥ = cc in absurd bad), λ e. let bad : ⊥ = (let k = sym off ∙ e in cc) in absurd bad)

pub loop-number-preserved : goal.loop-number-preserved
loop-number-preserved c =
    let us = c.args.units.now in let ps = c.args.pieces.now in let ns = group_names us ps in
    (elim c.if-is_reference.branch [
      | then-is_reference+in_ok-name+else-not-contains w ↦
          known_on us ns ps c.loop-number.number _ c.loop-number-test.true (sym w.if-is_reference.ensures)
          (ap (contains ns) (sym w.in_ok-name.ensures) ∙ sym (c.in_ok-names.ensures (string_bytes w.in_ok-name.name))
          ∙ ap (contains_text c.in_ok-names.names) (sym w.as_str.ensures.value) ∙ sym w.if-not-contains.ensures)
      | else-is_reference w ↦ known_other us ns ps c.loop-number.number _ c.loop-number-test.true (sym w.if-is_reference.ensures)
    ])
    ∙ c.loop-number.invariant
