use Rattle.std.proofs.Common.{◌+◌, ap, sym, ◌∙◌, drop}
use Rattle.std.specs.Prelude.{◌||◌}
use Rattle.std.specs.String.{string_bytes}
use Rattle.std.specs.HashSet.{contains_text}
use Rattle.std.specs.Str.{bytes_eq}
use Rattle.regex_patterns.specs.Conditions.{contains, group_names}
use Rattle.regex_patterns.proofs.Bytes.{bytes-sym, or-none}
use Rattle.regex_patterns.proofs.Counts.{names_on, names_off, names_over, or-shift}
use Rattle.regex_patterns.proofs.references.names_of.Goals as goal
use Rattle.regex_patterns.proofs.references.names_of.Goals.{then-is_named+in_ok-name+in_ok-add_name, else-is_named}

pub loop-number-preserved : goal.loop-number-preserved
loop-number-preserved c = λ q.
    let us = c.args.units.now in let i = c.loop-number.number in let ps = c.args.pieces.now in
    let later = contains (group_names us (drop (i + 1) ps)) q in
    (elim c.if-is_named.branch [
      | then-is_named+in_ok-name+in_ok-add_name w ↦
          ap (λ s. contains_text s q || later) w.names-is
          ∙ ap (λ b. b || later) (w.in_ok-add_name.ensures q)
          ∙ or-shift (bytes_eq (string_bytes w.in_ok-name.name) q) (contains_text c.loop-number.names q) later
          ∙ ap (λ b. contains_text c.loop-number.names q || (b || later)) (bytes-sym (string_bytes w.in_ok-name.name) q
          ∙ ap (bytes_eq q) w.in_ok-name.ensures)
          ∙ ap (λ ns. contains_text c.loop-number.names q || contains ns q) (sym (names_on ps i _ us c.loop-number-test.true (sym w.if-is_named.ensures)))
      | else-is_named w ↦
          ap (λ s. contains_text s q || later) w.names-is
          ∙ ap (λ ns. contains_text c.loop-number.names q || contains ns q) (sym (names_off ps i _ us c.loop-number-test.true (sym w.if-is_named.ensures)))
    ])
    ∙ c.loop-number.invariant q

pub returns : goal.returns
returns c = λ q.
    sym (ap (λ ns. contains_text c.loop-number.names q || contains ns q) (names_over c.args.units.now c.args.pieces.now c.loop-number.number c.loop-number-test.false)
    ∙ or-none (contains_text c.loop-number.names q))
    ∙ c.loop-number.invariant q
