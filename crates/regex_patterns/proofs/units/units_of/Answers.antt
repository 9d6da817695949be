use Rattle.std.proofs.Common.{◌++◌, sym, ap, ◌∙◌, chars, append_assoc, append-nil}
use Rattle.std.specs.Str.Iter.{chars_rest}
use Rattle.std.proofs.lemmas.Str.{IsUtf8-past_char, chars_past_char, chars-nil}
use Rattle.std.proofs.lemmas.List.{nil_from_length}
use Rattle.regex_patterns.specs.Units.{units, unit_of}
use Rattle.regex_patterns.proofs.Shifts.{units_more, units_none}
use Rattle.regex_patterns.proofs.units.units_of.Goals as goal

pub loop-ch-preserved : goal.loop-ch-preserved
loop-ch-preserved c =
    let held = c.loop-ch.invariant in
    let parts = c.in-Some.ensures.steps.0 in
    let b = c.args.are_characters in (
      IsUtf8-past_char _ _ c.in-Some.ch held.0 parts,
      ap (λ us. us ++ units b (chars (chars_rest c.next.new.self))) c.in_ok-push_units.ensures
          ∙ append_assoc c.loop-ch.units.items (unit_of b c.in-Some.ch) (units b (chars (chars_rest c.next.new.self)))
          ∙ sym (ap (λ us. c.loop-ch.units.items ++ us) (ap (units b) (chars_past_char _ _ c.in-Some.ch held.0 parts)
          ∙ units_more b c.in-Some.ch (chars (chars_rest c.next.new.self))))
          ∙ held.1,
    )

pub returns : goal.returns
returns c =
    let b = c.args.are_characters in
    sym (ap (λ us. c.loop-ch.units.items ++ us) (ap (λ bs. units b (chars bs)) (nil_from_length _ c.in_default.ensures.steps.0.0)
    ∙ ap (units b) chars-nil ∙ units_none b)
    ∙ append-nil c.loop-ch.units.items)
    ∙ c.loop-ch.invariant.1
