use Rattle.std.proofs.Common.{◌≤◌, ap, sym, subst, ◌∙◌, length, drop, arith, length-drop}
use Rattle.std.specs.String.{string_bytes}
use Rattle.regex_patterns.specs.Names.{character}
use Rattle.regex_patterns.proofs.Placing.{name_on, name_stop, name_over, goes_on, is_other, is_none}
use Rattle.regex_patterns.proofs.name.name.Goals as goal
use Rattle.regex_patterns.proofs.name.name.Goals.{in_default-via-in-Some+else-continues_name, in_default-via-in_default}

pub loop-at-preserved : goal.loop-at-preserved
loop-at-preserved c =
    let v = c.in-Some in let xs = c.args.rest.now in let at = c.loop-at.at in
    let some = v.ensures.within.0 in
    let within : v.len ≤ length (drop at xs) = subst (λ ys. v.len ≤ length ys) c.tail.ensures v.ensures.within.1 in
    record {
      within = (let long = length-drop at xs in omega (arith, within, long, some, c.loop-at-test.true));
      made = name_on xs at (string_bytes c.loop-at.name) (string_bytes c.push.new.self) v.len v.ch c.in_ok-push-in-Some.ensures.bytes
          (goes_on (drop at xs) v.ch v.len (sym (v.ensures.value ∙ ap character c.tail.ensures)) (sym c.if-continues_name.ensures))
          some within
          ∙ c.loop-at.invariant.made;
    }

pub returns-in_default : goal.returns-in_default
returns-in_default c = name_stop c.args.rest.now c.loop-at.at (string_bytes c.loop-at.name) c.loop-at-test.true
    (elim c.in_default.branch [
      | in_default-via-in-Some+else-continues_name w ↦ is_other (drop c.loop-at.at c.args.rest.now) w.in-Some.ch w.in-Some.len
          (sym (w.in-Some.ensures.value ∙ ap character c.tail.ensures)) (sym w.if-continues_name.ensures)
      | in_default-via-in_default w ↦ is_none (drop c.loop-at.at c.args.rest.now)
          (sym (c.character.ensures.value ∙ ap character c.tail.ensures) ∙ w.in_default.is)
    ])
    ∙ c.loop-at.invariant.made

pub returns : goal.returns
returns c = name_over c.args.rest.now c.loop-at.at (string_bytes c.loop-at.name) c.loop-at-test.false ∙ c.loop-at.invariant.made
