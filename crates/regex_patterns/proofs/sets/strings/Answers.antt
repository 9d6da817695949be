use Rattle.std.proofs.Common.{◌≤◌, ◌+◌, ap, sym, subst, ◌∙◌, Some, length, drop, arith, length-drop}
use Rattle.regex_patterns.specs.Sets.{strings_from, element}
use Rattle.regex_patterns.proofs.Strings.{string_end, string_next, string_on, string_none, string_class, string_over}
use Rattle.regex_patterns.proofs.Shifts.{shifted}
use Rattle.regex_patterns.proofs.sets.strings.Goals as goal

pub returns-then-rest-at-eq125-clause-value : goal.returns-then-rest-at-eq125-clause-value
returns-then-rest-at-eq125-clause-value c =
    ap (λ b. Some (b, c.loop-at.at + 1)) c.or_other.ensures
    ∙ sym (ap (shifted c.loop-at.at) (string_end c.args.mode c.loop-at.count c.loop-at.others c.args.rest.now c.loop-at.at
    c.loop-at-test.true c.if-rest-at-eq125.true))
    ∙ c.loop-at.invariant.left

pub loop-at-preserved-then-rest-at-eq124 : goal.loop-at-preserved-then-rest-at-eq124
loop-at-preserved-then-rest-at-eq124 c = record {
  few = omega arith;
  within = omega (arith, c.loop-at-test.true);
  left = ap (λ b. shifted (c.loop-at.at + 1) (strings_from c.args.mode 0 b 0 (drop (c.loop-at.at + 1) c.args.rest.now))) c.or_other-others.ensures
      ∙ string_next c.args.mode c.loop-at.count c.loop-at.others c.args.rest.now c.loop-at.at c.loop-at-test.true
      c.if-rest-at-eq124.true
      ∙ c.loop-at.invariant.left;
}

pub loop-at-preserved : goal.loop-at-preserved
loop-at-preserved c =
    let v = c.in-Some in
    let xs = c.args.rest.now in
    let some = v.ensures.within.0 in
    let within : v.len ≤ length (drop c.loop-at.at xs) = subst (λ ys. v.len ≤ length ys) c.tail.ensures v.ensures.within.1 in
    record {
      few = (let few = c.loop-at.invariant.few in omega (arith, few, some));
      within = (let long = length-drop c.loop-at.at xs in omega (arith, within, long, some, c.loop-at-test.true));
      left = string_on c.args.mode c.loop-at.count c.loop-at.others xs c.loop-at.at v.len v.meaning c.loop-at-test.true
          c.if-rest-at-eq125.false c.if-rest-at-eq124.false (sym (v.ensures.value ∙ ap (element c.args.mode) c.tail.ensures))
          (sym c.if-not-is_character.ensures) some within
          ∙ c.loop-at.invariant.left;
    }

pub returns-then-not-is_character-clause-value : goal.returns-then-not-is_character-clause-value
returns-then-not-is_character-clause-value c =
    sym (ap (shifted c.loop-at.at) (string_class c.args.mode c.loop-at.count c.loop-at.others c.args.rest.now c.loop-at.at
    c.in-Some.meaning c.in-Some.len c.loop-at-test.true c.if-rest-at-eq125.false c.if-rest-at-eq124.false
    (sym (c.in-Some.ensures.value ∙ ap (element c.args.mode) c.tail.ensures)) (sym c.if-not-is_character.ensures)))
    ∙ c.loop-at.invariant.left

pub returns-in-None-clause-value : goal.returns-in-None-clause-value
returns-in-None-clause-value c =
    sym (ap (shifted c.loop-at.at) (string_none c.args.mode c.loop-at.count c.loop-at.others c.args.rest.now c.loop-at.at
    c.loop-at-test.true c.if-rest-at-eq125.false c.if-rest-at-eq124.false
    (sym (c.in-None.ensures.value ∙ ap (element c.args.mode) c.tail.ensures))))
    ∙ c.loop-at.invariant.left

pub returns-clause-value : goal.returns-clause-value
returns-clause-value c =
    sym (ap (shifted c.loop-at.at) (string_over c.args.mode c.loop-at.count c.loop-at.others c.args.rest.now c.loop-at.at
    c.loop-at-test.false))
    ∙ c.loop-at.invariant.left
