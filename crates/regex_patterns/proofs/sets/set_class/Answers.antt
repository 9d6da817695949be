use Rattle.std.proofs.Common.{◌≤◌, ◌+◌, ap, sym, subst, ◌∙◌, Some, ◌∷◌, length, reverse, drop, arith, length-drop}
use Rattle.regex_patterns.specs.Classes.{longer_by, opening}
use Rattle.regex_patterns.specs.Sets.{sets_from, part, begun, closed, ended}
use Rattle.regex_patterns.proofs.Nested.{part_on, part_none, opens, close_none, close_last, close_on, sets_over}
use Rattle.regex_patterns.proofs.Stacks.{pushed, after_pop}
use Rattle.regex_patterns.proofs.sets.set_class.Goals as goal

pub returns-in-Ok-None-clause-value : goal.returns-in-Ok-None-clause-value
returns-in-Ok-None-clause-value c =
    let p = after_pop c.loop-at.open c.pop.new.self c.pop.result c.pop.ensures.items c.pop.ensures.cases in
    sym (ap (longer_by c.loop-at.at) (close_last c.args.mode (reverse c.loop-at.open.items) c.loop-at.set c.args.rest.now c.loop-at.at
    c.loop-at-test.true c.if-rest-at-eq93.true (ap (closed (ended c.loop-at.set)) p.0 ∙ sym c.in-Ok-None.ensures ∙ ap Some c.in-Ok-None.field-0-is)))
    ∙ c.loop-at.invariant.left

pub returns-in-Err-clause-value : goal.returns-in-Err-clause-value
returns-in-Err-clause-value c =
    let p = after_pop c.loop-at.open c.pop.new.self c.pop.result c.pop.ensures.items c.pop.ensures.cases in
    sym (ap (longer_by c.loop-at.at) (close_none c.args.mode (reverse c.loop-at.open.items) c.loop-at.set c.args.rest.now c.loop-at.at
    c.loop-at-test.true c.if-rest-at-eq93.true (ap (closed (ended c.loop-at.set)) p.0 ∙ sym c.in-Err.ensures)))
    ∙ c.loop-at.invariant.left

pub loop-at-preserved-then-rest-at-eq93 : goal.loop-at-preserved-then-rest-at-eq93
loop-at-preserved-then-rest-at-eq93 c =
    let p = after_pop c.loop-at.open c.pop.new.self c.pop.result c.pop.ensures.items c.pop.ensures.cases in
    record {
      within = omega (arith, c.loop-at-test.true);
      left = ap (λ us. longer_by (c.loop-at.at + 1) (sets_from c.args.mode us c.in-Ok-Some.around (c.loop-at.at + 1) 0 (drop (c.loop-at.at + 1) c.args.rest.now))) (sym p.1)
          ∙ close_on c.args.mode (reverse c.loop-at.open.items) c.loop-at.set c.args.rest.now c.loop-at.at c.in-Ok-Some.around
          c.loop-at-test.true c.if-rest-at-eq93.true (ap (closed (ended c.loop-at.set)) p.0 ∙ sym c.in-Ok-Some.ensures ∙ ap Some c.in-Ok-Some.field-0-is)
          ∙ c.loop-at.invariant.left;
    }

pub loop-at-preserved-then-rest-at-eq91 : goal.loop-at-preserved-then-rest-at-eq91
loop-at-preserved-then-rest-at-eq91 c =
    let xs = c.args.rest.now in let at = c.loop-at.at in let n = c.opening-at-then-rest-at-eq91.result in
    let some = c.opening-at-then-rest-at-eq91.ensures.within.0 in
    let within : n ≤ length (drop at xs) =
    subst (λ ys. n ≤ length ys) c.tail-then-rest-at-eq91.ensures c.opening-at-then-rest-at-eq91.ensures.within.1 in
    record {
      within = (let long = length-drop at xs in omega (arith, within, long, some, c.loop-at-test.true));
      left = ap (λ us. longer_by (at + n) (sets_from c.args.mode us c.begun-set-then-rest-at-eq91.result (at + n) 0 (drop (at + n) xs)))
          (pushed c.loop-at.open.items c.push.new.self.items c.loop-at.set c.in_ok-push.ensures.items)
          ∙ ap (λ s. longer_by (at + n) (sets_from c.args.mode (c.loop-at.set ∷ reverse c.loop-at.open.items) s (at + n) 0 (drop (at + n) xs)))
          (c.begun-set-then-rest-at-eq91.ensures ∙ ap (begun at) c.tail.ensures)
          ∙ opens c.args.mode (reverse c.loop-at.open.items) c.loop-at.set xs at n c.loop-at-test.true c.if-rest-at-eq91.true
          (c.opening-at-then-rest-at-eq91.ensures.value ∙ ap opening c.tail-then-rest-at-eq91.ensures) some within
          ∙ c.loop-at.invariant.left;
    }

pub loop-at-preserved : goal.loop-at-preserved
loop-at-preserved c =
    let xs = c.args.rest.now in let at = c.loop-at.at in let n = c.in-Ok.len in
    let some = c.in-Ok.ensures.within.0 in
    let within : n ≤ length (drop at xs) = subst (λ ys. n ≤ length ys) c.tail-else-rest-at-eq91.ensures c.in-Ok.ensures.within.1 in
    record {
      within = (let long = length-drop at xs in omega (arith, within, long, some, c.loop-at-test.true));
      left = part_on c.args.mode (reverse c.loop-at.open.items) c.loop-at.set xs at n c.in-Ok.next c.loop-at-test.true
          c.if-rest-at-eq93.false c.if-rest-at-eq91.false
          (sym (c.in-Ok.ensures.value ∙ ap (part c.args.mode c.loop-at.set) c.tail-else-rest-at-eq91.ensures)) some within
          ∙ c.loop-at.invariant.left;
    }

pub returns-in-Err-part-clause-value : goal.returns-in-Err-part-clause-value
returns-in-Err-part-clause-value c =
    sym (ap (longer_by c.loop-at.at) (part_none c.args.mode (reverse c.loop-at.open.items) c.loop-at.set c.args.rest.now c.loop-at.at
    c.loop-at-test.true c.if-rest-at-eq93.false c.if-rest-at-eq91.false
    (sym (c.in-Err-part.ensures.value ∙ ap (part c.args.mode c.loop-at.set) c.tail-else-rest-at-eq91.ensures))))
    ∙ c.loop-at.invariant.left

pub returns-clause-value : goal.returns-clause-value
returns-clause-value c =
    sym (ap (longer_by c.loop-at.at) (sets_over c.args.mode (reverse c.loop-at.open.items) c.loop-at.set c.args.rest.now c.loop-at.at
    c.loop-at-test.false))
    ∙ c.loop-at.invariant.left
