use Rattle.std.proofs.Common.{sym, ap, ◌∙◌, ◌+◌, drop}
use Rattle.regex_patterns.specs.Signs.{number_from}
use Rattle.regex_patterns.proofs.Walks.{number_on, number_off, number_over}
use Rattle.regex_patterns.proofs.signs.number.Goals as goal

pub returns-then-not-is_digit : goal.returns-then-not-is_digit
returns-then-not-is_digit c =
    sym (number_off c.args.rest.now c.loop-at.at c.loop-at.value c.loop-at-test.true (sym c.if-not-is_digit.ensures))
    ∙ c.loop-at.invariant

pub loop-at-preserved : goal.loop-at-preserved
loop-at-preserved c =
    ap (λ n. number_from n (drop (c.loop-at.at + 1) c.args.rest.now)) c.and_digit-value.ensures
    ∙ sym (number_on c.args.rest.now c.loop-at.at c.loop-at.value c.loop-at-test.true (sym c.if-not-is_digit.ensures))
    ∙ c.loop-at.invariant

pub returns : goal.returns
returns c = sym (number_over c.args.rest.now c.loop-at.at c.loop-at.value c.loop-at-test.false) ∙ c.loop-at.invariant
