use Rattle.std.proofs.Common.{inr, refl, sym, rules, ◌≡◌, ◌-◌, take, drop, ◌≤◌, length, ◌++◌, ◌∙◌, arith}
use Rattle.std.specs.String.{string_bytes}
use Rattle.text_edits.proofs.Splicing.{splice-on, splice-end, slice-rest, wrong-of}
use Rattle.text_edits.proofs.edit.edited.Goals as goal

pub loop-number-preserved : goal.loop-number-preserved
loop-number-preserved c =
    let text = c.args.text.now in let es = c.args.edits.now in let e = c.index-edits-number.result in
    let put : string_bytes c.push_str-else-is_err.new.self ≡ string_bytes c.loop-number.out ++ take (e.start - c.loop-number.at) (drop c.loop-number.at text) ++ string_bytes e.text = search rules in
    record {
      made = splice-on text (string_bytes c.loop-number.out) (string_bytes c.push_str-else-is_err.new.self) c.loop-number.at c.loop-number.number es e c.loop-number-test.true c.index-edits-number.is put
          ∙ c.loop-number.invariant.made;
      from = inr (e, ((c.loop-number.number, c.loop-number-test.true, sym c.index-edits-number.is), refl));
    }

pub returns-clause-spliced : goal.returns-clause-spliced
returns-clause-spliced c =
    let text = c.args.text.now in let es = c.args.edits.now in
    let rest : c.in-Some.rest.now ≡ drop c.loop-number.at text = slice-rest text c.in-Some.rest.now c.loop-number.at c.in-Some.ensures.cases.0 in
    let le : length es ≤ c.loop-number.number = omega (arith, c.loop-number-test.false) in
    let put : string_bytes c.push_str-2.new.self ≡ string_bytes c.loop-number.out ++ c.in-Some.rest.now = search rules in
    put ∙ splice-end text (string_bytes c.loop-number.out) c.in-Some.rest.now c.loop-number.at c.loop-number.number es le rest ∙ c.loop-number.invariant.made

pub returns-in-Err-clause-refused : goal.returns-in-Err-clause-refused
returns-in-Err-clause-refused c =
    let e = c.index-edits-number.result in
    wrong-of c.args.text.now c.args.edits.now c.loop-number.at e c.in-Err.fault
    (c.loop-number.number, c.loop-number-test.true, sym c.index-edits-number.is) c.loop-number.invariant.from c.in-Err.ensures.refused
