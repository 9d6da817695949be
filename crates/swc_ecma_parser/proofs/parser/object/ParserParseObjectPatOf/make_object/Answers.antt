use Rattle.std.proofs.Common.{Err, refl, ap, ◌∙◌}
use Rattle.swc_steps.proofs.Refused.{err_is}
use Rattle.swc_ecma_parser.proofs.Calling.{bounded, failing, not_both, shallow}
use Rattle.swc_ecma_parser.proofs.parser.object.ParserParseObjectPatOf.make_object.Goals as goal

pub returns-in_err-begin : goal.returns-in_err-begin
returns-in_err-begin g c =
    let h = c.in_err-begin.ensures.again in
    rw (err_is c.from_residual.ensures.1) (record {
      again = λ failed. (refl, ap (λ x. Err x) h.1);
      makes = λ runs. absurd (not_both h.0 runs);
      nodes = refl;
      fails = λ runs. absurd (not_both h.0 runs);
      bound = refl;
      shallow = λ runs. absurd (not_both h.0 runs);
      remembers = tt;
    })

pub returns : goal.returns
returns g c =
    let made = c.make_pattern-answer.ensures in
    let done = c.finish.ensures in
    let runs = c.in_ok-begin.ensures.runs in
    record {
      again = λ failed. absurd (not_both failed runs);
      makes = λ w. rw (done.answer, done.buffer) made.makes;
      nodes = done.nodes ∙ made.nodes;
      fails = λ w. failing c.make_pattern-answer.result c.finish.result runs made.runs done.answer done.fails;
      bound = bounded c.make_pattern-answer.result made.runs done.fails;
      shallow = λ w. shallow c.make_pattern-answer.result c.finish.result done.answer done.fails;
      remembers = rw (done.answer, done.commas) made.remembers;
    }
