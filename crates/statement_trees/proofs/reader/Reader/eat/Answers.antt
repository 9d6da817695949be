use Rattle.std.proofs.Common.{ap, arith, ◌∙◌}
use Rattle.swc_input.specs.Buffer.{context, to_come}
use Rattle.program_tokens.specs.Source.{program_model}
use Rattle.statement_trees.proofs.Kept.{eaten_keeps, lower_effort, takes_effort}
use Rattle.statement_trees.proofs.reader.Reader.eat.Goals as goal

pub returns : goal.returns
returns c =
    let keeps = eaten_keeps program_model c.eat.result c.eat.ensures.eaten c.eat.ensures.stays in
    let same = ap (to_come program_model) c.buffer.ensures.value in
    record {
      context = keeps.0 ∙ ap (context program_model) c.buffer.ensures.value;
      lower = lower_effort _ _ _ (omega (arith, keeps.1, same));
      takes = λ eaten. takes_effort _ _ _ (omega (arith, c.eat.ensures.falls eaten, same));
    }
