use Rattle.program_tokens.specs.Source.{program_model}
use Rattle.statement_trees.proofs.Kept.{body_keeps, lower_effort, takes_ok, body_falls}
use Rattle.statement_trees.proofs.reader.Reader.read_class.Goals as goal

pub returns : goal.returns
returns c =
    let keeps = body_keeps program_model c.read_class.ensures in
    record {
      context = keeps.0;
      lower = lower_effort _ _ _ keeps.1;
      takes = takes_ok _ _ _ _ (body_falls program_model c.read_class.ensures);
    }
