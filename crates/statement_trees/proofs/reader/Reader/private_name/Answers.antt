use Rattle.program_tokens.specs.Source.{program_model}
use Rattle.statement_trees.proofs.Kept.{spelled_keeps, lower_effort, takes_ok, hash_falls}
use Rattle.statement_trees.proofs.reader.Reader.private_name.Goals as goal

pub returns : goal.returns
returns c =
    let keeps = spelled_keeps program_model c.parse_private_name.ensures in
    record {
      context = keeps.0;
      lower = lower_effort _ _ _ keeps.1;
      takes = takes_ok _ _ _ _ (hash_falls program_model c.parse_private_name.ensures);
    }
