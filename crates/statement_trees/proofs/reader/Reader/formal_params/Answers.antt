use Rattle.program_tokens.specs.Source.{program_model}
use Rattle.statement_trees.proofs.Kept.{params_keep, lower_effort}
use Rattle.statement_trees.proofs.reader.Reader.formal_params.Goals as goal

pub returns : goal.returns
returns c =
    let keeps = params_keep program_model c.parse_formal_params_id.ensures in
    record { context = keeps.0; lower = lower_effort _ _ _ keeps.1 }
