use Rattle.program_tokens.specs.Source.{program_model}
use Rattle.statement_trees.proofs.Kept.{literal_keeps, lower_effort}
use Rattle.statement_trees.proofs.reader.Reader.literal.Goals as goal

pub returns : goal.returns
returns c =
    let keeps = literal_keeps program_model c.parse_lit.ensures in
    record { context = keeps.0; lower = lower_effort _ _ _ keeps.1 }
