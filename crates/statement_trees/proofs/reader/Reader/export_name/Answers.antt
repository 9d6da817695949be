use Rattle.program_tokens.specs.Source.{program_model}
use Rattle.statement_trees.proofs.Kept.{name_keeps, lower_effort}
use Rattle.statement_trees.proofs.reader.Reader.export_name.Goals as goal

pub returns : goal.returns
returns c =
    let keeps = name_keeps program_model c.parse_module_export_name.ensures in
    record { context = keeps.0; lower = lower_effort _ _ _ keeps.1 }
