use Rattle.program_tokens.specs.Source.{program_model}
use Rattle.statement_trees.proofs.Kept.{spelled_keeps, lower_effort}
use Rattle.statement_trees.proofs.reader.Reader.name.Goals as goal

pub returns-in_err-name : goal.returns-in_err-name
returns-in_err-name c =
    let keeps = spelled_keeps program_model c.parse_binding_ident.ensures in
    record { context = keeps.0; lower = lower_effort _ _ _ keeps.1 }

pub returns : goal.returns
returns c =
    let keeps = spelled_keeps program_model c.parse_binding_ident.ensures in
    record { context = keeps.0; lower = lower_effort _ _ _ keeps.1 }
