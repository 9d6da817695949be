use Rattle.program_tokens.specs.Source.{program_model}
use Rattle.statement_trees.proofs.Kept.{head_keeps, lower_effort}
use Rattle.statement_trees.proofs.reader.Reader.head_expr.Goals as goal

pub returns : goal.returns
returns c =
    let keeps = head_keeps program_model c.parse_for_head_id.ensures in
    record { context = keeps.0; lower = lower_effort _ _ _ keeps.1 }
