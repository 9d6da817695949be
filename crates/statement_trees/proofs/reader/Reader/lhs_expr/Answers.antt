use Rattle.program_tokens.specs.Source.{program_model}
use Rattle.statement_trees.proofs.Kept.{promised_keeps, lower_effort, takes_ok, promised_falls}
use Rattle.statement_trees.proofs.reader.Reader.lhs_expr.Goals as goal

pub returns : goal.returns
returns c =
    let keeps = promised_keeps program_model c.parse_lhs_expr_id.ensures.promised in
    record {
      context = keeps.0;
      lower = lower_effort _ _ _ keeps.1;
      takes = takes_ok _ _ _ _ (promised_falls program_model c.parse_lhs_expr_id.ensures.promised);
    }
