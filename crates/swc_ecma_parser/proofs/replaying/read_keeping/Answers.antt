use Rattle.std.proofs.Common.{ap, ◌∙◌}
use Rattle.swc_ecma_parser.specs.Calls.{has_failed}
use Rattle.swc_ecma_parser.proofs.replaying.read_keeping.Goals as goal

pub returns : goal.returns
returns g c = record {
  start = _;
  behind = _;
  runs = ap (λ p. has_failed p) c.limit_nesting.ensures ∙ c.new_from-parser.ensures.runs;
  input = c.new.result;
  new = rw (c.limit_nesting.ensures) c.new_from-parser.ensures.fresh;
  over = c.new.ensures.source;
  none_kept = c.new.ensures.nothing_kept;
  call = c.parse_expr-read.ensures.promised;
  look = c.at_end-at_end.ensures;
}
