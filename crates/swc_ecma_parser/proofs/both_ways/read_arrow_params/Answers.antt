use Rattle.swc_ecma_parser.proofs.BothWays.{fresh}
use Rattle.swc_ecma_parser.proofs.both_ways.read_arrow_params.Goals as goal

pub returns : goal.returns
returns g c =
    fresh c.new-source.result c.args.tokens.items c.args.ctx c.args.syntax c.args.target c.new_from-parser.result
    c.new-source.ensures.state c.new_from-parser.ensures.fresh c.new_from-parser.ensures.runs c.limit_nesting.ensures
    c.parse_arrow_params-read.ensures.promised
