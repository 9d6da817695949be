use Rattle.swc_ecma_parser.proofs.Moving.{apart-taken}
use Rattle.swc_ecma_parser.proofs.parser.Parser.lift_out.Goals as goal

pub take-whole-requires : goal.take-whole-requires
take-whole-requires g c = apart-taken g.T.Take.parts c.args.start c.args.answer c.in-Ok.is c.requires
