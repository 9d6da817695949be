use Rattle.swc_ecma_parser.proofs.Moving.{apart-taken}
use Rattle.swc_ecma_parser.proofs.parser.Parser.move_out.Goals as goal

pub take_out-whole-requires : goal.take_out-whole-requires
take_out-whole-requires g c = apart-taken g.T.Take.parts c.args.start c.args.answer c.in-Ok.is c.requires
