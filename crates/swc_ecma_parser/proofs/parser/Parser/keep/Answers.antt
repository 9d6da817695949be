use Rattle.swc_ecma_parser.specs.Calls.{nodes_of}
use Rattle.swc_ecma_parser.proofs.Moving.{apart-kept}
use Rattle.swc_ecma_parser.proofs.parser.Parser.keep.Goals as goal

pub remember-answer-requires : goal.remember-answer-requires
remember-answer-requires g c = apart-kept g.T.Take.parts
    (nodes_of c.args.self.now) c.args.start c.args.answer c.requires
