use Rattle.swc_ecma_parser.specs.Calls.{nodes_of}
use Rattle.swc_ecma_parser.proofs.Moving.{left-same}
use Rattle.swc_ecma_parser.proofs.parser.Parser.take_out.Goals as goal

pub returns-in_err-remember-clause-left : goal.returns-in_err-remember-clause-left
returns-in_err-remember-clause-left g c = left-same (nodes_of c.args.self.now)
    (g.T.Take.parts c.args.numbers) c.requires
