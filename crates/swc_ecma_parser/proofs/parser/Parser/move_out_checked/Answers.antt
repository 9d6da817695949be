use Rattle.swc_nodes.specs.GrowingNodes.{Apart}
use Rattle.swc_ecma_parser.specs.Calls.{nodes_of}
use Rattle.swc_ecma_parser.proofs.{Finished.checked-holds, Moving.apart-kept}
use Rattle.swc_ecma_parser.proofs.parser.Parser.move_out_checked.Goals as goal

pub check_answer-answer-requires : goal.check_answer-answer-requires
check_answer-answer-requires g c = apart-kept g.T.Take.parts
    (nodes_of c.args.self.now) c.args.start c.args.answer c.requires

pub hand_out-requires : goal.hand_out-requires
hand_out-requires g c =
    checked-holds g.I.Tokens.model _ _ _ (λ x. Apart c.args.start (nodes_of c.args.self.now) (g.T.Take.parts x))
    c.args.answer
    c.check_answer-answer.result c.check_answer-answer.ensures.checks c.requires

pub returns : goal.returns
returns g c = record {
  at = c.check_answer-answer.new.input;
  checked = c.check_answer-answer.result;
  checks = c.check_answer-answer.ensures.checks;
  out = c.hand_out.ensures;
}
