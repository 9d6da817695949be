use Rattle.std.proofs.Common.{subst, ◌∙◌}
use Rattle.swc_nodes.specs.GrowingNodes.{Apart}
use Rattle.swc_ecma_parser.specs.Calls.{nodes_of, Ends}
use Rattle.swc_ecma_parser.proofs.{Finished.checked-holds, Moving.apart-kept}
use Rattle.swc_ecma_parser.proofs.parser.Parser.keep_checked.Goals as goal

pub check_answer-answer-requires : goal.check_answer-answer-requires
check_answer-answer-requires g c = apart-kept g.T.Take.parts
    (nodes_of c.args.self.now) c.args.start c.args.answer c.requires

pub keep-answer-requires : goal.keep-answer-requires
keep-answer-requires g c =
    checked-holds g.I.Tokens.model _ _ _ (λ x. Apart c.args.start (nodes_of c.args.self.now) (g.T.Take.parts x))
    c.args.answer
    c.check_answer-answer.result c.check_answer-answer.ensures.checks c.requires

pub returns : goal.returns
returns g c =
    let kept = c.keep-answer.ensures in
    let done = c.finish.ensures in
    record {
      at = c.check_answer-answer.new.input;
      checked = c.check_answer-answer.result;
      checks = c.check_answer-answer.ensures.checks;
      kept = rw done.answer kept.answer;
      commas = rw (done.answer, done.commas) kept.commas;
      nodes = rw (done.answer, done.nodes) kept.nodes;
      buffer = done.buffer ∙ kept.buffer;
      fails = rw done.answer (subst (λ s. Ends s c.keep-answer.result c.finish.new.self) kept.runs done.fails);
    }
