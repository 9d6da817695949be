use Rattle.std.proofs.Common.{subst, ◌∙◌}
use Rattle.swc_ecma_parser.specs.Calls.{Ends}
use Rattle.swc_ecma_parser.proofs.parser.Parser.hand_out.Goals as goal

pub returns : goal.returns
returns g c =
    let moved = c.move_out-answer.ensures in
    let done = c.finish.ensures in
    record {
      moved = rw done.answer moved.moved;
      commas = rw (done.answer, done.commas) moved.commas;
      nodes = rw done.nodes moved.nodes;
      buffer = done.buffer ∙ moved.buffer;
      fails = rw done.answer (subst (λ s. Ends s c.move_out-answer.result c.finish.new.self) moved.runs done.fails);
    }
