use Rattle.std.proofs.Common.{ap}
use Rattle.swc_input.specs.Buffer.{last_position}
use Rattle.swc_steps.proofs.Steps.{forgoes_here}
use Rattle.swc_ecma_parser.specs.Calls.{buffer_of, nodes_of}
use Rattle.swc_ecma_parser.proofs.Verified.{looked-through}
use Rattle.swc_ecma_parser.proofs.parser.Parser.look_through.Goals as goal

pub returns-in-Err-clause-looks : goal.returns-in-Err-clause-looks
returns-in-Err-clause-looks g c = (
  forgoes_here g.met.I.Tokens.laws (buffer_of c.args.self.now) (last_position (buffer_of c.args.self.now))
      c.out_of_memory.result c.out_of_memory.ensures,
  tt,
)

pub returns-in_ok-record_names-in-Ok-clause-looks : goal.returns-in_ok-record_names-in-Ok-clause-looks
returns-in_ok-record_names-in-Ok-clause-looks g c =
    let done = c.in_ok-record_names-in-Ok.ensures in
    looked-through _ _ _ _ _ _ c.in-Ok.id c.in-Ok.ensures.made done.tries (ap (λ p. nodes_of p) done.rest)
