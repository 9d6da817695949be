use Rattle.std.proofs.Common.{ap, ◌∙◌}
use Rattle.swc_input.specs.Buffer.{last_position}
use Rattle.swc_steps.proofs.Steps.{forgoes_here}
use Rattle.swc_ecma_parser.specs.{Faults.cover_faults, Calls.buffer_of}
use Rattle.swc_ecma_parser.proofs.Verified.{faults-tried}
use Rattle.swc_ecma_parser.proofs.parser.Parser.record_names.Goals as goal

pub returns-in-Ok-clause-tries : goal.returns-in-Ok-clause-tries
returns-in-Ok-clause-tries g c =
    let done = c.record_cover_names.ensures in
    faults-tried g.met.I.Tokens.laws (cover_faults c.deref.result.now) _ _ _ c.record_cover_names.result
    (ap cover_faults (c.deref.ensures.value ∙ c.in-Ok.ensures))
    done.silent done.recorded done.refused done.read done.lives done.current done.listed

pub returns-in-Err-clause-tries : goal.returns-in-Err-clause-tries
returns-in-Err-clause-tries g c =
    forgoes_here g.met.I.Tokens.laws (buffer_of c.args.self.now) (last_position (buffer_of c.args.self.now))
    c.out_of_memory.result c.out_of_memory.ensures
