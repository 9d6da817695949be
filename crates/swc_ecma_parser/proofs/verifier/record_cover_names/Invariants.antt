use Rattle.std.proofs.Common.{drop}
use Rattle.swc_ecma_parser.specs.Faults.{cover_faults}
use Rattle.swc_ecma_parser.proofs.Recordings.{Midway}
use Rattle.swc_ecma_parser.proofs.verifier.record_cover_names.Given as goal

abbrev pub invariant-loop-name : goal.invariant-loop-name
invariant-loop-name g l =
    Midway g.I.Tokens.model (cover_faults l.names) (cover_faults (drop l.name-index l.names)) l.fn.input l.input
