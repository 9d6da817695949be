use Rattle.std.proofs.Common.{arith}
use Rattle.swc_steps.proofs.Steps as s
use Rattle.swc_primary.proofs.object.check_questioned.Goals as goal

pub returns-in_default : goal.returns-in_default
returns-in_default g c = record { tries = s.here g.met.I.Tokens.laws _; falls = omega arith }
