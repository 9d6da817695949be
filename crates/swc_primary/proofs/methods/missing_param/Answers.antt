use Rattle.swc_nodes.proofs.Standing.{grows-same}
use Rattle.swc_primary.proofs.methods.missing_param.Goals as goal

pub returns-in_err-emit_err-clause-grows : goal.returns-in_err-emit_err-clause-grows
returns-in_err-emit_err-clause-grows g c = grows-same _
