use Rattle.std.proofs.Common.{◌∙◌, sym}
use Rattle.swc_steps.proofs.Steps.{forgoes_on, memory_is}
use Rattle.swc_steps.proofs.tokens.record_refusal.Goals as goal

pub returns-then-is_out_of_memory-clause-tries : goal.returns-then-is_out_of_memory-clause-tries
returns-then-is_out_of_memory-clause-tries g c = forgoes_on g.met.I.Tokens.laws _ _
    (memory_is _ (sym c.is_out_of_memory.ensures ∙ c.if-is_out_of_memory.true))
