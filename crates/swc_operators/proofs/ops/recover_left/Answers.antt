use Rattle.std.proofs.Common.{◌≢◌, ◌∙◌, sym}
use Rattle.swc_context.specs.declared.error.SyntaxError.TheVariants.{OutOfMemory}
use Rattle.swc_nodes.proofs.Standing.{grows-same}
use Rattle.swc_steps.proofs.Making.{not_recovered}
use Rattle.swc_steps.proofs.Steps.{acts_after, falls_after, forgoes_on, forgoes_refuses, here_leads, if_err, memory_is, memory_not, notes_after, on_ok, spent}
use Rattle.swc_operators.proofs.ops.recover_left.Goals as goal

pub returns-then-is_out_of_memory-clause-recovers : goal.returns-then-is_out_of_memory-clause-recovers
returns-then-is_out_of_memory-clause-recovers g c =
    not_recovered (forgoes_refuses (forgoes_on g.met.I.Tokens.laws _ _
    (memory_is _ (sym c.is_out_of_memory.ensures ∙ c.if-is_out_of_memory.true)))) (λ n. n) (grows-same _)

pub returns-in-Ok-Some-clause-recovers : goal.returns-in-Ok-Some-clause-recovers
returns-in-Ok-Some-clause-recovers g c =
    let seen = here_leads c.in-Ok-Some.ensures.looks in
    let done = c.stand_in.ensures.recovers in
    let some = memory_not _ (sym c.is_out_of_memory.ensures ∙ c.if-is_out_of_memory.false) in record {
      effect = acts_after g.I.Tokens.model c.stand_in.new.p.input c.stand_in.result seen done.effect;
      notes = notes_after g.I.Tokens.model c.stand_in.new.p.input c.stand_in.result seen done.notes;
      some = on_ok c.stand_in.result some;
      memory = if_err (λ e. e.kind ≢ OutOfMemory) c.stand_in.result some;
      falls = falls_after g.I.Tokens.model c.stand_in.new.p.input c.stand_in.result seen done.falls;
      grows = done.grows;
      from = done.from;
    }

pub returns-in-Ok-None-clause-recovers : goal.returns-in-Ok-None-clause-recovers
returns-in-Ok-None-clause-recovers g c = let looked = c.in-Ok-None.ensures.looks in
    not_recovered (record { spends = spent (here_leads looked); kind = c.requires; served = λ n. looked.served })
    (λ n. n) (grows-same _)

pub returns-in-Err-clause-recovers : goal.returns-in-Err-clause-recovers
returns-in-Err-clause-recovers g c = let h = c.in-Err.ensures.looks in
    rw (c.instead.ensures) (not_recovered (forgoes_refuses h) (λ n. absurd (n h.kind)) (grows-same _))
