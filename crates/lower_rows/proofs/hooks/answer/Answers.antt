use Rattle.std.specs.Prelude.{[]}
use Rattle.std.proofs.Common.{ap, sym, ◌∙◌}
use Rattle.std.proofs.lemmas.Result.{err_from_is_err_and}
use Rattle.swc_input.specs.Laws.{Read-same}
use Rattle.lower_rows.proofs.Bodies.{refuses, records}
use Rattle.lower_rows.proofs.hooks.answer.Goals as goal

pub returns-in_err-emit_err-in-Records : goal.returns-in_err-emit_err-in-Records
returns-in_err-emit_err-in-Records g c = λ reads.
    let p = err_from_is_err_and c.from_residual.result c.from_residual.ensures.1 in
    let refused = c.in_err-emit_err-in-Records.ensures.refused in
    let now = c.args.input.now in
    rw (p.1, p.2)
    (refuses g.I.Tokens.model g.met.I.Tokens.laws reads now now c.consume-span.new.input c.emit_err.new.self []
    refused.0 _
    (Read-same g.met.I.Tokens.laws now) c.consume-span.ensures.took refused.1
    (λ own. let k = sym (ap (λ e. e.kind) refused.2) ∙ own in cc))

pub returns-in_ok-emit_err-in-Records : goal.returns-in_ok-emit_err-in-Records
returns-in_ok-emit_err-in-Records g c = λ reads.
    records g.I.Tokens.model g.met.I.Tokens.laws reads
    c.args.input.now c.consume-span.new.input c.emit_err.new.self _ _
    c.consume-span.ensures.took c.consume-span.ensures.same c.in_ok-emit_err-in-Records.ensures.read
    c.in_ok-emit_err-in-Records.ensures.recorded

pub returns-in-WantsMemory : goal.returns-in-WantsMemory
returns-in-WantsMemory g c = λ reads.
    let now = c.args.input.now in
    let end = c.consume-span.new.input in
    refuses g.I.Tokens.model g.met.I.Tokens.laws reads now now end end [] [] c.out_of_memory.result
    (Read-same g.met.I.Tokens.laws now) c.consume-span.ensures.took (Read-same g.met.I.Tokens.laws end)
    (λ own. let k = sym (ap (λ e. e.kind) c.out_of_memory.ensures) ∙ own in cc)

pub returns-in_default : goal.returns-in_default
returns-in_default g c = λ reads.
    let now = c.args.input.now in
    refuses g.I.Tokens.model g.met.I.Tokens.laws reads now now c.consume-span.new.input c.look_on.new.input [] []
    c.refusal.result
    (Read-same g.met.I.Tokens.laws now) c.consume-span.ensures.took c.look_on.ensures c.refusal.ensures
