use Rattle.std.specs.Prelude.{[]}
use Rattle.std.proofs.Common.{ap, sym, ◌∙◌}
use Rattle.swc_input.specs.Laws.{Read-same}
use Rattle.lower_rows.proofs.Bodies.{refuses}
use Rattle.lower_rows.proofs.hooks.record.Goals as goal

pub returns-in-Err-clause-refused : goal.returns-in-Err-clause-refused
returns-in-Err-clause-refused g c = λ reads.
    let refused = c.in-Err.ensures.refused in
    let end = c.consume.new.input in
    refuses g.I.Tokens.model g.met.I.Tokens.laws reads c.args.input.now c.emit_err.new.self end end refused.0 [] _
    refused.1 c.consume.ensures.took (Read-same g.met.I.Tokens.laws end)
    (λ own. let k = sym (ap (λ e. e.kind) refused.2) ∙ own in cc)
