use Rattle.std.proofs.Common.{ap, sym}
use Rattle.swc_context.specs.{Spans.from_to, declared.span.BytePos.BytePos}
use Rattle.swc_ast.specs.declared.lit.Regex.{Regex}
use Rattle.swc_steps.proofs.regex.from_slash.Goals as goal

pub returns : goal.returns
returns c = λ slash at.
    let regex = c.args.regex in
    let placed : BytePos → Regex = λ lo. record regex { span = from_to lo regex.span.hi } in
    ap placed (sym at)
