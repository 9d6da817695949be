use Rattle.std.proofs.Common.{◌-◌, ap, sym, ◌∙◌, arith}
use Rattle.std.specs.Prelude.{is_some, not}
use Rattle.swc_nodes.proofs.Recasts.{some-before}
use Rattle.swc_nodes.proofs.recasting.without_holes.Goals as goal

pub returns-else-is_none-clause-before : goal.returns-else-is_none-clause-before
returns-else-is_none-clause-before c = λ i lt.
    some-before c.args.elems.now.items i (c.loop-len.len - 1) c.index.result.now (omega arith) (omega arith)
    (ap is_some (sym c.index.ensures) ∙ c.is_none.ensures ∙ ap not c.if-is_none.false)
