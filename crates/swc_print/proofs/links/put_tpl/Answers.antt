use Rattle.std.proofs.Common.{◌∙◌}
use Rattle.swc_nodes.specs.NodeParts.{one_expr}
use Rattle.swc_print.proofs.Added.{one_more}
use Rattle.swc_print.proofs.links.put_tpl.Goals as goal

pub loop-i-preserved : goal.loop-i-preserved
loop-i-preserved c =
    one_more one_expr c.args.tpl.now.exprs.items c.deref.result.now c.loop-i.i _ _ _ c.deref.ensures.value
    (c.in_ok-put_text-2.ensures ∙ c.in_ok-put_named.ensures ∙ c.loop-i.invariant) c.in_ok-put_nth.ensures
