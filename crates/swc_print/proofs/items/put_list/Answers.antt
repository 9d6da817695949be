use Rattle.std.proofs.Common.{◌∙◌}
use Rattle.swc_print.proofs.Added.{item_more}
use Rattle.swc_print.proofs.items.put_list.Goals as goal

pub loop-i-preserved : goal.loop-i-preserved
loop-i-preserved g c = item_more g.T.Item.parts c.args.items.now c.loop-i.i c.index-items-i.result _ _ _
    c.loop-i-test.true c.index-items-i.is (c.in_ok-put_text-2.ensures ∙ c.loop-i.invariant) c.in_ok-put.ensures
