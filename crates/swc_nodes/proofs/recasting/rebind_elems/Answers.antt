use Rattle.std.proofs.Common.{map, refl, arith}
use Rattle.swc_nodes.specs.Recasting.{bare_some}
use Rattle.swc_nodes.specs.Roles.{due, pat_elem_dues}
use Rattle.swc_nodes.proofs.Recasts.{rebinding-more, Rebinding}
use Rattle.swc_nodes.proofs.recasting.rebind_elems.Goals as goal

pub loop-elem-preserved : goal.loop-elem-preserved
loop-elem-preserved c =
    let l = c.loop-elem.auto.elem-items in
    let h = c.loop-elem-test.true in
    let so_far : Rebinding bare_some pat_elem_dues c.args.elems.now.items (map due c.args.due.now.items)
    c.loop-elem.elem-items (map due c.loop-elem.due.items) c.loop-elem.elem-index
    = record { items = c.loop-elem.invariant.items; dues = c.loop-elem.invariant.dues } in
    let more = rebinding-more bare_some pat_elem_dues _ c.rebind_elem.new.elem _ (omega arith) so_far refl
    c.in_ok-rebind_elem.ensures.elem c.in_ok-rebind_elem.ensures.dues in
    record { items = more.items; dues = more.dues }
