use Rattle.std.proofs.Common.{map, refl, arith}
use Rattle.swc_nodes.specs.Recasting.{bare_prop}
use Rattle.swc_nodes.specs.Roles.{due, pat_prop_dues}
use Rattle.swc_nodes.proofs.Recasts.{rebinding-more, Rebinding}
use Rattle.swc_nodes.proofs.recasting.rebind_props.Goals as goal

pub loop-prop-preserved : goal.loop-prop-preserved
loop-prop-preserved c =
    let l = c.loop-prop.auto.prop-items in
    let h = c.loop-prop-test.true in
    let so_far : Rebinding bare_prop pat_prop_dues c.args.props.now.items (map due c.args.due.now.items)
    c.loop-prop.prop-items (map due c.loop-prop.due.items) c.loop-prop.prop-index
    = record { items = c.loop-prop.invariant.items; dues = c.loop-prop.invariant.dues } in
    let more = rebinding-more bare_prop pat_prop_dues _ c.rebind_prop.new.prop c.prop-item.result (omega arith)
    so_far refl c.in_ok-rebind_prop.ensures.prop c.in_ok-rebind_prop.ensures.dues in
    record { items = more.items; dues = more.dues }
