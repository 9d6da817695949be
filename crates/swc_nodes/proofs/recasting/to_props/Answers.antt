use Rattle.std.proofs.Common.{length, rules}
use Rattle.std.proofs.lemmas.Iterator.Adapters.{YieldsList-from_vec}
use Rattle.std.proofs.lemmas.Iterator.Consumers.{YieldsList-turn}
use Rattle.swc_nodes.specs.NodeParts.{prop_parts}
use Rattle.swc_nodes.proofs.Recasts.{parts-in-at}
use Rattle.swc_nodes.proofs.recasting.to_props.Goals as goal

pub to_prop-requires : goal.to_prop-requires
to_prop-requires g c =
    let turn =
    YieldsList-turn (YieldsList-from_vec c.args.props.items (search rules) (search rules)) c.loop-prop.yielded _
    c.loop-prop.yielded_by _ c.next.new.self c.in-Some.prop c.in-Some.is c.next.ensures.steps in
    parts-in-at c.args.nodes.now.items prop_parts c.args.props.items (length c.loop-prop.yielded) c.in-Some.prop
    turn.0 turn.1 c.requires
