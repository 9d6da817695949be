use Rattle.swc_nodes.specs.Turning.{bare_tree, node_at, own_place, place_in}
use Rattle.swc_nodes.proofs.recasting.recast.Goals as goal

pub returns-in-Ident-clause-node : goal.returns-in-Ident-clause-node
returns-in-Ident-clause-node g c =
    let f = g.F.Spanned.place in
    let k = g.C.Spanned.place in
    let b = g.K.Spanned.place in
    let xs = c.args.nodes.now.items in
    let own = own_place f k b (bare_tree f k b xs) in
    rw c.in-Ident.is (c.to_ident.ensures (node_at xs) (place_in f k b xs) own c.args.role)
