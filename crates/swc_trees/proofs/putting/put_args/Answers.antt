use Rattle.std.proofs.Common.{refl}
use Rattle.swc_nodes.specs.{NodeParts.args_parts, GrowingNodes.tree_at}
use Rattle.swc_trees.proofs.{Agreed.agrees-self, Puts.puts-items}
use Rattle.swc_trees.proofs.putting.put_args.Goals as goal

pub returns-clause-apart : goal.returns-clause-apart
returns-clause-apart g c =
    (puts-items c.args.args _ c.new-parts.ensures.items refl c.in_ok-items.ensures c.in_ok-ids.ensures
    c.renumber_items.ensures).put.apart

pub returns-clause-moved : goal.returns-clause-moved
returns-clause-moved g c =
    let all = tree_at c.put_all.new.nodes in
    (puts-items c.args.args _ c.new-parts.ensures.items refl c.in_ok-items.ensures c.in_ok-ids.ensures
    c.renumber_items.ensures).put.moved all (agrees-self all (args_parts c.renumber_items.new.items))
