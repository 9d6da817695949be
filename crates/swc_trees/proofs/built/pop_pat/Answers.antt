use Rattle.std.proofs.Common.{rules}
use Rattle.swc_nodes.specs.NodeParts.{pat_part}
use Rattle.swc_trees.proofs.Assembled.{some-left, popped-is, was-some}
use Rattle.swc_trees.proofs.built.pop_pat.Goals as goal

pub unwrap-requires : goal.unwrap-requires
unwrap-requires g c =
    let l = some-left (pat_part c.args.id) c.requires in
    search rules

pub unwrap-requires-2 : goal.unwrap-requires-2
unwrap-requires-2 g c =
    was-some _ _ c.into_pat.result c.into_pat.ensures
    (popped-is (pat_part c.args.id) c.pop.new.self.items c.pop.result c.requires c.pop.ensures.items c.unwrap.ensures)
