use Rattle.std.proofs.Common.{rules, ◌∙◌}
use Rattle.swc_nodes.specs.NodeParts.{target_part}
use Rattle.swc_trees.proofs.Assembled.{some-left, popped-is, target-kind, was-some}
use Rattle.swc_trees.proofs.built.pop_target.Goals as goal

pub unwrap-requires : goal.unwrap-requires
unwrap-requires g c =
    let l = some-left (target_part c.args.target) c.requires in
    search rules

pub unwrap-requires-2 : goal.unwrap-requires-2
unwrap-requires-2 g c =
    let kind = popped-is (target_part c.args.target) c.pop.new.self.items c.pop.result c.requires c.pop.ensures.items
    c.unwrap.ensures in
    was-some _ _ c.into_target.result c.into_target.ensures (kind ∙ target-kind c.args.target)
