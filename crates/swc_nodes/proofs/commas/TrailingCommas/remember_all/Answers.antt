use Rattle.std.proofs.Common.{map, sym, ap, ◌∙◌}
use Rattle.swc_nodes.specs.Commas.{body_part, comma_at, outer_parts, part_commas, recalled}
use Rattle.swc_nodes.specs.{GrowingNodes.tree_at, GrowingNodes.Stood, Walking.part_of}
use Rattle.swc_nodes.proofs.Remembered.{outer-first, taken, turn_commas}
use Rattle.swc_nodes.proofs.Weighed.{apart_numbers, last_below, turn_less, turn_numbers}
use Rattle.swc_nodes.proofs.commas.TrailingCommas.remember_all.Goals as goal

pub loop-part-init : goal.loop-part-init
loop-part-init g c =
    let due = c.in_ok-due.ensures in
    record {
      valid = rw (due) (apart_numbers c.args.nodes.now 0 (g.T.Parts.parts c.args.item.now) c.requires);
      rest = λ at. ap (λ ps. recalled (part_commas (tree_at c.args.nodes.now) ps) at (comma_at c.args.self.now at)) due;
    }

pub get-node-requires : goal.get-node-requires
get-node-requires g c =
    let below = last_below c.args.nodes.now _ _ (part_of c.in-Some.part) c.loop-part.invariant.valid
    (taken _ _ c.in-Some.part c.in-Some.ensures.items) in
    rw (c.number.ensures) below

pub loop-part-smaller : goal.loop-part-smaller
loop-part-smaller g c =
    let stood : Stood c.args.nodes.now (part_of c.in-Some.part).at c.get-node.result.now =
    rw (sym c.number.ensures) c.get-node.ensures in
    turn_less c.args.nodes.now (map part_of c.loop-part.due.items) (map part_of c.pop.new.self.items)
    (map part_of c.list_outer.new.due.items) (part_of c.in-Some.part) c.get-node.result.now
    (outer_parts c.get-node.result.now) (body_part c.get-node.result.now)
    (outer-first c.get-node.result.now) c.loop-part.invariant.valid
    (taken _ _ c.in-Some.part c.in-Some.ensures.items) stood c.in_ok-list_outer.ensures

pub loop-part-preserved : goal.loop-part-preserved
loop-part-preserved g c =
    let ns = c.args.nodes.now in
    let stood : Stood ns (part_of c.in-Some.part).at c.get-node.result.now =
    rw (sym c.number.ensures) c.get-node.ensures in
    let popped = taken _ _ c.in-Some.part c.in-Some.ensures.items in
    let valid = c.loop-part.invariant.valid in
    let below = last_below ns _ _ (part_of c.in-Some.part) valid popped in
    record {
      valid =
          turn_numbers ns (map part_of c.loop-part.due.items) (map part_of c.pop.new.self.items)
          (map part_of c.list_outer.new.due.items) (part_of c.in-Some.part) c.get-node.result.now
          (outer_parts c.get-node.result.now) (body_part c.get-node.result.now)
          (outer-first c.get-node.result.now) valid popped stood c.in_ok-list_outer.ensures;
      rest = λ at.
          turn_commas ns (map part_of c.loop-part.due.items) (map part_of c.pop.new.self.items)
          (map part_of c.list_outer.new.due.items) (part_of c.in-Some.part) c.get-node.result.now
          c.loop-part.self c.remember_node.new.self popped c.in_ok-list_outer.ensures stood below
          c.in_ok-remember_node.ensures at
          ∙ c.loop-part.invariant.rest at;
    }
