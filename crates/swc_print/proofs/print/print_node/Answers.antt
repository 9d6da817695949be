use Rattle.std.proofs.Common.{ℕ, Option, ◌++◌, [], refl, ap}
use Rattle.std.specs.Option.{option_to_list}
use Rattle.swc_nodes.specs.Weights.{ats}
use Rattle.swc_print.specs.Numbers.{numbers, shown}
use Rattle.swc_print.proofs.Weighed.{turn_less, turn_numbers}
use Rattle.swc_print.proofs.print.print_node.Goals as goal

pub loop-next-smaller : goal.loop-next-smaller
loop-next-smaller g c =
    turn_less c.args.nodes.now (numbers c.loop-next.stack.items ++ option_to_list c.loop-next.next)
    (numbers c.loop-next.stack.items) [] (ats (shown c.get.result.now)) _ c.in-Some.at c.get.result.now
    c.loop-next.invariant.valid
    (ap (λ (v : Option ℕ). numbers c.loop-next.stack.items ++ option_to_list v) c.in-Some.is) c.get.ensures
    refl refl c.in_ok-next.ensures.next

pub loop-next-preserved : goal.loop-next-preserved
loop-next-preserved g c = record {
  valid =
      turn_numbers c.args.nodes.now (numbers c.loop-next.stack.items ++ option_to_list c.loop-next.next)
      (numbers c.loop-next.stack.items) [] (ats (shown c.get.result.now)) _ c.in-Some.at c.get.result.now
      c.loop-next.invariant.valid
      (ap (λ (v : Option ℕ). numbers c.loop-next.stack.items ++ option_to_list v) c.in-Some.is) c.get.ensures
      refl refl c.in_ok-next.ensures.next;
  none = c.in_ok-next.ensures.none;
}
