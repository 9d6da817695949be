use Rattle.std.proofs.Common.{◌≡◌, ◌∷◌, ◌++◌, [], arith, map, sym, ap, ◌∙◌}
use Rattle.std.proofs.lemmas.Grind.{common_steps}
use Rattle.swc_nodes.specs.{GrowingNodes.tree_at, GrowingNodes.Stood, Walking.part_of}
use Rattle.swc_ecma_parser.specs.Dues.{due_of}
use Rattle.swc_ecma_parser.proofs.Shrinking.{taken, noted-within, noted-names, last-below, gone-within, gone-less, gone-names, found-all, none-found}
use Rattle.swc_ecma_parser.proofs.verifier.find_due.Goals as goal

pub loop-last-init : goal.loop-last-init
loop-last-init g c =
    record {
      valid = c.requires;
      rest = none-found c.args.in_arrows (tree_at c.args.nodes.now) c.args.due.items c.new-names.ensures.items;
    }

pub loop-last-preserved-in-Continue-1 : goal.loop-last-preserved-in-Continue-1
loop-last-preserved-in-Continue-1 g c =
    let ns = c.args.nodes.now in
    let a = map due_of c.loop-last.due.items in
    let b = map due_of c.pop.new.self.items in
    let popped = taken c.loop-last.due.items c.pop.new.self.items c.in-Some.last c.in-Some.ensures.items
    ∙ ap (λ x. b ++ due_of x ∷ []) c.in-Name.is in
    let name = c.in-Name.span in
    let rest = c.loop-last.invariant.rest in
    record {
      valid = noted-within ns c.args.in_arrows a b name popped c.loop-last.invariant.valid;
      rest =
          noted-names ns c.args.in_arrows a b name popped c.loop-last.names.items _ _
          c.in_ok-push-in-Name.ensures.items rest;
    }

pub get-requires : goal.get-requires
get-requires g c =
    let ns = c.args.nodes.now in
    let a = map due_of c.loop-last.due.items in
    let b = map due_of c.pop.new.self.items in
    let popped = taken c.loop-last.due.items c.pop.new.self.items c.in-Some.last c.in-Some.ensures.items
    ∙ ap (λ x. b ++ due_of x ∷ []) c.in-Part.is in
    rw (c.number.ensures) (last-below ns c.args.in_arrows a b
    (part_of c.in-Part.part).at popped c.loop-last.invariant.valid)

pub loop-last-smaller : goal.loop-last-smaller
loop-last-smaller g c =
    let ns = c.args.nodes.now in
    let a = map due_of c.loop-last.due.items in
    let b = map due_of c.pop.new.self.items in
    let popped = taken c.loop-last.due.items c.pop.new.self.items c.in-Some.last c.in-Some.ensures.items
    ∙ ap (λ x. b ++ due_of x ∷ []) c.in-Part.is in
    let stood : Stood ns (part_of c.in-Part.part).at c.get.result.now = rw (sym c.number.ensures) c.get.ensures in
    gone-less ns c.args.in_arrows a b (part_of c.in-Part.part).at popped c.loop-last.invariant.valid c.get.result.now
    (map due_of c.list_node.new.due.items) stood c.in_ok-list_node-in-Part.ensures

pub loop-last-preserved : goal.loop-last-preserved
loop-last-preserved g c =
    let ns = c.args.nodes.now in
    let a = map due_of c.loop-last.due.items in
    let b = map due_of c.pop.new.self.items in
    let popped = taken c.loop-last.due.items c.pop.new.self.items c.in-Some.last c.in-Some.ensures.items
    ∙ ap (λ x. b ++ due_of x ∷ []) c.in-Part.is in
    let valid = c.loop-last.invariant.valid in
    let stood : Stood ns (part_of c.in-Part.part).at c.get.result.now = rw (sym c.number.ensures) c.get.ensures in
    let r = map due_of c.list_node.new.due.items in
    let x = c.get.result.now in
    let put = c.in_ok-list_node-in-Part.ensures in
    let at = (part_of c.in-Part.part).at in
    record {
      valid = gone-within ns c.args.in_arrows a b at popped valid x r stood put;
      rest =
          gone-names ns c.args.in_arrows a b at popped valid x r stood put c.loop-last.names.items _
          c.loop-last.invariant.rest;
    }

pub returns : goal.returns
returns g c =
    let empty : c.loop-last.due.items ≡ [] = grind (arith, common_steps, c.in_default.ensures.cases) in
    found-all c.args.in_arrows (tree_at c.args.nodes.now) c.loop-last.names.items empty c.reverse.ensures.items
    c.loop-last.invariant.rest
