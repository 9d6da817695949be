use Rattle.std.proofs.Common.{rules, ◌+◌, [], inl, inr, map, take, refl, sym, ap, subst, ◌∙◌}
use Rattle.swc_nodes.specs.Roles.{due}
use Rattle.swc_nodes.proofs.Rounds.{none-done, none-kept}
use Rattle.swc_nodes.proofs.Turns.{Put, all-started, last-read, less, none-read, put-done, put-first, put-kept, put-next, root-below, root-long, root-next, root-order, root-ranges, root-ready, root-stopped, root-unheld, some-there}
use Rattle.swc_nodes.proofs.turning.turn_all.Goals as goal

pub returns-in_default-clause-kept : goal.returns-in_default-clause-kept
returns-in_default-clause-kept g c =
    none-kept g.F.Spanned.place g.C.Spanned.place g.K.Spanned.place c.args.nodes.now.items (map due c.args.roots.items)
    c.args.settled.now.items c.requires

pub returns-in_default-clause-turned : goal.returns-in_default-clause-turned
returns-in_default-clause-turned g c =
    none-done g.F.Spanned.place g.C.Spanned.place g.K.Spanned.place c.args.nodes.now.items (map due c.args.roots.items)
    c.args.settled.now.items
    (ap (map due) (none-read c.args.roots.items c.deref.result.now c.last.result c.deref.ensures.value
    c.last.ensures.value c.in_default.is))

pub overflow_add-end : goal.overflow_add-end
overflow_add-end g c =
    let l = (all-started g.F.Spanned.place g.C.Spanned.place g.K.Spanned.place c.args.nodes.now.items
    c.args.roots.items c.in-Some.last.now c.number-end.result (take (c.number-end.result + 1) c.args.nodes.now.items) []
    c.args.settled.now.items
    (last-read c.args.roots.items c.deref.result.now c.last.result c.in-Some.last c.deref.ensures.value
    c.last.ensures.value c.in-Some.is) c.number-end.ensures refl refl c.requires).within in
    let ok = c.args.nodes.now.ok in
    let small = c.args.nodes.now.small in
    search rules

pub loop-root-init : goal.loop-root-init
loop-root-init g c =
    record {
      going = all-started g.F.Spanned.place g.C.Spanned.place g.K.Spanned.place c.args.nodes.now.items
          c.args.roots.items c.in-Some.last.now c.number-end.result c.truncate.new.self.items c.new-turned.result.items
          c.args.settled.now.items
          (last-read c.args.roots.items c.deref.result.now c.last.result c.in-Some.last c.deref.ensures.value
          c.last.ensures.value c.in-Some.is)
          c.number-end.ensures c.truncate.ensures.items c.new-turned.ensures.items c.requires;
      ranges = inl refl;
    }

pub overflow_add-last : goal.overflow_add-last
overflow_add-last g c =
    let l = root-below g.F.Spanned.place g.C.Spanned.place g.K.Spanned.place c.args.nodes.now.items
    (map due c.args.roots.items) c.loop-root.end c.loop-root.nodes.items c.loop-root.roots.items c.pop.new.self.items
    c.in-Some-pop.root c.loop-root.turned.items c.loop-root.settled.items c.number-last.result
    c.loop-root.invariant.going c.in-Some-pop.ensures.items c.number-last.ensures in
    let ok = c.loop-root.nodes.ok in
    let small = c.loop-root.nodes.small in
    search rules

pub overflow_add-last-in-Some-pop : goal.overflow_add-last-in-Some-pop
overflow_add-last-in-Some-pop g c =
    let l = root-below g.F.Spanned.place g.C.Spanned.place g.K.Spanned.place c.args.nodes.now.items
    (map due c.args.roots.items) c.loop-root.end c.loop-root.nodes.items c.loop-root.roots.items c.pop.new.self.items
    c.in-Some-pop.root c.loop-root.turned.items c.loop-root.settled.items c.number-last.result
    c.loop-root.invariant.going c.in-Some-pop.ensures.items c.number-last.ensures in
    let ok = c.loop-root.nodes.ok in
    let small = c.loop-root.nodes.small in
    search rules

pub clear-requires-clause-order : goal.clear-requires-clause-order
clear-requires-clause-order g c =
    root-order g.F.Spanned.place g.C.Spanned.place g.K.Spanned.place c.args.nodes.now.items (map due c.args.roots.items)
    c.loop-root.end c.loop-root.nodes.items c.loop-root.roots.items c.pop.new.self.items
    c.in-Some-pop.root c.loop-root.turned.items c.loop-root.settled.items c.number-last.result
    c.loop-root.invariant.going c.in-Some-pop.ensures.items c.number-last.ensures

pub clear-requires-clause-within : goal.clear-requires-clause-within
clear-requires-clause-within g c =
    root-long g.F.Spanned.place g.C.Spanned.place g.K.Spanned.place c.args.nodes.now.items (map due c.args.roots.items)
    c.loop-root.end c.loop-root.nodes.items c.loop-root.roots.items c.pop.new.self.items
    c.in-Some-pop.root c.loop-root.turned.items c.loop-root.settled.items c.number-last.result
    c.loop-root.invariant.going c.in-Some-pop.ensures.items c.number-last.ensures

pub turn_root-requires : goal.turn_root-requires
turn_root-requires g c =
    root-ready g.F.Spanned.place g.C.Spanned.place g.K.Spanned.place c.args.nodes.now.items (map due c.args.roots.items)
    c.loop-root.end c.loop-root.nodes.items c.loop-root.roots.items c.pop.new.self.items
    c.in-Some-pop.root c.loop-root.turned.items c.loop-root.settled.items c.number-last.result
    c.loop-root.invariant.going c.in-Some-pop.ensures.items c.number-last.ensures c.drop_settled.new.settled.items
    c.drop_settled.ensures c.clear.new.nodes.items c.clear.ensures

pub returns-in_err-first-clause-kept : goal.returns-in_err-first-clause-kept
returns-in_err-first-clause-kept g c =
    root-stopped g.F.Spanned.place g.C.Spanned.place g.K.Spanned.place c.args.nodes.now.items
    (map due c.args.roots.items) c.loop-root.end c.loop-root.nodes.items c.loop-root.roots.items c.pop.new.self.items
    c.in-Some-pop.root c.loop-root.turned.items c.loop-root.settled.items c.number-last.result
    c.loop-root.invariant.going c.in-Some-pop.ensures.items c.number-last.ensures c.drop_settled.new.settled.items
    c.drop_settled.ensures c.clear.new.nodes.items c.clear.ensures c.turn_root.new.nodes.items
    c.turn_root.new.settled.items c.in_err-first.ensures

pub returns-in-Err-clause-kept : goal.returns-in-Err-clause-kept
returns-in-Err-clause-kept g c =
    root-unheld g.F.Spanned.place g.C.Spanned.place g.K.Spanned.place c.args.nodes.now.items
    (map due c.args.roots.items) c.loop-root.end c.loop-root.nodes.items c.loop-root.roots.items c.pop.new.self.items
    c.in-Some-pop.root c.loop-root.turned.items c.loop-root.settled.items c.number-last.result
    c.loop-root.invariant.going c.in-Some-pop.ensures.items c.number-last.ensures c.drop_settled.new.settled.items
    c.drop_settled.ensures c.clear.new.nodes.items c.clear.ensures c.in_ok-first.first
    c.turn_root.new.nodes.items c.truncate-in-Err.new.self.items c.turn_root.new.settled.items c.in_ok-first.ensures
    c.truncate-in-Err.ensures.items

pub loop-root-smaller : goal.loop-root-smaller
loop-root-smaller g c = less c.loop-root.roots.items c.pop.new.self.items c.in-Some-pop.root c.in-Some-pop.ensures.items

pub loop-root-preserved : goal.loop-root-preserved
loop-root-preserved g c =
    record {
      going = root-next g.F.Spanned.place g.C.Spanned.place g.K.Spanned.place c.args.nodes.now.items
          (map due c.args.roots.items) c.loop-root.end c.loop-root.nodes.items c.loop-root.roots.items
          c.pop.new.self.items c.in-Some-pop.root c.loop-root.turned.items c.loop-root.settled.items
          c.number-last.result c.loop-root.invariant.going c.in-Some-pop.ensures.items c.number-last.ensures
          c.drop_settled.new.settled.items c.drop_settled.ensures c.clear.new.nodes.items c.clear.ensures
          c.in_ok-first.first c.turn_root.new.nodes.items c.turn_root.new.settled.items c.push.new.self.items
          c.in_ok-first.ensures c.in_default-push.ensures.items;
      ranges = inr (root-ranges g.F.Spanned.place g.C.Spanned.place g.K.Spanned.place c.args.nodes.now.items
          (map due c.args.roots.items) c.loop-root.end c.loop-root.nodes.items c.loop-root.roots.items
          c.pop.new.self.items c.in-Some-pop.root c.loop-root.turned.items c.loop-root.settled.items
          c.number-last.result c.loop-root.invariant.going c.in-Some-pop.ensures.items c.number-last.ensures
          c.drop_settled.new.settled.items c.drop_settled.ensures c.clear.new.nodes.items c.clear.ensures
          c.in_ok-first.first c.turn_root.new.nodes.items c.turn_root.new.settled.items c.in_ok-first.ensures);
    }

pub loop-block-init : goal.loop-block-init
loop-block-init g c =
    put-first g.F.Spanned.place g.C.Spanned.place g.K.Spanned.place c.args.nodes.now.items (map due c.args.roots.items)
    c.loop-root.end c.loop-root.nodes.items c.loop-root.roots.items c.args.roots.items c.loop-root.turned.items
    c.loop-root.settled.items c.loop-root.invariant.going
    (sym c.loop-root.roots.ok.0 ∙ c.in_default-pop.ensures.cases.0)
    (some-there c.args.roots.items c.in-Some.last.now
    (last-read c.args.roots.items c.deref.result.now c.last.result c.in-Some.last c.deref.ensures.value
    c.last.ensures.value c.in-Some.is))
    c.loop-root.invariant.ranges

pub loop-block-smaller : goal.loop-block-smaller
loop-block-smaller g c =
    less c.loop-block.turned.items c.pop-in-loop-block.new.self.items c.in-Some-pop-2.block
    c.in-Some-pop-2.ensures.items

pub loop-block-preserved : goal.loop-block-preserved
loop-block-preserved g c =
    put-next g.F.Spanned.place g.C.Spanned.place g.K.Spanned.place c.loop-root.nodes.items c.loop-block.settled.items
    c.loop-block.turned.items c.pop-in-loop-block.new.self.items c.push-in-Some-pop-2.new.self.items
    c.in-Some-pop-2.block c.in-Some-pop-2.ensures.items c.in_ok-push.ensures.items c.loop-block.invariant

pub returns-in_err-push-clause-kept : goal.returns-in_err-push-clause-kept
returns-in_err-push-clause-kept g c =
    put-kept g.F.Spanned.place g.C.Spanned.place g.K.Spanned.place c.args.nodes.now.items (map due c.args.roots.items)
    c.loop-root.end c.loop-root.nodes.items c.loop-root.roots.items c.args.roots.items c.loop-root.turned.items
    c.loop-root.settled.items c.loop-root.invariant.going
    (sym c.loop-root.roots.ok.0 ∙ c.in_default-pop.ensures.cases.0)
    (some-there c.args.roots.items c.in-Some.last.now
    (last-read c.args.roots.items c.deref.result.now c.last.result c.in-Some.last c.deref.ensures.value
    c.last.ensures.value c.in-Some.is))
    c.loop-root.invariant.ranges
    c.push-in-Some-pop-2.new.self.items c.loop-block.turned.items
    (subst
    (λ v. Put g.F.Spanned.place g.C.Spanned.place g.K.Spanned.place c.loop-root.nodes.items v c.loop-block.turned.items)
    (sym c.in_err-push.ensures.items) c.loop-block.invariant)

pub returns-clause-kept : goal.returns-clause-kept
returns-clause-kept g c =
    put-kept g.F.Spanned.place g.C.Spanned.place g.K.Spanned.place c.args.nodes.now.items (map due c.args.roots.items)
    c.loop-root.end c.loop-root.nodes.items c.loop-root.roots.items c.args.roots.items c.loop-root.turned.items
    c.loop-root.settled.items c.loop-root.invariant.going
    (sym c.loop-root.roots.ok.0 ∙ c.in_default-pop.ensures.cases.0)
    (some-there c.args.roots.items c.in-Some.last.now
    (last-read c.args.roots.items c.deref.result.now c.last.result c.in-Some.last c.deref.ensures.value
    c.last.ensures.value c.in-Some.is))
    c.loop-root.invariant.ranges
    c.loop-block.settled.items c.loop-block.turned.items c.loop-block.invariant

pub returns-clause-turned : goal.returns-clause-turned
returns-clause-turned g c =
    put-done g.F.Spanned.place g.C.Spanned.place g.K.Spanned.place c.args.nodes.now.items (map due c.args.roots.items)
    c.loop-root.end c.loop-root.nodes.items c.loop-root.roots.items c.args.roots.items c.loop-root.turned.items
    c.loop-root.settled.items c.loop-root.invariant.going
    (sym c.loop-root.roots.ok.0 ∙ c.in_default-pop.ensures.cases.0)
    (some-there c.args.roots.items c.in-Some.last.now
    (last-read c.args.roots.items c.deref.result.now c.last.result c.in-Some.last c.deref.ensures.value
    c.last.ensures.value c.in-Some.is))
    c.loop-root.invariant.ranges
