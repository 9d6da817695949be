use Rattle.std.proofs.Common.{◌+◌, Some, None, map, sym, ap, ◌∙◌, arith}
use Rattle.std.specs.Prelude.{nat_eq}
use Rattle.std.proofs.lemmas.List.{get_or_default}
use Rattle.swc_nodes.specs.NodeParts.{if_some, item_parts}
use Rattle.swc_nodes.specs.Roles.{due}
use Rattle.swc_nodes.specs.Turning.{node_at, place_in}
use Rattle.swc_nodes.proofs.Recasts.{elems-made, hole-made, item-made, parts-in-at, read-as, ElemsMade}
use Rattle.swc_nodes.proofs.recasting.to_elems.Goals as goal
use Rattle.swc_nodes.proofs.recasting.to_elems.Goals.{in-None+in_ok-push-in-None, in-Some+in_ok-add_item-in-Some}

pub add_item-requires : goal.add_item-requires
add_item-requires g c =
    let es = c.args.elems.now.items in
    let i = c.loop-i.i in
    parts-in-at c.args.nodes.now.items (if_some item_parts) es i (Some c.in-Some.item)
    (omega (arith, c.without_holes-i-end.ensures.within)) (read-as es i c.index.ensures c.in-Some.is) c.requires

pub loop-i-preserved : goal.loop-i-preserved
loop-i-preserved g c =
    let xs = c.args.nodes.now.items in
    let at = node_at xs in
    let place = place_in g.F.Spanned.place g.C.Spanned.place g.K.Spanned.place xs in
    let r = c.args.role in
    let es = c.args.elems.now.items in
    let i = c.loop-i.i in
    let lt = c.loop-i-test.true in
    let within = c.without_holes-i-end.ensures.within in
    let so_far : ElemsMade at place r es (map due c.args.due.now.items) c.loop-i.pats.items
    (map due c.loop-i.due.items) i
    = record { items = c.loop-i.invariant.pats; dues = c.loop-i.invariant.dues } in
    let made : ElemsMade at place r es (map due c.args.due.now.items) c.match-index.pats.items
    (map due c.match-index.due.items) (i + 1) = elim c.match-index.branch [
      | in-None+in_ok-push-in-None w ↦
          hole-made at place r es i (omega arith) (sym (read-as es i c.index.ensures w.in-None.is))
          (c.without_holes-i-end.ensures.before i lt)
          (ap (λ v. v.items) w.pats-is ∙ w.in_ok-push-in-None.ensures.items) (ap (λ v. map due v.items) w.due-is) so_far
      | in-Some+in_ok-add_item-in-Some w ↦
          item-made at place r es i w.in-Some.item (nat_eq (i + 1) w.len.result) (omega arith)
          (get_or_default es i None (Some w.in-Some.item) (omega arith)
          ∙ sym (read-as es i c.index.ensures w.in-Some.is))
          (ap (λ v. nat_eq (i + 1) v) (w.len.ensures ∙ c.args.elems.now.ok.0))
          (ap (λ v. v.items) w.pats-is ∙ w.in_ok-add_item-in-Some.ensures.items)
          (ap (λ v. map due v.items) w.due-is ∙ w.in_ok-add_item-in-Some.ensures.dues) so_far
    ] in
    record { pats = made.items; dues = made.dues }

pub returns-clause-elems : goal.returns-clause-elems
returns-clause-elems g c =
    let so_far = c.loop-i.invariant in
    let xs = c.args.nodes.now.items in
    let made = elems-made (node_at xs) (place_in g.F.Spanned.place g.C.Spanned.place g.K.Spanned.place xs) c.args.role
    c.args.elems.now.items c.loop-i.i c.without_holes-i-end.result {before = map due c.args.due.now.items}
    {now = map due c.loop-i.due.items} {pats = c.loop-i.pats.items} c.without_holes-i-end.ensures.after
    (omega (arith, c.loop-i-test.false, c.loop-i.auto.i-end)) (record { items = so_far.pats; dues = so_far.dues }) in
    made.items

pub returns-clause-dues : goal.returns-clause-dues
returns-clause-dues g c =
    let so_far = c.loop-i.invariant in
    let xs = c.args.nodes.now.items in
    let made = elems-made (node_at xs) (place_in g.F.Spanned.place g.C.Spanned.place g.K.Spanned.place xs) c.args.role
    c.args.elems.now.items c.loop-i.i c.without_holes-i-end.result {before = map due c.args.due.now.items}
    {now = map due c.loop-i.due.items} {pats = c.loop-i.pats.items} c.without_holes-i-end.ensures.after
    (omega (arith, c.loop-i-test.false, c.loop-i.auto.i-end)) (record { items = so_far.pats; dues = so_far.dues }) in
    made.dues
