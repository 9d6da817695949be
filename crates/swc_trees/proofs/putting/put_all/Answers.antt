use Rattle.std.proofs.Common.{refl, sym, ◌∙◌}
use Rattle.std.proofs.lemmas.List.{nil_from_length}
use Rattle.swc_nodes.proofs.Standing.{grows-same, grows-then}
use Rattle.swc_trees.proofs.Puts.{puts-refused}
use Rattle.swc_trees.proofs.Shells.{filling-starts, filling-node, filling-more, filling-ends}
use Rattle.swc_trees.proofs.putting.put_all.Goals as goal

pub returns-in_err-shells : goal.returns-in_err-shells
returns-in_err-shells g c = puts-refused _ c.from_residual.ensures.0 (grows-same c.args.nodes.now)

pub loop-shell-init : goal.loop-shell-init
loop-shell-init g c = record {
  from = refl;
  filling = filling-starts c.args.nodes.now c.new-ids.ensures.items c.in_ok-shells.ensures;
}

pub push-requires : goal.push-requires
push-requires g c =
    let i = c.loop-shell.invariant in
    (filling-node c.loop-shell.numbers c.in-Some.shell i.from c.in-Some.ensures.items i.filling
    c.renumber.ensures.renumbered c.renumber.ensures.form).apart

pub returns-in_err-number : goal.returns-in_err-number
returns-in_err-number g c =
    puts-refused _ c.from_residual-in_err-number.ensures.0
    (grows-then c.loop-shell.invariant.filling.grows c.push.ensures.grows)

pub returns-in_err-push : goal.returns-in_err-push
returns-in_err-push g c =
    puts-refused _ c.from_residual-in_err-push.ensures.0
    (grows-then c.loop-shell.invariant.filling.grows c.push.ensures.grows)

pub loop-shell-preserved : goal.loop-shell-preserved
loop-shell-preserved g c =
    let i = c.loop-shell.invariant in
    let filled =
    filling-node c.loop-shell.numbers c.in-Some.shell i.from c.in-Some.ensures.items i.filling
    c.renumber.ensures.renumbered c.renumber.ensures.form in
    record {
      from = i.from;
      filling =
          filling-more c.push.new.self c.push-in-Some.new.self.items c.in_ok-number.number filled
          c.push.ensures.grows c.in_ok-number.ensures.added c.truncate.ensures.items c.in_ok-push.ensures.items;
    }

pub returns : goal.returns
returns g c =
    filling-ends c.loop-shell.numbers.ids
    (nil_from_length c.loop-shell.shells.items (sym c.loop-shell.shells.ok.0 ∙ c.in_default.ensures.cases.0))
    c.loop-shell.invariant.filling
