use Rattle.std.proofs.Common.{reverse, sym, subst, ◌∙◌}
use Rattle.std.proofs.lemmas.List.{nil_from_length}
use Rattle.swc_trees.specs.Shells.{Reads}
use Rattle.swc_trees.proofs.{Puts.split-lighter, Shells.reads-starts, Shells.reads-more}
use Rattle.swc_trees.proofs.putting.shells_of.Goals as goal

pub loop-tree-init : goal.loop-tree-init
loop-tree-init g c =
    reads-starts g.F.Spanned.place g.C.Spanned.place g.K.Spanned.place c.args.due.items c.new-shells.ensures.items

pub loop-tree-smaller : goal.loop-tree-smaller
loop-tree-smaller g c =
    split-lighter g.F.Spanned.place g.C.Spanned.place g.K.Spanned.place c.in-Some.tree c.in-Some.ensures.items
    c.in_ok-node.ensures

pub loop-tree-preserved : goal.loop-tree-preserved
loop-tree-preserved g c =
    reads-more g.F.Spanned.place g.C.Spanned.place g.K.Spanned.place c.args.due.items c.loop-tree.shells.items
    c.in-Some.tree (record { node = c.in_ok-node.node; from = c.len-from.result }) c.in-Some.ensures.items
    (c.len-from.ensures ∙ c.pop.new.self.ok.0) c.in_ok-node.ensures c.in_ok-push.ensures.items c.loop-tree.invariant

pub returns : goal.returns
returns g c =
    subst
    (λ v. Reads g.F.Spanned.place g.C.Spanned.place g.K.Spanned.place
    (reverse c.loop-tree.shells.items) v c.args.due.items)
    (nil_from_length c.loop-tree.due.items (sym c.loop-tree.due.ok.0 ∙ c.in_default.ensures.cases.0))
    c.loop-tree.invariant
